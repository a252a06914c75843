-- `print_answer::accepted`: the fields in their order, each behind the one before it.
use Rattle.std.proofs.Common.{arith, ap, Option, List, ℕ, ◌++◌, ◌∷◌, []}
use Rattle.basis.specs.Answers.{kind_word}
use Rattle.basis_lines.specs.Fields.{tab, newline}
use Rattle.basis_lines.specs.Answers.{ok_word, number_text}
use Rattle.print_answer.specs.AcceptedText.{bytes_of, shown, accepted_with}
use Rattle.print_answer.proofs.Texts.{part_more, same_text}
use Rattle.print_answer.proofs.accepted.Goals as goal

pub returns : goal.returns
unfolding accepted_with
returns c =
    let out = c.args.out.now in
    let success = c.args.success in
    let kind : List ℕ = ok_word ++ (tab ∷ kind_word success.kind) in
    let slot : List ℕ = tab ∷ number_text success.slot in
    let next : List ℕ = tab ∷ number_text c.deadline.result in
    let frame : List ℕ = tab ∷ shown (bytes_of c.args.frame) in
    let first = c.put_kind-len.ensures in
    let second = c.put_number-len.ensures in
    let third = c.put_number-len-2.ensures in
    let fourth = c.put_frame-len.ensures in
    let fifth = c.put_newline.ensures in
    let to_slot = part_more kind slot out first.value first.out_after second.value second.out_after (omega arith) in
    let to_next =
    part_more (kind ++ slot) next out to_slot.value to_slot.out_after third.value third.out_after (omega arith)
    in
    let to_frame =
    part_more (kind ++ slot ++ next) frame out to_next.value to_next.out_after fourth.value fourth.out_after (omega arith)
    in
    let whole =
    part_more
    (kind ++ slot ++ next ++ frame)
    (newline ∷ [])
    out
    to_frame.value
    to_frame.out_after
    fifth.value
    fifth.out_after
    (omega arith)
    in
    let same =
    same_text (ap (λ (n : Option ℕ). kind ++ slot ++ (tab ∷ number_text n) ++ frame ++ (newline ∷ [])) c.deadline.ensures) whole
    in
    record { value = same.value; out_after = same.out_after }
