-- `print_answer::refused`: the word, the number, and the byte 10.
use Rattle.std.proofs.Common.{arith, ap, List, ℕ, ◌++◌, ◌∷◌, []}
use Rattle.basis_lines.specs.Fields.{tab, newline}
use Rattle.basis_lines.specs.Numbers.{decimal}
use Rattle.basis_lines.specs.Answers.{refused_word, refused_text}
use Rattle.print_answer.proofs.Texts.{part_more, same_text}
use Rattle.print_answer.proofs.refused.Goals as goal

pub returns : goal.returns
unfolding refused_text
returns c =
    let out = c.args.out.now in
    let word : List ℕ = refused_word ++ (tab ∷ []) in
    let first = c.put-len.ensures in
    let second = c.put_decimal-len.ensures in
    let third = c.put_newline.ensures in
    let number = decimal c.number.result in
    let to_number = part_more word number out first.value first.out_after second.value second.out_after (omega arith) in
    let whole =
    part_more (word ++ number) (newline ∷ []) out to_number.value to_number.out_after third.value third.out_after (omega arith)
    in
    let same = same_text (ap (λ (n : ℕ). word ++ decimal n ++ (newline ∷ [])) c.number.ensures) whole in
    record { value = same.value; out_after = same.out_after }
