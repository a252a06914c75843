-- A text written part by part.
use Rattle.std.proofs.Common.{◌≡◌, ℕ, ◌+◌, ◌-◌, ◌≤◌, List, ◌++◌, length, subst, take, drop, arith, length-append}
use borrow.Rule.Slice.PartMut.{put_mid}
use Rattle.basis_lines.specs.Answers.{written}
use Rattle.print_digits.proofs.Digits.{part_written}

-- What a count and a buffer are once a text is written.
pub record Wrote (text old : List ℕ) (count : ℕ) (new : List ℕ) : Type 0 where
  pub value : count ≡ length text
  pub out_after : new ≡ written text old

-- A part more, in the rest of the buffer.
pub part_more : (a b old : List ℕ) {n m : ℕ} {mid part : List ℕ} → n ≡ length a → mid ≡ written a old →
    m ≡ length b → part ≡ written b (take (length mid - n) (drop n mid)) → n + m ≤ length old →
    Wrote (a ++ b) old (n + m) (put_mid n (length mid - n) mid part)
part_more a b old e f g h fits =
    record { value = omega (arith, length-append {A = ℕ}); out_after = rw (h, f, e) (part_written a b old (omega arith)) }

-- The same text by another name.
pub same_text : {a b old new : List ℕ} {n : ℕ} → a ≡ b → Wrote a old n new → Wrote b old n new
same_text {old = old} {new = new} {n = n} e f = subst (λ (t : List ℕ). Wrote t old n new) e f
