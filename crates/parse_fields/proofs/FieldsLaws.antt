-- Where the first part of a text ends.
use Rattle.std.proofs.Common.{ℕ, zero, suc, ◌≤◌, ◌<◌, ◌≡◌, refl, ap, sym, ◌∙◌, true, false, List, [], ◌∷◌, Option, None, Some, eqb, length, get_or, take, arith, unwrap_or}
use Rattle.std.proofs.lemmas.Bool.{false_from_ne_true}
use Rattle.memchr.specs.Find.{IsFirstByte, is_byte}
use Rattle.basis_lines.specs.Fields.{parts, first_part}
use Rattle.basis_lines.proofs.FieldLaws.{first_separator, first_other}

-- The first part goes on up to a separator, or to the end.
part_at : (s : ℕ) (text : List ℕ) (k : ℕ) → k ≤ length text
    → ((j : ℕ) → j < k → eqb (get_or text j 0) s ≡ false)
    → (k < length text → eqb (get_or text k 0) s ≡ true)
    → take k text ≡ first_part s text
unfolding parts
part_at s [] zero within others ends = refl
part_at s [] (suc k) within others ends = absurd (omega arith)
part_at s (b ∷ text) zero within others ends = sym (first_separator s b text (ends (omega arith)))
part_at s (b ∷ text) (suc k) within others ends =
    ap (λ l. b ∷ l) (part_at s text k (omega arith) (λ j h. others (suc j) (omega arith)) (λ h. ends (omega arith)))
    ∙ sym (first_other s b text (others 0 (omega arith)))

-- `part`: up to the place that the search gave.
pub found_part : (s : ℕ) (text : List ℕ) (r : Option ℕ) → IsFirstByte (is_byte s) text r
    → take (unwrap_or r (length text)) text ≡ first_part s text
found_part s text None nowhere =
    part_at s text (length text) (omega arith) (λ j h. false_from_ne_true _ (nowhere j (omega arith) h))
    (λ h. absurd (omega arith))
found_part s text (Some k) found =
    part_at s text k (omega (arith, found.0.high))
    (λ j h. false_from_ne_true _ (found.0.before j (omega arith) h)) (λ h. found.1)
