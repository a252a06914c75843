-- The parts of a text, one after the other: the first is what stands before the first separator, and the others are those of
-- what stands behind it.
use Prim.Native.Nat.{ℕ, suc, ◌<◌, ◌≤◌}
use mathlib.Core.Path.{◌≡◌, refl, ap, sym, ◌∙◌}
use mathlib.Core.Bool.{Bool, true, false, cond}
use mathlib.Core.List.{List, [], ◌∷◌, ◌++◌}
use native.Mathlib.Omega.{arith}
use lib.Dec.{eqb}
use borrow.Author.Tests.{eqb-true}
use lib.ListN.{length, get_or, take, drop}
use lib.Seq.{drop-cons}
use Rattle.basis_lines.specs.Fields.{before, parts, first_part}

-- There is always a first part.
some_part : (s : ℕ) (text : List ℕ) → 1 ≤ length (parts s text)
unfolding parts
some_part s [] = omega arith
some_part s (b ∷ text) = cases (eqb b s) refl (some_part s text)
  where
    some_before : (ps : List (List ℕ)) → 1 ≤ length (before b ps)
    some_before [] = omega arith
    some_before (p ∷ ps) = omega arith

    cases : (t : Bool) → eqb b s ≡ t → 1 ≤ length (parts s text) → 1 ≤ length (parts s (b ∷ text))
    cases true e h = rw e (omega arith)
    cases false e h = rw e (some_before (parts s text))

pub first_of_parts : (s : ℕ) (text : List ℕ) → parts s text ≡ first_part s text ∷ drop 1 (parts s text)
first_of_parts s text = drop-cons (parts s text) 0 [] (some_part s text)

-- A byte more in front: the separator itself, or a byte of the first part.
pub first_separator : (s b : ℕ) (text : List ℕ) → eqb b s ≡ true → first_part s (b ∷ text) ≡ []
unfolding parts
first_separator s b text e = rw e

pub first_other : (s b : ℕ) (text : List ℕ) → eqb b s ≡ false → first_part s (b ∷ text) ≡ b ∷ first_part s text
unfolding parts
first_other s b text e =
    ap (λ t. get_or (cond t ([] ∷ parts s text) (before b (parts s text))) 0 []) e
    ∙ ap (λ ps. get_or (before b ps) 0 []) (first_of_parts s text)

-- The first part is the text's beginning, up to a separator if there is one.
pub first_length : (s : ℕ) (text : List ℕ) → length (first_part s text) ≤ length text
unfolding parts
first_length s [] = omega arith
first_length s (b ∷ text) = cases (eqb b s) refl (first_length s text)
  where
    cases : (t : Bool) → eqb b s ≡ t → length (first_part s text) ≤ length text → length (first_part s (b ∷ text)) ≤ suc (length text)
    cases true e h = omega (arith, ap length (first_separator s b text e))
    cases false e h = omega (arith, ap length (first_other s b text e), h)

pub first_take : (s : ℕ) (text : List ℕ) → first_part s text ≡ take (length (first_part s text)) text
unfolding parts
first_take s [] = refl
first_take s (b ∷ text) = cases (eqb b s) refl (first_take s text)
  where
    cases : (t : Bool) → eqb b s ≡ t → first_part s text ≡ take (length (first_part s text)) text
        → first_part s (b ∷ text) ≡ take (length (first_part s (b ∷ text))) (b ∷ text)
    cases true e h = first_separator s b text e ∙ ap (λ p. take (length p) (b ∷ text)) (sym (first_separator s b text e))
    cases false e h =
        first_other s b text e
        ∙ ap (λ p. b ∷ p) h
        ∙ ap (λ p. take (length p) (b ∷ text)) (sym (first_other s b text e))

-- A text without a separator is one part; else the other parts are those behind the separator.
pub one_part : (s : ℕ) (text : List ℕ) → length (first_part s text) ≡ length text → parts s text ≡ text ∷ []
unfolding parts
one_part s [] whole = refl
one_part s (b ∷ text) whole = cases (eqb b s) refl (one_part s text)
  where
    cases : (t : Bool) → eqb b s ≡ t
        → (length (first_part s text) ≡ length text → parts s text ≡ text ∷ [])
        → parts s (b ∷ text) ≡ (b ∷ text) ∷ []
    cases true e h = absurd (omega (arith, ap length (first_separator s b text e), whole))
    cases false e h =
        ap (λ t. cond t ([] ∷ parts s text) (before b (parts s text))) e
        ∙ ap (before b) (h (omega (arith, ap length (first_other s b text e), whole)))

pub more_parts : (s : ℕ) (text : List ℕ)
    → length (first_part s text) < length text
    → parts s text ≡ first_part s text ∷ parts s (drop (suc (length (first_part s text))) text)
unfolding parts
more_parts s [] more = absurd (omega (arith, more))
more_parts s (b ∷ text) more = cases (eqb b s) refl (more_parts s text)
  where
    cases : (t : Bool) → eqb b s ≡ t
        → (length (first_part s text) < length text → parts s text ≡ first_part s text ∷ parts s (drop (suc (length (first_part s text))) text))
        → parts s (b ∷ text) ≡ first_part s (b ∷ text) ∷ parts s (drop (suc (length (first_part s (b ∷ text)))) (b ∷ text))
    cases true e h =
        ap (λ t. cond t ([] ∷ parts s text) (before b (parts s text))) e
        ∙ ap (λ p. p ∷ parts s (drop (suc (length p)) (b ∷ text))) (sym (first_separator s b text e))
    cases false e h =
        ap (λ t. cond t ([] ∷ parts s text) (before b (parts s text))) e
        ∙ ap (before b) (h (omega (arith, ap length (first_other s b text e), more)))
        ∙ ap (λ p. p ∷ parts s (drop (suc (length p)) (b ∷ text))) (sym (first_other s b text e))

-- Where it is shorter than the text, a separator follows.
pub separated : (s : ℕ) (text : List ℕ)
    → length (first_part s text) < length text
    → text ≡ first_part s text ++ (s ∷ drop (suc (length (first_part s text))) text)
unfolding parts
separated s [] more = absurd (omega (arith, more))
separated s (b ∷ text) more = cases (eqb b s) refl (separated s text)
  where
    cases : (t : Bool) → eqb b s ≡ t
        → (length (first_part s text) < length text → text ≡ first_part s text ++ (s ∷ drop (suc (length (first_part s text))) text))
        → b ∷ text ≡ first_part s (b ∷ text) ++ (s ∷ drop (suc (length (first_part s (b ∷ text)))) (b ∷ text))
    cases true e h =
        ap (λ x. x ∷ text) (eqb-true b s e)
        ∙ ap (λ p. p ++ (s ∷ drop (suc (length p)) (b ∷ text))) (sym (first_separator s b text e))
    cases false e h =
        ap (λ p. b ∷ p) (h (omega (arith, ap length (first_other s b text e), more)))
        ∙ ap (λ p. p ++ (s ∷ drop (suc (length p)) (b ∷ text))) (sym (first_other s b text e))
