-- Forms that have so many fields: the next field, and the last.
use Prim.Native.Nat.{ℕ, suc, ◌<◌, ◌≤◌}
use mathlib.Core.Path.{◌≡◌, refl, ap, sym, ◌∙◌}
use mathlib.Core.Bool.{Bool, true, false, cond}
use mathlib.Core.List.{List, [], ◌∷◌, ◌++◌}
use Rattle.std.specs.Prelude.{Option, None, Some}
use mathlib.Core.Logic.{⊎_elim}
use native.Mathlib.Nat.{eq-or-lt_of_le}
use native.Mathlib.Omega.{arith}
use lib.Dec.{eqb}
use lib.ListN.{length, drop, length-append}
use borrow.Author.Tests.{eq-eqb, ne_eqb}
use Rattle.basis_engine.specs.Machine.{Invocation}
use Rattle.basis_lines.specs.Fields.{tab, parts, first_part, ◌then◌}
use Rattle.basis_lines.proofs.FieldLaws.{first_length, one_part, more_parts, first_of_parts}
use Rattle.basis_lines.proofs.ReadingLaws.{then_none}
use Rattle.parse_forms.specs.Commands.{if_count}

-- A call that needs so many fields.
if_count_lem : (count : ℕ) (call : List (List ℕ) → Option Invocation) (fields : List (List ℕ)) → length fields ≡ count
    → if_count count call fields ≡ call fields
if_count_lem count call fields e = ap (λ t. cond t (call fields) None) (eq-eqb (length fields) count e)

unless_count : (count : ℕ) (call : List (List ℕ) → Option Invocation) (fields : List (List ℕ)) → (length fields ≡ count → ⊥)
    → if_count count call fields ≡ None
unless_count count call fields h = ap (λ t. cond t (call fields) None) (ne_eqb (length fields) count h)

-- The last field is all that is left of the line: a call that refuses a tab in it needs no count of the fields.
pub last_field : (count : ℕ) (call : List (List ℕ) → Option Invocation) (front : List (List ℕ)) (last : List ℕ)
    → suc (length front) ≡ count
    → (length (first_part tab last) < length last → call (front ++ (last ∷ [])) ≡ None)
    → call (front ++ (last ∷ [])) ≡ if_count count call (front ++ parts tab last)
last_field count call front last e refuses = ⊎_elim alone more (eq-or-lt_of_le (first_length tab last))
  where
    alone : length (first_part tab last) ≡ length last → call (front ++ (last ∷ [])) ≡ if_count count call (front ++ parts tab last)
    alone h =
        sym
        (ap (λ ps. if_count count call (front ++ ps)) (one_part tab last h)
        ∙ if_count_lem count call (front ++ (last ∷ [])) (omega (arith, e, length-append front (last ∷ []))))

    rest : List ℕ
    rest = drop (suc (length (first_part tab last))) last

    more : length (first_part tab last) < length last → call (front ++ (last ∷ [])) ≡ if_count count call (front ++ parts tab last)
    more h =
        refuses h
        ∙ sym
        (ap (λ ps. if_count count call (front ++ ps)) (more_parts tab last h)
        ∙ unless_count count call (front ++ (first_part tab last ∷ parts tab rest))
        (λ k. omega (arith, k, e, length-append front (first_part tab last ∷ parts tab rest), ap length (first_of_parts tab rest))))

-- A test of what is read, before the reading or behind it.
cond_then : {A B : Type 0} (test : Bool) (o : Option A) (next : A → Option B)
    → cond test (o then next) None ≡ (o then λ a. cond test (next a) None)
cond_then true o next = refl
cond_then false o next = sym (then_none o _ (λ a. refl))

-- Fields of which the first ones, `front`, are read already: the next one is read, and makes with the others what `next` says. It
-- is not the last of the form.
pub record ReadNext {A : Type 0} (count : ℕ) (front : List (List ℕ)) (call : List (List ℕ) → Option Invocation) (read : List ℕ → Option A)
    (next : A → List (List ℕ) → Option Invocation) : Type 0 where
  pub not_last : suc (length front) < count
  pub reads : (x : List ℕ) (ys : List (List ℕ)) → call (front ++ (x ∷ ys)) ≡ (read x then λ a. next a (front ++ ([] ∷ ys)))

module _ {A : Type 0} {count : ℕ} {front : List (List ℕ)} {call : List (List ℕ) → Option Invocation} {read : List ℕ → Option A}
    {next : A → List (List ℕ) → Option Invocation} (form : ReadNext count front call read next) (rest : List ℕ) where
  abbrev whole : Option Invocation
  whole = if_count count call (front ++ parts tab rest)

  -- No tab is behind it.
  pub alone : length rest ≤ length (first_part tab rest) → whole ≡ None
  alone all =
      ap (λ ps. if_count count call (front ++ ps)) (one_part tab rest (omega (arith, all, first_length tab rest)))
      ∙ unless_count count call (front ++ (rest ∷ [])) (λ e. omega (arith, e, form.not_last, length-append front (rest ∷ [])))

  split : length (first_part tab rest) < length rest
      → whole
      ≡ (read (first_part tab rest) then λ a. if_count count (next a) (front ++ ([] ∷ parts tab (drop (suc (length (first_part tab rest))) rest))))
  split more =
      ap (λ ps. if_count count call (front ++ ps)) (more_parts tab rest more)
      ∙ ap (λ o. cond (eqb (length (front ++ (first ∷ others))) count) o None) (form.reads first others)
      ∙ cond_then (eqb (length (front ++ (first ∷ others))) count) (read first) _
      ∙ ap (λ n. read first then λ a. cond (eqb n count) (next a (front ++ ([] ∷ others))) None)
      (length-append front (first ∷ others) ∙ sym (length-append front ([] ∷ others)))
    where
      first : List ℕ
      first = first_part tab rest

      others : List (List ℕ)
      others = parts tab (drop (suc (length (first_part tab rest))) rest)

  pub unread : read (first_part tab rest) ≡ None → whole ≡ None
  unread e = ⊎_elim (λ all. alone (omega (arith, all))) (λ more. split more ∙ rw e) (eq-or-lt_of_le (first_length tab rest))

  pub goes_on : (a : A) (end : ℕ) (last : List ℕ) → read (first_part tab rest) ≡ Some a → end ≡ length (first_part tab rest)
      → end < length rest → last ≡ drop (suc end) rest → if_count count (next a) (front ++ ([] ∷ parts tab last)) ≡ whole
  goes_on a end last e place more behind =
      ap (λ l. if_count count (next a) (front ++ ([] ∷ parts tab l))) (behind ∙ ap (λ k. drop (suc k) rest) place)
      ∙ sym (split (omega (arith, place)) ∙ rw e refl)
