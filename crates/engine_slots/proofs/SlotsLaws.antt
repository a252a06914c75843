-- The four records one by one: that they are all, one of them read and replaced, and the lowest of which a test holds.
use Prim.Native.Nat.{ℕ, zero, suc, ◌≤◌, ◌<◌}
use mathlib.Core.Path.{◌≡◌, refl, sym, ap, ◌∙◌}
use mathlib.Core.Bool.{Bool, false, cond}
use mathlib.Core.List.{List, [], ◌∷◌}
use native.Mathlib.Omega.{arith}
use lib.Dec.{eqb}
use lib.ListN.{length, get_or, set, get_or-eq_default}
use lib.Seq.{set_out}
use borrow.Author.Tests.{ne_eqb}
use Rattle.std.specs.Prelude.{Option, None, Some}
use Rattle.basis.specs.declared.Record.{Record}
use Rattle.basis_engine.specs.Slots.{free_record, record_at, put_at, lowest_from, lowest}

pub four_records : (records : List Record) → length records ≡ 4 → (missing : Record) →
    get_or records 0 missing ∷ get_or records 1 missing ∷ get_or records 2 missing ∷ get_or records 3 missing ∷ [] ≡ records
four_records [] four missing = absurd (omega arith)
four_records (a ∷ []) four missing = absurd (omega arith)
four_records (a ∷ b ∷ []) four missing = absurd (omega arith)
four_records (a ∷ b ∷ c ∷ []) four missing = absurd (omega arith)
four_records (a ∷ b ∷ c ∷ d ∷ []) four missing = refl
four_records (a ∷ b ∷ c ∷ d ∷ e ∷ rest) four missing = absurd (omega arith)

other : (slot n : ℕ) → slot < n → eqb slot n ≡ false
other slot n below = ne_eqb slot n (λ e. omega (arith, e, below))

-- Four records, each replaced if the slot is its own, are the records with that slot's replaced.
module _ (a b c d : Record) where
  all_elsewhere : (n : ℕ) → 4 ≤ n → (new : Record) →
      cond (eqb 0 n) new a ∷ cond (eqb 1 n) new b ∷ cond (eqb 2 n) new c ∷ cond (eqb 3 n) new d ∷ [] ≡ set (a ∷ b ∷ c ∷ d ∷ []) n new
  all_elsewhere n h new =
      rw (other 0 n (omega arith), other 1 n (omega arith), other 2 n (omega arith), other 3 n (omega arith))
      (sym (set_out (a ∷ b ∷ c ∷ d ∷ []) n new (omega arith)))

  none_chosen : (n : ℕ) → 4 ≤ n →
      cond (eqb 0 n) a (cond (eqb 1 n) b (cond (eqb 2 n) c (cond (eqb 3 n) d free_record))) ≡ record_at (a ∷ b ∷ c ∷ d ∷ []) n
  none_chosen n h =
      rw (other 0 n (omega arith), other 1 n (omega arith), other 2 n (omega arith), other 3 n (omega arith))
      (sym (get_or-eq_default (a ∷ b ∷ c ∷ d ∷ []) free_record {n = n} (omega arith)))

  each_replaced : (n : ℕ) (new : Record) →
      cond (eqb 0 n) new a ∷ cond (eqb 1 n) new b ∷ cond (eqb 2 n) new c ∷ cond (eqb 3 n) new d ∷ [] ≡ set (a ∷ b ∷ c ∷ d ∷ []) n new
  each_replaced zero new = refl
  each_replaced (suc zero) new = refl
  each_replaced (suc (suc zero)) new = refl
  each_replaced (suc (suc (suc zero))) new = refl
  each_replaced (suc (suc (suc (suc n)))) new = all_elsewhere (suc (suc (suc (suc n)))) (omega arith) new

  -- And the one whose slot it is, is the record in that slot.
  one_chosen : (n : ℕ) → cond (eqb 0 n) a (cond (eqb 1 n) b (cond (eqb 2 n) c (cond (eqb 3 n) d free_record))) ≡ record_at (a ∷ b ∷ c ∷ d ∷ []) n
  one_chosen zero = refl
  one_chosen (suc zero) = refl
  one_chosen (suc (suc zero)) = refl
  one_chosen (suc (suc (suc zero))) = refl
  one_chosen (suc (suc (suc (suc n)))) = none_chosen (suc (suc (suc (suc n)))) (omega arith)

pub slot_put : (records : List Record) → length records ≡ 4 → (missing : Record) (n : ℕ) (slot : Option ℕ) → slot ≡ Some n →
    (new first second third fourth : Record) →
    first ≡ cond (eqb 0 n) new (get_or records 0 missing) → second ≡ cond (eqb 1 n) new (get_or records 1 missing) →
    third ≡ cond (eqb 2 n) new (get_or records 2 missing) → fourth ≡ cond (eqb 3 n) new (get_or records 3 missing) →
    first ∷ second ∷ third ∷ fourth ∷ [] ≡ put_at records slot new
slot_put records four missing n slot is new first second third fourth e f g h =
    rw (is, e, f, g, h) (each_replaced _ _ _ _ n new ∙ ap (λ (rs : List Record). set rs n new) (four_records records four missing))

pub slot_read : (records : List Record) → length records ≡ 4 → (missing : Record) (n : ℕ) (above fourth third second first : Record) →
    above ≡ free_record → fourth ≡ cond (eqb 3 n) (get_or records 3 missing) above → third ≡ cond (eqb 2 n) (get_or records 2 missing) fourth →
    second ≡ cond (eqb 1 n) (get_or records 1 missing) third → first ≡ cond (eqb 0 n) (get_or records 0 missing) second →
    first ≡ record_at records n
slot_read records four missing n above fourth third second first free e f g h =
    rw (h, g, f, e, free) (one_chosen _ _ _ _ n ∙ ap (λ (rs : List Record). record_at rs n) (four_records records four missing))

-- The lowest slot whose test held, where the first of the tests is that of slot n.
abbrev pub lowest_of : ℕ → List Bool → Option ℕ
lowest_of n [] = None
lowest_of n (held ∷ tests) = cond held (Some n) (lowest_of (suc n) tests)

-- A test of each of the four, and the lowest slot of which it held.
tested_four : (test : Record → Bool) (n : ℕ) (a b c d : Record) →
    lowest_of n (test a ∷ test b ∷ test c ∷ test d ∷ []) ≡ lowest_from n test (a ∷ b ∷ c ∷ d ∷ [])
unfolding lowest_from
tested_four test n a b c d = refl

pub lowest_found : (test : Record → Bool) (records : List Record) → length records ≡ 4 → (missing : Record) (first second third fourth : Bool) →
    first ≡ test (get_or records 0 missing) → second ≡ test (get_or records 1 missing) →
    third ≡ test (get_or records 2 missing) → fourth ≡ test (get_or records 3 missing) →
    (slot : Option ℕ) → slot ≡ lowest_of 0 (first ∷ second ∷ third ∷ fourth ∷ []) → slot ≡ lowest test records
lowest_found test records four missing first second third fourth e f g h slot told =
    rw (told, e, f, g, h) (tested_four test 0 _ _ _ _ ∙ ap (lowest_from 0 test) (four_records records four missing))
