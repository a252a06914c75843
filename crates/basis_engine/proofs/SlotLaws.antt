-- Laws of the four slots, each over any records and any slot number.
use Prim.Native.Nat.{ℕ, zero, suc, ◌+◌, ◌<◌}
use mathlib.Core.Path.{◌≡◌, refl, sym, ◌∙◌}
use mathlib.Core.Bool.{Bool, true, false, cond, ◌||◌, true≢false, false≢true}
use mathlib.Core.List.{List, [], ◌∷◌}
use Rattle.std.specs.Prelude.{Option, None, Some}
use native.Mathlib.Nat.{not-le_of_lt}
use native.Mathlib.Omega.{arith}
use lib.ListN.{length}
use Rattle.basis.specs.declared.Record.{Record}
use Rattle.std.proofs.lemmas.Bool.{and_parts, or_parts, true_from_ne_false}
use Rattle.std.proofs.lemmas.Option.{none-some}
use Rattle.basis_engine.specs.Slots.{free_record, record_at, any, all, lowest_from, lowest}

module _ (test : Record → Bool) where
  -- The slot that is found, as a number k from the first record on.
  Found : ℕ → List Record → ℕ → Type 0
  Found n records slot = (k : ℕ) × (slot ≡ n + k) × (test (record_at records k) ≡ true) × (k < length records)

  found_here : (n slot : ℕ) (r : Record) (records : List Record) (rest : Option ℕ) →
      (rest ≡ Some slot → Found (suc n) records slot) → (b : Bool) → test r ≡ b → cond b (Some n) rest ≡ Some slot →
      Found n (r ∷ records) slot
  unfolding Found
  found_here n slot r records rest later true t e = let q : n ≡ slot = cc in (zero, omega arith, t, omega arith)
  found_here n slot r records rest later false t e =
      let w = later e in (suc w.0, omega arith, w.2, omega arith)

  found : (n : ℕ) (records : List Record) (slot : ℕ) → lowest_from n test records ≡ Some slot → Found n records slot
  unfolding lowest_from
  found n [] slot e = absurd (none-some _ e)
  found n (r ∷ records) slot e =
      found_here n slot r records (lowest_from (suc n) test records) (found (suc n) records slot) (test r) refl e

  -- A lowest slot is one of which the test holds, and a slot at all.
  pub lowest_holds : (records : List Record) (slot : ℕ) → lowest test records ≡ Some slot →
      (test (record_at records slot) ≡ true) × (slot < length records)
  unfolding Found
  lowest_holds records slot e =
      let w = found 0 records slot e in
      let q : w.0 ≡ slot = omega arith in
      rw (← q) (w.2, w.3)

  -- And it is the lowest: the test fails of each one below.
  below : (n : ℕ) (records : List Record) (slot k : ℕ) → lowest_from n test records ≡ Some slot → n + k < slot →
      test (record_at records k) ≡ false
  unfolding lowest_from
  below n [] slot k e h = absurd (none-some _ e)
  below n (r ∷ records) slot k e h = go (below (suc n) records slot) (test r) refl e k h
    where
      go : ((k : ℕ) → lowest_from (suc n) test records ≡ Some slot → suc n + k < slot → test (record_at records k) ≡ false) →
          (b : Bool) → test r ≡ b → cond b (Some n) (lowest_from (suc n) test records) ≡ Some slot →
          (k : ℕ) → n + k < slot → test (record_at (r ∷ records) k) ≡ false
      go later true t e k h = absurd (not-le_of_lt h (let q : n ≡ slot = cc in omega arith))
      go later false t e zero h = t
      go later false t e (suc k) h = later k e (omega arith)

  pub lowest_below : (records : List Record) (slot other : ℕ) → lowest test records ≡ Some slot → other < slot →
      test (record_at records other) ≡ false
  lowest_below records slot other e h = below 0 records slot other e (omega arith)

  -- Where there is none, the test fails of each slot, also past the end if it fails of a free record.
  pub none_fails : (n : ℕ) (records : List Record) (slot : ℕ) → test free_record ≡ false → lowest_from n test records ≡ None →
      test (record_at records slot) ≡ false
  unfolding lowest_from
  none_fails n [] slot f e = f
  none_fails n (r ∷ records) zero f e = go (test r) refl e
    where
      go : (b : Bool) → test r ≡ b → cond b (Some n) (lowest_from (suc n) test records) ≡ None → test r ≡ false
      go true t e = cc
      go false t e = t
  none_fails n (r ∷ records) (suc slot) f e = none_fails (suc n) records slot f (go (test r) e)
    where
      go : (b : Bool) → cond b (Some n) (lowest_from (suc n) test records) ≡ None → lowest_from (suc n) test records ≡ None
      go true e = cc
      go false e = e

  -- A test of any slot, and of all.
  pub any_fails : (records : List Record) (slot : ℕ) → test free_record ≡ false → any test records ≡ false →
      test (record_at records slot) ≡ false
  unfolding any
  any_fails [] slot f e = f
  any_fails (r ∷ records) zero f e = (or_parts (test r) (any test records) e).0
  any_fails (r ∷ records) (suc slot) f e = any_fails records slot f (or_parts (test r) (any test records) e).1

  pub all_holds : (records : List Record) (slot : ℕ) → test free_record ≡ true → all test records ≡ true →
      test (record_at records slot) ≡ true
  unfolding all
  all_holds [] slot f e = f
  all_holds (r ∷ records) zero f e = (and_parts (test r) (all test records) e).0
  all_holds (r ∷ records) (suc slot) f e = all_holds records slot f (and_parts (test r) (all test records) e).1

  -- A slot of which a test holds makes `any` hold, if it fails of a free record; and `any` names one.
  pub any_holds : (records : List Record) (slot : ℕ) → test free_record ≡ false → test (record_at records slot) ≡ true →
      any test records ≡ true
  any_holds records slot f t = true_from_ne_false (any test records) (λ e. true≢false (sym t ∙ any_fails records slot f e))

  pub any_slot : (records : List Record) → any test records ≡ true → (slot : ℕ) × (test (record_at records slot) ≡ true)
  unfolding any
  any_slot [] e = absurd (false≢true e)
  any_slot (r ∷ records) e = go (any_slot records) (test r) refl e
    where
      go : (any test records ≡ true → (slot : ℕ) × (test (record_at records slot) ≡ true)) →
          (b : Bool) → test r ≡ b → (b || any test records) ≡ true → (slot : ℕ) × (test (record_at (r ∷ records) slot) ≡ true)
      go later true t e = (zero, t)
      go later false t e = let w = later e in (suc w.0, w.1)

-- A slot that holds something other than a free record is a slot at all.
pub slot_bound : (test : Record → Bool) (records : List Record) (slot : ℕ) → test free_record ≡ false →
    test (record_at records slot) ≡ true → slot < length records
slot_bound test [] slot f t = absurd (false≢true (sym f ∙ t))
slot_bound test (r ∷ records) zero f t = omega arith
slot_bound test (r ∷ records) (suc slot) f t = let h = slot_bound test records slot f t in omega arith
