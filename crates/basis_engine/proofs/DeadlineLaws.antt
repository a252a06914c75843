-- "Among deadlines not later than the time, serve the earliest, the lowest slot on a tie", literally.
use Prim.Native.Nat.{ℕ, zero, suc, ◌<◌, ◌≤◌, min}
use mathlib.Core.Path.{◌≡◌, refl, sym, ap, ◌∙◌}
use mathlib.Core.Bool.{Bool, true, false, cond, true≢false, false≢true}
use mathlib.Core.List.{List, [], ◌∷◌}
use Rattle.std.specs.Prelude.{Option, None, Some}
use mathlib.Core.Logic.{◌⊎◌, inl, inr}
use native.Mathlib.Nat.{lt_of_not-le, le_of_suc-le-suc}
use native.Mathlib.Omega.{arith}
use lib.Dec.{leb}
use lib.ListN.{length}
use borrow.Author.Tests.{leb-true, leb-false, eqb-true, eq-eqb}
use Rattle.basis.specs.declared.Time.{Time}
use Rattle.basis.specs.declared.Record.{Record}
use Rattle.basis_engine.specs.Slots.{record_at, lowest_from, lowest, is_just}
use Rattle.basis_engine.specs.Deadlines.{deadline_of, has_deadline, smaller, smallest_deadline, due_at, due_slot}
use Rattle.std.proofs.lemmas.Option.{none-some, same_Some}
use Rattle.basis_engine.proofs.SlotLaws.{lowest_holds, lowest_below}

-- The deadline in a slot.
abbrev pub deadline_at : List Record → ℕ → Option ℕ
deadline_at records slot = deadline_of (record_at records slot).stage

-- The smallest deadline is not above any.
AtMost : Option ℕ → ℕ → Type 0
AtMost o d = (m : ℕ) × (o ≡ Some m) × (m ≤ d)

smaller_left : (o rest : Option ℕ) (d : ℕ) → o ≡ Some d → AtMost (smaller o rest) d
unfolding AtMost
smaller_left None rest d e = absurd (none-some _ e)
smaller_left (Some c) None d e = let same = same_Some _ _ e in (c, refl, omega arith)
smaller_left (Some c) (Some r) d e = let same = same_Some _ _ e in (min c r, refl, omega arith)

smaller_right : (o rest : Option ℕ) (d : ℕ) → AtMost rest d → AtMost (smaller o rest) d
unfolding AtMost
smaller_right None rest d w = w
smaller_right (Some c) None d w = absurd (none-some _ w.1)
smaller_right (Some c) (Some r) d w = let same = same_Some _ _ w.1 in let le = w.2 in (min c r, refl, omega arith)

smallest_below : (records : List Record) (slot d : ℕ) → deadline_at records slot ≡ Some d → AtMost (smallest_deadline records) d
unfolding smallest_deadline
smallest_below [] slot d e = absurd (none-some _ e)
smallest_below (r ∷ records) zero d e = smaller_left (deadline_of r.stage) (smallest_deadline records) d e
smallest_below (r ∷ records) (suc slot) d e =
    smaller_right (deadline_of r.stage) (smallest_deadline records) d (smallest_below records slot d e)

-- Some slot has the smallest deadline.
has_smaller : (o rest : Option ℕ) (m : ℕ) → smaller o rest ≡ Some m → (is_just m o ≡ true) ⊎ (rest ≡ Some m)
has_smaller None rest m e = inr e
has_smaller (Some c) None m e = inl (eq-eqb c m (same_Some _ _ e))
has_smaller (Some c) (Some r) m e = go (leb c r) refl
  where
    go : (b : Bool) → leb c r ≡ b → (is_just m (Some c) ≡ true) ⊎ (Some r ≡ Some m)
    go true le = let same = same_Some _ _ e in let h = leb-true c r le in inl (eq-eqb c m (omega arith))
    go false le = let same = same_Some _ _ e in let h = leb-false c r le in inr (ap Some (omega arith))

smallest_somewhere : (n : ℕ) (records : List Record) (m : ℕ) → smallest_deadline records ≡ Some m →
    lowest_from n (has_deadline m) records ≡ None → ⊥
unfolding smallest_deadline lowest_from
smallest_somewhere n [] m e nowhere = none-some _ e
smallest_somewhere n (r ∷ records) m e nowhere =
    go (smallest_somewhere (suc n) records m) (has_deadline m r) refl nowhere
    (has_smaller (deadline_of r.stage) (smallest_deadline records) m e)
  where
    go : (smallest_deadline records ≡ Some m → lowest_from (suc n) (has_deadline m) records ≡ None → ⊥) →
        (b : Bool) → has_deadline m r ≡ b → cond b (Some n) (lowest_from (suc n) (has_deadline m) records) ≡ None →
        (has_deadline m r ≡ true) ⊎ (smallest_deadline records ≡ Some m) → ⊥
    go later true h nowhere w = none-some _ (sym nowhere)
    go later false h nowhere (inl here) = false≢true (sym h ∙ here)
    go later false h nowhere (inr rest) = later rest nowhere

-- The deadline that a test found.
deadline_is : (o : Option ℕ) (d : ℕ) → is_just d o ≡ true → o ≡ Some d
deadline_is None d e = absurd (false≢true e)
deadline_is (Some c) d e = ap Some (eqb-true c d e)

is_deadline : (o : Option ℕ) (d : ℕ) → o ≡ Some d → is_just d o ≡ true
is_deadline None d e = absurd (none-some _ e)
is_deadline (Some c) d e = eq-eqb c d (same_Some _ _ e)

-- A due slot: its deadline is not later than the time, no other is earlier, and none as early is in a lower slot.
pub record Due (time : Time) (records : List Record) (slot : ℕ) : Type 0 where
  pub deadline : ℕ
  pub has : deadline_at records slot ≡ Some deadline
  pub late : deadline ≤ time.0
  pub earliest : (other d : ℕ) → deadline_at records other ≡ Some d → deadline ≤ d
  pub lowest_on_tie : (other : ℕ) → deadline_at records other ≡ Some deadline → slot ≤ other
  pub room : slot < length records

module _ (time : Time) (records : List Record) where
  due_at_lem : (slot m : ℕ) → smallest_deadline records ≡ Some m → m ≤ time.0 → lowest (has_deadline m) records ≡ Some slot → Due time records slot
  unfolding AtMost
  due_at_lem slot m smallest late e =
      let w = lowest_holds (has_deadline m) records slot e in
      record {
        deadline = m;
        has = deadline_is (deadline_at records slot) m w.0;
        late = late;
        earliest = λ other d has.
            let below = smallest_below records other d has in
            let same = same_Some _ _ (sym smallest ∙ below.1) in
            let le = below.2 in
            omega arith;
        lowest_on_tie = λ other has. le_of_suc-le-suc (lt_of_not-le (λ h.
            true≢false (sym (is_deadline (deadline_at records other) m has) ∙ lowest_below (has_deadline m) records slot other e h)));
        room = w.1;
      }

  -- "Serve the earliest, the lowest slot on a tie."
  pub due_slot_lem : (slot : ℕ) → due_slot time records ≡ Some slot → Due time records slot
  unfolding due_slot
  due_slot_lem slot e = go (smallest_deadline records) refl e
    where
      go : (o : Option ℕ) → smallest_deadline records ≡ o → due_at time records o ≡ Some slot → Due time records slot
      go None smallest e = absurd (none-some _ e)
      go (Some m) smallest e = at (leb m time.0) refl e
        where
          at : (b : Bool) → leb m time.0 ≡ b → cond b (lowest (has_deadline m) records) None ≡ Some slot → Due time records slot
          at true late e = due_at_lem slot m smallest (leb-true m time.0 late) e
          at false late e = absurd (none-some _ e)

  -- "With nothing due": every deadline is later.
  pub none_due : due_slot time records ≡ None → (slot d : ℕ) → deadline_at records slot ≡ Some d → time.0 < d
  unfolding due_slot AtMost
  none_due e slot d has = go (smallest_below records slot d has) (leb (smallest_below records slot d has).0 time.0) refl
    where
      go : (w : AtMost (smallest_deadline records) d) (b : Bool) → leb w.0 time.0 ≡ b → time.0 < d
      go w true early =
          absurd (smallest_somewhere 0 records w.0 w.1
          (ap (λ (c : Bool). cond c (lowest (has_deadline w.0) records) None) (sym early) ∙ ap (due_at time records) (sym w.1) ∙ e))
      go w false late = let h = leb-false w.0 time.0 late in let le = w.2 in omega arith
