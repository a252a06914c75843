-- A law for each way that a function ends.
use Prim.Native.Nat.{ℕ}
use mathlib.Core.Path.{◌≡◌, refl, sym, ap, ◌∙◌}
use mathlib.Core.Bool.{Bool, true, false, ◌||◌}
use mathlib.Core.List.{List, []}
use Rattle.std.specs.Prelude.{None, Some, Ok, Err}
use native.Mathlib.Omega.{arith}
use lib.Dec.{ltb}
use lib.ListN.{length, get_or-eq_default}
use borrow.Author.Tests.{ltb-true}
use Rattle.basis.specs.Answers.{answer_report}
use Rattle.basis.specs.declared.Time.{Time}
use Rattle.basis.specs.declared.Record.{Record}
use Rattle.basis.specs.declared.Interface.{Interface}
use Rattle.basis.specs.declared.Refusal.TheVariants.{HardwareNotAllowed}
use Rattle.basis.specs.declared.Kind.TheVariants.{Fresh, Dropped}
use Rattle.basis.specs.declared.Setup.{Setup}
use Rattle.basis.specs.declared.Call.TheVariants as Call
use Rattle.basis_engine.specs.Slots.{free_record, record_at}
use Rattle.basis_engine.specs.Interface.{is_free, is_free_stage, is_sound_setup, new_interface}
use Rattle.basis_engine.specs.Deadlines.{smallest_deadline}
use Rattle.basis_engine.specs.Refusals.{state_and_time, fresh_refusal, drop_refusal}
use Rattle.basis_engine.specs.Calls.{fresh_outcome, drop_outcome}
use Rattle.basis_engine.specs.Machine.{refusal_of, outcome_of, result_of, Promised}
use Rattle.engine_admission.proofs.Rows.{rows_bar, rows_leave}
use Rattle.engine_state.specs.declared.Change.{Change}
use Rattle.engine_state.specs.Changes.{change_at}
use Rattle.engine_decisions.specs.Decisions.{Decides}

-- `allowed` is what the test of what was chosen answered.
module _ (s : Interface) (setup : Setup) (allowed : Bool) (told : allowed ≡ is_sound_setup setup) where
  pub fresh_refused : allowed ≡ false → Promised s (Call.Fresh setup) [] [] (Err HardwareNotAllowed) s []
  unfolding answer_report result_of refusal_of fresh_refusal
  fresh_refused e = record { answered = rw (← told, e); handed_back = rw (← told, e); written = rw (← told, e) }

  pub fresh_made : allowed ≡ true → (new : Interface) → new ≡ new_interface setup →
      Promised s (Call.Fresh setup) [] [] (Ok (record { kind = Fresh; slot = None; next = None })) new []
  unfolding answer_report result_of refusal_of outcome_of fresh_refusal fresh_outcome smallest_deadline
  fresh_made e new n = record { answered = rw (← told, e); handed_back = rw (← told, e) n; written = rw (← told, e) }

pub ruleset fresh_ends = (fresh_refused, fresh_made)

-- Above 3 the record is the free one.
pub vacant : (records : List Record) → length records ≡ 4 → (slot : ℕ) (r : Record) → r ≡ record_at records slot →
    (free : Bool) → free ≡ is_free_stage r.stage → free ≡ ltb 3 slot || is_free (record_at records slot)
vacant records four slot r e free f = f ∙ ap is_free e ∙ go (ltb 3 slot) refl
  where
    go : (above : Bool) → ltb 3 slot ≡ above → is_free (record_at records slot) ≡ above || is_free (record_at records slot)
    go true h = ap is_free (get_or-eq_default records free_record (omega (arith, ltb-true)))
    go false h = refl

module _ (s : Interface) (time : Time) (slot : ℕ) where
  pub drop_barred : (n : ℕ) → Some n ≡ state_and_time s time None → Some n ≡ drop_refusal s time slot
  unfolding drop_refusal
  drop_barred n e = sym (rows_bar s time _ n (sym e))

  -- `empty` is what the test of the slot answered.
  module _ (first : None ≡ state_and_time s time None) (empty : Bool) (tested : empty ≡ (ltb 3 slot || is_free (record_at s.records slot))) where
    pub row_13 : empty ≡ true → Some 13 ≡ drop_refusal s time slot
    unfolding drop_refusal
    row_13 e = sym (rows_leave s time _ (sym first) ∙ rw (← tested, e))

    pub no_row : empty ≡ false → None ≡ drop_refusal s time slot
    unfolding drop_refusal
    no_row e = sym (rows_leave s time _ (sym first) ∙ rw (← tested, e))

  pub drop_frees : (free : Record) → free ≡ free_record → (change : Change) → change ≡ change_at s time (Some (slot, free)) →
      Decides s (drop_outcome s time slot) (record { kind = Dropped; change = change; frame = None })
  unfolding drop_outcome
  drop_frees free f change c = rw (c, f) (record { accepts = refl; concerns = refl; changes = refl; sends = refl })

pub ruleset drop_ends = (drop_barred, row_13, no_row, drop_frees)
