-- A law for each way that a function ends.
use Prim.Native.Nat.{ℕ}
use mathlib.Core.Path.{◌≡◌, refl}
use Rattle.std.specs.Prelude.{None, Some, Option}
use Rattle.basis.specs.declared.Time.{Time}
use Rattle.basis.specs.declared.Record.{Record}
use Rattle.basis.specs.declared.Stage.{Stage}
use Rattle.basis.specs.declared.Interface.{Interface}
use Rattle.basis_engine.specs.Slots.{record_at, with_stage}
use Rattle.basis_engine.specs.Deadlines.{due_slot}
use Rattle.basis_engine.specs.Refusals.{state_time_and_room, tick_refusal}
use Rattle.basis_engine.specs.Calls.{due_frame, stage_after, serve, tick_outcome, nothing}
use Rattle.basis_engine.specs.Timing.{rfc5227}
use Rattle.engine_state.specs.declared.Change.{Change}
use Rattle.engine_state.specs.Changes.{change_at}
use Rattle.engine_decisions.specs.declared.Decision.{Decision}
use Rattle.engine_decisions.specs.Decisions.{Decides}
use Rattle.engine_due.specs.declared.Due.{Due}
use Rattle.engine_due.specs.Due.{due_of}

module _ (s : Interface) (time : Time) (draw : ℕ) where
  -- `claim` is the slot's record, `due` the frame that is due of it, and `stage` what its sending leaves.
  pub slot_served : (slot : ℕ) (claim : Record) → claim ≡ record_at s.records slot →
      (due : Due) → due_of due ≡ due_frame rfc5227 s.setup claim → (stage : Stage) → stage ≡ stage_after rfc5227 time draw claim.stage →
      (change : Change) → change ≡ change_at s time (Some (slot, with_stage claim stage)) →
      Decides s (serve s time draw (Some slot)) (record { kind = due.kind; change = change; frame = due.frame })
  slot_served slot claim c due told stage after change is =
      rw (← c, ← told, ← after, is) (record { accepts = refl; concerns = refl; changes = refl; sends = refl })

  pub tick_refused : (room : ℕ) (refusal : Option ℕ) → refusal ≡ state_time_and_room s time room None
      → refusal ≡ tick_refusal s time draw room
  unfolding tick_refusal
  tick_refused room refusal e = e

  module _ (d : Decision) (slot : Option ℕ) (due : slot ≡ due_slot time s.records) where
    pub tick_nothing : slot ≡ None → Decides s (nothing s time) d → Decides s (tick_outcome s time draw) d
    unfolding tick_outcome
    tick_nothing e says = rw (← due, e) says

    pub tick_serves : (n : ℕ) → slot ≡ Some n → (at : Interface) → at ≡ s → (by : Time) → by ≡ time →
        Decides at (serve at by draw (Some n)) d → Decides s (tick_outcome s time draw) d
    unfolding tick_outcome
    tick_serves n e at a by b says = rw (← due, e, ← a, ← b) says

pub ruleset tick_ends = (tick_refused, tick_nothing, tick_serves)
