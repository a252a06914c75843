-- A law for each way that `admit` ends.
use Prim.Native.Nat.{◌≤◌, ◌<◌}
use mathlib.Core.Path.{◌≡◌}
use mathlib.Core.Bool.{Bool, true, false, not}
use Rattle.std.specs.Prelude.{None, Some}
use borrow.Author.Tests.{lt-ltb, le-ltb}
use Rattle.basis.specs.Times.{last_time}
use Rattle.basis.specs.declared.Time.{Time}
use Rattle.basis.specs.declared.Interface.{Interface}
use Rattle.basis_engine.specs.Timing.{rfc5227}
use Rattle.basis_engine.specs.Refusals.{state_and_time}
use Rattle.basis_engine.proofs.Acceptance as Acceptance
use Rattle.engine_admission.specs.Rows.{first_rows}

module _ (sound : Bool) (latest time : Time) where
  pub not_sound : not sound ≡ true → Some 1 ≡ first_rows sound latest time
  not_sound e = rw e

  module _ (is : not sound ≡ false) where
    pub above_range : last_time < time.0 → Some 3 ≡ first_rows sound latest time
    above_range h = rw (is, lt-ltb last_time time.0 h)

    module _ (within : time.0 ≤ last_time) where
      pub below_latest : time.0 < latest.0 → Some 4 ≡ first_rows sound latest time
      below_latest h = rw (is, le-ltb last_time time.0 within, lt-ltb time.0 latest.0 h)

      pub passes : latest.0 ≤ time.0 → None ≡ first_rows sound latest time
      passes h = rw (is, le-ltb last_time time.0 within, le-ltb time.0 latest.0 h)

pub ruleset admit_ends = (not_sound, above_range, below_latest, passes)

-- What is known of an admitted call.
module _ (s : Interface) (time : Time) (passed : state_and_time s time None ≡ None) where
  pub admitted_time : time.0 ≤ last_time
  admitted_time = (Acceptance.admitted s time None passed).0.in_range

  pub admitted_count : s.conflicts ≤ rfc5227.max_conflicts
  admitted_count = (Acceptance.sound s (Acceptance.admitted s time None passed).0.sound).counted
