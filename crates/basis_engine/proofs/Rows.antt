-- What the theorems ask of a row's numbers, shown once for the row of any port.
use Prim.Native.Nat.{ℕ, ◌≤◌}
use native.Mathlib.Omega.{arith}
use Rattle.basis.specs.declared.Setup.{Setup}
use Rattle.basis_engine.specs.Timing.{Timing, timing_of, wait, gap}
use Rattle.basis_engine.specs.Interface.{longest_delay}

pub record Fits (row : Timing) : Type 0 where
  -- The stages behind probing send two announcements.
  pub two_announcements : 2 ≤ row.announce_num
  pub defences_apart : 1 ≤ row.defend_interval
  pub asks_apart : 1 ≤ row.rate_limit_interval
  -- No delay is longer than soundness allows.
  pub wait_near : (draw : ℕ) → wait row draw ≤ longest_delay
  pub gap_near : (draw : ℕ) → gap row draw ≤ longest_delay
  pub announce_near : row.announce_wait ≤ longest_delay
  pub interval_near : row.announce_interval ≤ longest_delay

pub timing_fits : (setup : Setup) → Fits (timing_of setup)
timing_fits setup =
    record {
      two_announcements = omega arith;
      defences_apart = omega arith;
      asks_apart = omega arith;
      wait_near = λ draw. omega arith;
      gap_near = λ draw. omega arith;
      announce_near = omega arith;
      interval_near = omega arith;
    }
