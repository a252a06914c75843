-- Document 01, "The board's clock", in whole numbers.
use Rattle.std.specs.Prelude.{ℕ, suc, ◌+◌, ◌-◌, ◌%◌, ◌^◌, ◌≤◌, Bool, true, false, cond, List, [], ◌∷◌, ℤ, pos, negsuc, ◌-ℤ◌, leb, ltb, Option, None}
use Rattle.basis.specs.Times.{last_time}
use Rattle.basis.specs.Answers.{◌if◌else◌, Report, refused, accepted, report_of, reported}
use Rattle.basis.specs.declared.ClockAnswer.{ClockAnswer}
use Rattle.basis.specs.declared.Time.{Time}

-- "The wrapped difference of the reading and the latest time mod 2^32."
abbrev pub wrapped : ℕ → ℕ → ℕ
wrapped latest reading = (reading + (2 ^ 32 - latest % 2 ^ 32)) % 2 ^ 32

-- "Read as a signed number from -2,147,483,648 to 2,147,483,647": with the sign bit a difference stands for one 2^32 less.
abbrev pub sign_bit : ℕ
sign_bit = 2_147_483_648

abbrev pub signed : ℕ → ℤ
signed d = cond (ltb d sign_bit) (pos d) (pos d -ℤ pos (2 ^ 32))

abbrev pub is_negative : ℤ → Bool
is_negative (pos n) = false
is_negative (negsuc n) = true

-- A time and a step added, down to time 0.
abbrev pub plus : ℕ → ℤ → ℕ
plus time (pos n) = time + n
plus time (negsuc n) = time - suc n

-- The step that is reported: "a latest time already above the range is refusal 3 with step 0".
unfoldable pub clock_step : ℕ → ℕ → ℤ
clock_step latest reading = cond (leb latest last_time) (signed (wrapped latest reading)) (pos 0)

-- "A latest time already above the range is refusal 3". "Negative: refusal 4. Else the new time is the latest plus the step, or
-- refusal 3 if above the range." (reading clock-order)
unfoldable pub clock_refusal : ℕ → ℕ → Option ℕ
clock_refusal latest reading =
    3 if ltb last_time latest else
    4 if is_negative (clock_step latest reading) else
    3 if ltb last_time (plus latest (clock_step latest reading)) else None

-- "The step is reported in all these cases": it stands beside the new time or the refusal.
pub record ClockReport : Type 0 where
  pub step : ℤ
  pub time : Report ℕ

-- The clock, for any latest time and any reading.
unfoldable pub clock_of : ℕ → ℕ → ClockReport
clock_of latest reading =
    record {
      step = clock_step latest reading;
      time = reported (clock_refusal latest reading) (plus latest (clock_step latest reading));
    }

-- The latest time after a report: the new one, or after a refusal the old one.
abbrev pub latest_after : ℕ → Report ℕ → ℕ
latest_after latest (refused n) = latest
latest_after latest (accepted time) = time

-- The times reported of readings taken one after the other.
unfoldable pub widened_times : ℕ → List ℕ → List (Report ℕ)
widened_times latest [] = []
widened_times latest (reading ∷ readings) =
    (clock_of latest reading).time ∷ widened_times (latest_after latest (clock_of latest reading).time) readings

-- "Premise for a true clock: a reading is taken at least every 2,147,483,647 ms." True times at which readings are taken,
-- after a first one.
abbrev pub TrueTimes : ℕ → List ℕ → Type 0
TrueTimes before [] = Unit {0}
TrueTimes before (now ∷ later) = (before ≤ now) × (now ≤ before + 2_147_483_647) × (now ≤ last_time) × TrueTimes now later

-- What the board shows at a true time.
abbrev pub reading_at : ℕ → ℕ
reading_at time = time % 2 ^ 32

-- The answer in document 01's numbers and values.
abbrev pub clock_report : ClockAnswer → ClockReport
clock_report answer = record { step = answer.step; time = report_of (λ (time : Time). time.0) answer.time }
