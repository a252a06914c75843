-- The clock tells the true time.
use Prim.Native.Nat.{ℕ, suc, ◌+◌, ◌-◌, ◌%◌, ◌^◌, ◌≤◌, ◌<◌}
use mathlib.Core.Path.{◌≡◌, refl, ap}
use mathlib.Core.List.{List, [], ◌∷◌, map}
use mathlib.Core.Bool.{Bool, true, false}
use mathlib.Core.Logic.{◌⊎◌, inl, inr, ⊎_elim}
use native.Mathlib.Omega.{arith}
use lib.IntN.{ℤ, pos, negsuc}
use lib.Signed.{mag}
use lib.Dec.{leb, ltb}
use borrow.Author.Tests.{lt-ltb, le-ltb, le-leb, ltb-true, ltb-false}
use Rattle.basis.specs.Times.{last_time}
use Rattle.basis.specs.Answers.{Report, accepted}
use Rattle.basis.specs.Clock.{wrapped, sign_bit, signed, plus, clock_step, clock_refusal, clock_of, widened_times, TrueTimes, reading_at}

-- A signed number, by whether the sign bit is set.
pub signed_forward : (d : ℕ) → d < sign_bit → signed d ≡ pos d
signed_forward d h = rw (lt-ltb d sign_bit h)

pub signed_backward : (d : ℕ) → sign_bit ≤ d → d < 2 ^ 32 → signed d ≡ negsuc (2 ^ 32 - suc d)
signed_backward d h k = rw (le-ltb d sign_bit h, lt-ltb d (2 ^ 32) k)

pub signed_cases : (d : ℕ) → d < 2 ^ 32 →
    ((d < sign_bit) × (signed d ≡ pos d)) ⊎ ((sign_bit ≤ d) × (signed d ≡ negsuc (2 ^ 32 - suc d)))
signed_cases d h = go (ltb d sign_bit) refl
  where
    go : (b : Bool) → ltb d sign_bit ≡ b →
        ((d < sign_bit) × (signed d ≡ pos d)) ⊎ ((sign_bit ≤ d) × (signed d ≡ negsuc (2 ^ 32 - suc d)))
    go true e = let low = ltb-true d sign_bit e in inl (low, signed_forward d low)
    go false e = let high = ltb-false d sign_bit e in inr (high, signed_backward d high h)

-- The wrapped difference of two true times not too far apart is their difference.
wrapped_true : (before now : ℕ) → before ≤ now → now ≤ before + 2_147_483_647 → wrapped before (reading_at now) ≡ now - before
wrapped_true before now h k = omega arith

-- One reading of a true clock: the step is the time passed, and the time the true one.
module _ (before now : ℕ) (h : before ≤ now) (k : now ≤ before + 2_147_483_647) (l : now ≤ last_time) where
  true_step : clock_step before (reading_at now) ≡ pos (now - before)
  unfolding clock_step
  true_step =
      rw (le-leb before last_time (omega arith), wrapped_true before now h k, signed_forward (now - before) (omega arith))

  true_sum : before + (now - before) ≡ now
  true_sum = omega arith

  true_time : (clock_of before (reading_at now)).time ≡ accepted now
  unfolding clock_of clock_refusal
  true_time =
      rw (true_step, true_sum, le-ltb last_time before (omega arith), le-ltb last_time now l)

-- The step lies from -2,147,483,648 to 2,147,483,647: `mag` of n and of -(n + 1) is n.
signed_range : (d : ℕ) → d < 2 ^ 32 → mag (signed d) < 2 ^ 31
signed_range d h = ⊎_elim (λ w. rw w.1 (omega arith)) (λ w. rw w.1 (omega arith)) (signed_cases d h)

pub step_range : (latest reading : ℕ) → mag (clock_step latest reading) < 2 ^ 31
unfolding clock_step
step_range latest reading = go (leb latest last_time) refl
  where
    go : (b : Bool) → leb latest last_time ≡ b → mag (clock_step latest reading) < 2 ^ 31
    go true e = rw e (signed_range (wrapped latest reading) (omega arith))
    go false e = rw e (omega arith)

-- The latest time and the step together show the reading, whatever rolled over.
signed_lands : (latest d : ℕ) → d < 2 ^ 32 → plus (latest + 2 ^ 32) (signed d) % 2 ^ 32 ≡ (latest + d) % 2 ^ 32
signed_lands latest d h = ⊎_elim (λ w. rw w.1 (omega arith)) (λ w. rw w.1 (omega arith)) (signed_cases d h)

pub step_lands : (latest reading : ℕ) → latest ≤ last_time → reading < 2 ^ 32 →
    reading_at (plus (latest + 2 ^ 32) (clock_step latest reading)) ≡ reading
unfolding clock_step
step_lands latest reading h k =
    rw (le-leb latest last_time h, signed_lands latest (wrapped latest reading) (omega arith)) (omega arith)

-- No other number lies in the range and shows the reading.
pub step_only : (latest reading : ℕ) → latest ≤ last_time → (z : ℤ) → mag z < 2 ^ 31 →
    reading_at (plus (latest + 2 ^ 32) z) ≡ reading → z ≡ clock_step latest reading
unfolding clock_step
step_only latest reading h (pos n) k e =
    let forward : wrapped latest reading ≡ n = omega arith in
    rw (le-leb latest last_time h, forward, signed_forward n (omega arith))
step_only latest reading h (negsuc n) k e =
    let backward : wrapped latest reading ≡ 2 ^ 32 - suc n = omega arith in
    rw (le-leb latest last_time h, backward, signed_backward (2 ^ 32 - suc n) (omega arith) (omega arith)) (ap negsuc (omega arith))

-- Readings of a true clock give the true times.
pub true_clock : (before : ℕ) (times : List ℕ) → TrueTimes before times →
    widened_times before (map reading_at times) ≡ map accepted times
unfolding widened_times
true_clock before [] h = refl
true_clock before (now ∷ later) h =
    rw (true_time before now h.0 h.1 h.2) (ap (λ (ts : List (Report ℕ)). accepted now ∷ ts) (true_clock now later h.3))
