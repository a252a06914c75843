-- Document 01, "Refusal numbers": of each call its rows of the table, in the table's order, for any state and any arguments
-- (readings lowest-number, whole-numbers).
use Rattle.std.specs.Prelude.{ℕ, Bool, not, ◌&&◌, ◌||◌, List, ltb, eqb, Option, None}
use Rattle.basis.specs.Times.{last_time}
use Rattle.basis.specs.Answers.{◌if◌else◌}
use Rattle.basis.specs.Frame.{frame_length, read_refusal}
use Rattle.basis.specs.declared.Ipv4Address.{Ipv4Address}
use Rattle.basis.specs.declared.Setup.{Setup}
use Rattle.basis.specs.declared.Time.{Time}
use Rattle.basis.specs.declared.Interface.{Interface}
use Rattle.basis_engine.specs.Timing.{timing_of, is_within}
use Rattle.basis_engine.specs.Slots.{record_at, lowest, is_none}
use Rattle.basis_engine.specs.Interface.{is_sound_setup, is_allowed, is_policy, is_free, is_held, is_sound}

-- The rows 1, 3 and 4, of ask, tick, packet and drop, before a call's other rows.
unfoldable pub state_and_time : Interface → Time → Option ℕ → Option ℕ
state_and_time s time others =
    1 if not (is_sound s) else
    3 if ltb last_time time.0 else
    4 if ltb time.0 s.latest.0 else others

-- The rows 1, 3, 4 and 5, of tick and packet, before a call's other rows. 5: "out buffer under 28 bytes", with or without a
-- frame to write (reading room-by-length).
abbrev pub state_time_and_room : Interface → Time → ℕ → Option ℕ → Option ℕ
state_time_and_room s time room others = state_and_time s time (5 if ltb room frame_length else others)

unfoldable pub fresh_refusal : Setup → Option ℕ
fresh_refusal setup = 2 if not (is_sound_setup setup) else None

-- 12: "count is 10, and a request was accepted less than 60,000 ms ago" (readings request-is-an-ask, ten-conflicts-no-ask).
abbrev pub is_too_soon : Interface → Time → Bool
is_too_soon s time =
    eqb s.conflicts (timing_of s.setup).max_conflicts
    && is_within (timing_of s.setup).rate_limit_interval time s.asked

unfoldable pub ask_refusal : Interface → Time → Ipv4Address → ℕ → ℕ → Option ℕ
ask_refusal s time address policy draw =
    state_and_time s time (
    8 if not (is_allowed address) else
    9 if not (is_policy policy) else
    10 if is_held address s.records else
    11 if is_none (lowest is_free s.records) else
    12 if is_too_soon s time else None)

unfoldable pub tick_refusal : Interface → Time → ℕ → ℕ → Option ℕ
tick_refusal s time draw room = state_time_and_room s time room None

-- 6 and 7 are those of a read.
unfoldable pub packet_refusal : Interface → Time → List ℕ → ℕ → Option ℕ
packet_refusal s time bytes room = state_time_and_room s time room (read_refusal bytes)

-- 13: "slot above 3, or free". A slot above the last has the free record.
unfoldable pub drop_refusal : Interface → Time → ℕ → Option ℕ
drop_refusal s time slot = state_and_time s time (13 if ltb 3 slot || is_free (record_at s.records slot) else None)
