-- Document 01, "The interface and its four records".
use Rattle.std.specs.Prelude.{ℕ, ◌+◌, ◌/◌, ◌%◌, ◌^◌, Bool, true, false, not, ◌&&◌, ◌||◌, List, [], ◌∷◌, leb, eqb, Option, Some, None}
use Rattle.basis.specs.Times.{last_time}
use Rattle.basis.specs.Addresses.{is_hardware}
use Rattle.basis.specs.declared.Ipv4Address.{Ipv4Address}
use Rattle.basis.specs.declared.HardwareAddress.{HardwareAddress}
use Rattle.basis.specs.declared.Setup.{Setup}
use Rattle.basis.specs.declared.Time.{Time}
use Rattle.basis.specs.declared.Stage.{Stage}
use Rattle.basis.specs.declared.Stage.TheVariants.{Free, Probing, Announced, Settled}
use Rattle.basis.specs.declared.Record.{Record}
use Rattle.basis.specs.declared.Interface.{Interface}
use Rattle.basis_engine.specs.Timing.{Timing, timing_of}
use Rattle.basis_engine.specs.Slots.{free_record, any, all}

-- "The own hardware address isn't zero and its first byte is even." A number of 2^48 or more is no address
-- (reading hardware-48-bits).
unfoldable pub is_own_hardware : HardwareAddress → Bool
is_own_hardware address = is_hardware address && not (eqb address.0 0) && eqb (address.0 / 2 ^ 40 % 2) 0

-- What can be chosen at fresh.
abbrev pub is_sound_setup : Setup → Bool
is_sound_setup setup = is_own_hardware setup.hardware

-- "Its own hardware address (one)": the sender of our frames, and whether a hardware address is ours.
abbrev pub sender_of : Setup → HardwareAddress
sender_of setup = setup.hardware

abbrev pub is_ours : Setup → HardwareAddress → Bool
is_ours setup other = eqb other.0 setup.hardware.0

-- "An allowed address has a first byte from 1 to 223, 127 excepted."
abbrev pub first_byte : Ipv4Address → ℕ
first_byte address = address.0 / 2 ^ 24

unfoldable pub is_allowed : Ipv4Address → Bool
is_allowed address = leb 1 (first_byte address) && leb (first_byte address) 223 && not (eqb (first_byte address) 127)

-- "Each policy is 1, 2 or 3."
abbrev pub is_policy : ℕ → Bool
is_policy policy = leb 1 policy && leb policy 3

-- "A slot is free, or holds an address, a policy and a stage."
abbrev pub is_free_stage : Stage → Bool
is_free_stage Free = true
is_free_stage (Probing sent deadline) = false
is_free_stage (Announced deadline conflict) = false
is_free_stage (Settled conflict) = false

abbrev pub is_free : Record → Bool
is_free r = is_free_stage r.stage

abbrev pub holds : Ipv4Address → Record → Bool
holds address r = not (is_free r) && eqb r.address.0 address.0

abbrev pub is_held : Ipv4Address → List Record → Bool
is_held address records = any (holds address) records

-- "The last two stages are usable."
abbrev pub is_usable_stage : Stage → Bool
is_usable_stage Free = false
is_usable_stage (Probing sent deadline) = false
is_usable_stage (Announced deadline conflict) = true
is_usable_stage (Settled conflict) = true

-- "A request time and every conflict time are no later than the latest time."
abbrev pub is_past : Time → Option Time → Bool
is_past latest None = true
is_past latest (Some time) = leb time.0 latest.0

-- "Each deadline is at most the latest time plus 2,000": no delay is longer (reading deadline-above-range).
abbrev pub longest_delay : ℕ
longest_delay = 2_000

abbrev pub is_near : Time → Time → Bool
is_near latest deadline = leb deadline.0 (latest.0 + longest_delay)

-- What a sound state asks of one stage, "no record has more than 3 probes sent" included, and of one record
-- (readings free-is-a-stage, any-record).
unfoldable pub is_sound_stage : Timing → Time → Stage → Bool
is_sound_stage row latest Free = true
is_sound_stage row latest (Probing sent deadline) = leb sent row.probe_num && is_near latest deadline
is_sound_stage row latest (Announced deadline conflict) = is_near latest deadline && is_past latest conflict
is_sound_stage row latest (Settled conflict) = is_past latest conflict

unfoldable pub is_sound_record : Timing → Time → Record → Bool
is_sound_record row latest r =
    is_free r || (is_sound_stage row latest r.stage && is_allowed r.address && is_policy r.policy)

-- "No address is held twice."
abbrev pub is_alone : Record → List Record → Bool
is_alone r others = is_free r || not (is_held r.address others)

unfoldable pub holds_none_twice : List Record → Bool
holds_none_twice [] = true
holds_none_twice (r ∷ records) = is_alone r records && holds_none_twice records

-- "A state is sound if" (readings sound-exactly-if, ten-conflicts-no-ask).
unfoldable pub is_sound : Interface → Bool
is_sound s =
    is_sound_setup s.setup
    && leb s.latest.0 last_time
    && leb s.conflicts (timing_of s.setup).max_conflicts
    && is_past s.latest s.asked
    && all (is_sound_record (timing_of s.setup) s.latest) s.records
    && holds_none_twice s.records

-- A new interface: "time 0, count 0, no request, four free slots."
abbrev pub new_interface : Setup → Interface
new_interface setup =
    record {
      setup = setup;
      latest = record { 0 = 0 };
      asked = None;
      conflicts = 0;
      records = free_record ∷ free_record ∷ free_record ∷ free_record ∷ [];
    }

-- "Before the first `fresh` is accepted the state is all zeros": it is not sound.
abbrev pub zeros : Interface
zeros = new_interface (record { hardware = record { 0 = 0 } })

-- The state after an accepted call but fresh, with this latest time, time of the latest ask, count and records. What was chosen
-- at fresh is kept.
abbrev pub changed : Interface → Time → Option Time → ℕ → List Record → Interface
changed s latest asked conflicts records =
    record { setup = s.setup; latest = latest; asked = asked; conflicts = conflicts; records = records }
