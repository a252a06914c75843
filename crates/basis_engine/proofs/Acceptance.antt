-- What an accepted call says of its state and its arguments.
use Prim.Native.Nat.{ℕ, ◌/◌, ◌%◌, ◌^◌, ◌<◌, ◌≤◌}
use mathlib.Core.Path.{◌≡◌, refl, sym}
use mathlib.Core.Bool.{Bool, true, false, not, ◌&&◌, ◌||◌}
use mathlib.Core.List.{List}
use Rattle.std.specs.Prelude.{Option, None, Some}
use native.Mathlib.Omega.{arith}
use lib.Dec.{leb, ltb, eqb}
use borrow.Author.Tests.{ltb-false, leb-true, le-leb, not-false}
use Rattle.basis.specs.Times.{last_time}
use Rattle.basis.specs.Addresses.{is_hardware}
use Rattle.basis.specs.Answers.{◌if◌else◌}
use Rattle.basis.specs.Frame.{probe, announcement, is_writable, frame_put, frame_of, read_refusal, frame_length}
use Rattle.basis.specs.declared.Ipv4Address.{Ipv4Address}
use Rattle.basis.specs.declared.Setup.{Setup}
use Rattle.basis.specs.declared.Time.{Time}
use Rattle.basis.specs.declared.Record.{Record}
use Rattle.basis.specs.declared.Interface.{Interface}
use Rattle.basis.specs.declared.HardwareAddress.{HardwareAddress}
use Rattle.std.proofs.lemmas.Bool.{and_parts}
use Rattle.basis.proofs.FrameLaws.{handed_out_reads}
use Rattle.basis_engine.specs.Slots.{free_record, record_at, lowest, is_none, all}
use Rattle.basis_engine.specs.Interface.{is_own_hardware, first_byte, is_allowed, is_policy, is_free, is_held, is_past, is_sound_stage, is_sound_record, holds_none_twice, is_sound}
use Rattle.basis_engine.specs.Refusals.{state_and_time, is_too_soon, ask_refusal, tick_refusal, packet_refusal, drop_refusal}
use Rattle.std.proofs.lemmas.Bool.{or_parts}
use Rattle.std.proofs.lemmas.Option.{none-some}
use Rattle.basis_engine.proofs.SlotLaws.{all_holds}
use Rattle.basis_engine.specs.Interface.{sender_of, is_sound_setup}
use Rattle.basis_engine.specs.Refusals.{state_time_and_room}
use Rattle.basis_engine.specs.Timing.{Timing, timing_of}

-- Where no refusal is given, a row does not apply, and no later one gives one.
pub passed : (n : ℕ) (test : Bool) (others : Option ℕ) → n if test else others ≡ None → (test ≡ false) × (others ≡ None)
passed n true others e = absurd (none-some _ (sym e))
passed n false others e = (refl, e)

-- The rows 1, 3 and 4.
pub record Admitted (s : Interface) (time : Time) : Type 0 where
  pub sound : is_sound s ≡ true
  pub in_range : time.0 ≤ last_time
  pub not_before : s.latest.0 ≤ time.0

pub admitted : (s : Interface) (time : Time) (others : Option ℕ) → state_and_time s time others ≡ None →
    Admitted s time × (others ≡ None)
unfolding state_and_time
admitted s time others e =
    let one = passed 1 (not (is_sound s)) (3 if ltb last_time time.0 else 4 if ltb time.0 s.latest.0 else others) e in
    let three = passed 3 (ltb last_time time.0) (4 if ltb time.0 s.latest.0 else others) one.1 in
    let four = passed 4 (ltb time.0 s.latest.0) others three.1 in (
      record {
        sound = not-false (is_sound s) one.0;
        in_range = ltb-false last_time time.0 three.0;
        not_before = ltb-false time.0 s.latest.0 four.0;
      },
      four.1,
    )

-- The rows 1, 3, 4 and 5.
pub roomy : (s : Interface) (time : Time) (room : ℕ) (others : Option ℕ) → state_time_and_room s time room others ≡ None →
    Admitted s time × (frame_length ≤ room) × (others ≡ None)
roomy s time room others e =
    let w = admitted s time (5 if ltb room frame_length else others) e in
    let five = passed 5 (ltb room frame_length) others w.1 in
    (w.0, ltb-false room frame_length five.0, five.1)

-- What a sound state has; that no address is in two slots apart.
pub record Sound (s : Interface) : Type 0 where
  pub chosen : is_sound_setup s.setup ≡ true
  pub in_range : s.latest.0 ≤ last_time
  pub counted : s.conflicts ≤ (timing_of s.setup).max_conflicts
  pub asked_past : is_past s.latest s.asked ≡ true
  pub each_sound : all (is_sound_record (timing_of s.setup) s.latest) s.records ≡ true

pub sound : (s : Interface) → is_sound s ≡ true → Sound s
unfolding is_sound
sound s e =
    let a = is_sound_setup s.setup in
    let b = leb s.latest.0 last_time in
    let c = leb s.conflicts (timing_of s.setup).max_conflicts in
    let d = is_past s.latest s.asked in
    let f = all (is_sound_record (timing_of s.setup) s.latest) s.records in
    let six = and_parts (a && b && c && d && f) (holds_none_twice s.records) e in
    let five = and_parts (a && b && c && d) f six.0 in
    let four = and_parts (a && b && c) d five.0 in
    let three = and_parts (a && b) c four.0 in
    let two = and_parts a b three.0 in
    record {
      chosen = two.0;
      in_range = leb-true s.latest.0 last_time two.1;
      counted = leb-true s.conflicts (timing_of s.setup).max_conflicts three.1;
      asked_past = four.1;
      each_sound = five.1;
    }

pub sound_once : (s : Interface) → is_sound s ≡ true → holds_none_twice s.records ≡ true
unfolding is_sound
sound_once s e =
    (and_parts (is_sound_setup s.setup && leb s.latest.0 last_time && leb s.conflicts (timing_of s.setup).max_conflicts
    && is_past s.latest s.asked && all (is_sound_record (timing_of s.setup) s.latest) s.records) (holds_none_twice s.records) e).1

-- What is past stays past.
pub past_later : (latest t : Time) (m : Option Time) → latest.0 ≤ t.0 → is_past latest m ≡ true → is_past t m ≡ true
past_later latest t None h past = refl
past_later latest t (Some seen) h past = let le = leb-true seen.0 latest.0 past in le-leb seen.0 t.0 (omega arith)

-- A held record of a sound state.
pub record SoundRecord (row : Timing) (latest : Time) (r : Record) : Type 0 where
  pub sound_stage : is_sound_stage row latest r.stage ≡ true
  pub allowed : is_allowed r.address ≡ true
  pub known : is_policy r.policy ≡ true

pub sound_record : (row : Timing) (latest : Time) (r : Record) → is_sound_record row latest r ≡ true → is_free r ≡ false → SoundRecord row latest r
unfolding is_sound_record
sound_record row latest r e held =
    let rest : (is_sound_stage row latest r.stage && is_allowed r.address && is_policy r.policy) ≡ true = rw held at e in
    let two = and_parts (is_sound_stage row latest r.stage && is_allowed r.address) (is_policy r.policy) rest in
    let one = and_parts (is_sound_stage row latest r.stage) (is_allowed r.address) two.0 in
    record { sound_stage = one.0; allowed = one.1; known = two.1 }

pub free_sound : (row : Timing) (latest : Time) → is_sound_record row latest free_record ≡ true
unfolding is_sound_record
free_sound row latest = refl

pub sound_at : (s : Interface) (slot : ℕ) → is_sound s ≡ true → is_free (record_at s.records slot) ≡ false →
    SoundRecord (timing_of s.setup) s.latest (record_at s.records slot)
sound_at s slot e held =
    sound_record (timing_of s.setup) s.latest (record_at s.records slot)
    (all_holds (is_sound_record (timing_of s.setup) s.latest) s.records slot (free_sound (timing_of s.setup) s.latest) (sound s e).each_sound) held

-- An allowed address has 32 bits and is not zero.
pub allowed_number : (address : Ipv4Address) → is_allowed address ≡ true → (0 < address.0) × (address.0 < 2 ^ 32)
unfolding is_allowed
allowed_number address e =
    let two = and_parts (leb 1 (first_byte address) && leb (first_byte address) 223) (not (eqb (first_byte address) 127)) e in
    let one = and_parts (leb 1 (first_byte address)) (leb (first_byte address) 223) two.0 in
    let low = leb-true 1 (first_byte address) one.0 in
    let high = leb-true (first_byte address) 223 one.1 in
    (omega arith, omega arith)

-- The sender of a sound state's frames has 48 bits, so they can be written, and read back from where they were put.
pub own_hardware : (own : HardwareAddress) → is_own_hardware own ≡ true → is_hardware own ≡ true
unfolding is_own_hardware
own_hardware own e =
    let two = and_parts (is_hardware own && not (eqb own.0 0)) (eqb (own.0 / 2 ^ 40 % 2) 0) e in
    (and_parts (is_hardware own) (not (eqb own.0 0)) two.0).0

pub sender_hardware : (setup : Setup) → is_sound_setup setup ≡ true → is_hardware (sender_of setup) ≡ true
sender_hardware setup e = own_hardware setup.hardware e

module _ (setup : Setup) (address : Ipv4Address) (chosen : is_sound_setup setup ≡ true) (allowed : is_allowed address ≡ true) where
  pub probe_reads : (out : List ℕ) → frame_of (frame_put (probe (sender_of setup) address) out) ≡ probe (sender_of setup) address
  unfolding probe is_writable
  probe_reads out =
      handed_out_reads (probe (sender_of setup) address) out (rw (sender_hardware setup chosen)) (omega arith) (allowed_number address allowed).1

  pub announcement_reads : (out : List ℕ) →
      frame_of (frame_put (announcement (sender_of setup) address) out) ≡ announcement (sender_of setup) address
  unfolding announcement is_writable
  announcement_reads out =
      let fits = (allowed_number address allowed).1 in
      handed_out_reads (announcement (sender_of setup) address) out (rw (sender_hardware setup chosen)) fits fits

-- The other rows of each call.
pub record AskAccepted (s : Interface) (time : Time) (address : Ipv4Address) (policy draw : ℕ) : Type 0 where
  pub admission : Admitted s time
  pub allowed : is_allowed address ≡ true
  pub known : is_policy policy ≡ true
  pub not_held : is_held address s.records ≡ false
  pub room : is_none (lowest is_free s.records) ≡ false
  pub in_time : is_too_soon s time ≡ false

pub ask_accepted : (s : Interface) (time : Time) (address : Ipv4Address) (policy draw : ℕ) → ask_refusal s time address policy draw ≡ None →
    AskAccepted s time address policy draw
unfolding ask_refusal
ask_accepted s time address policy draw e =
    let twelve = 12 if is_too_soon s time else None in
    let eleven = 11 if is_none (lowest is_free s.records) else twelve in
    let ten = 10 if is_held address s.records else eleven in
    let nine = 9 if not (is_policy policy) else ten in
    let w = admitted s time (8 if not (is_allowed address) else nine) e in
    let a = passed 8 (not (is_allowed address)) nine w.1 in
    let b = passed 9 (not (is_policy policy)) ten a.1 in
    let c = passed 10 (is_held address s.records) eleven b.1 in
    let d = passed 11 (is_none (lowest is_free s.records)) twelve c.1 in
    let f = passed 12 (is_too_soon s time) None d.1 in
    record {
      admission = w.0;
      allowed = not-false (is_allowed address) a.0;
      known = not-false (is_policy policy) b.0;
      not_held = c.0;
      room = d.0;
      in_time = f.0;
    }

pub tick_accepted : (s : Interface) (time : Time) (draw room : ℕ) → tick_refusal s time draw room ≡ None → Admitted s time
unfolding tick_refusal
tick_accepted s time draw room e = (roomy s time room None e).0

pub packet_accepted : (s : Interface) (time : Time) (bytes : List ℕ) (room : ℕ) → packet_refusal s time bytes room ≡ None → Admitted s time
unfolding packet_refusal
packet_accepted s time bytes room e = (roomy s time room (read_refusal bytes) e).0

pub drop_accepted : (s : Interface) (time : Time) (slot : ℕ) → drop_refusal s time slot ≡ None →
    Admitted s time × (is_free (record_at s.records slot) ≡ false)
unfolding drop_refusal
drop_accepted s time slot e =
    let w = admitted s time (13 if ltb 3 slot || is_free (record_at s.records slot) else None) e in
    let r = passed 13 (ltb 3 slot || is_free (record_at s.records slot)) None w.1 in
    (w.0, (or_parts (ltb 3 slot) (is_free (record_at s.records slot)) r.0).1)
