-- How what the inner functions promise makes up the call: a law for each way that a function ends.
use Prim.Native.Nat.{ℕ}
use mathlib.Core.Path.{◌≡◌, refl, sym, ◌∙◌}
use mathlib.Core.List.{List}
use Rattle.std.specs.Prelude.{Option, None, Some}
use Rattle.basis.specs.Answers.{refusal_number, refused, accepted}
use Rattle.basis.specs.Frame.{frame_of, read_refusal, read_of}
use Rattle.basis.specs.declared.Time.{Time}
use Rattle.basis.specs.declared.Frame.{Frame}
use Rattle.basis.specs.declared.Record.{Record}
use Rattle.basis.specs.declared.Interface.{Interface}
use Rattle.basis.specs.declared.Refusal.{Refusal}
use Rattle.basis.specs.declared.Kind.{Kind}
use Rattle.basis.specs.declared.Resolution.{Resolution}
use Rattle.basis.proofs.AnswersLaws.{accepted_none, accepted_same, refused_some}
use Rattle.basis_engine.specs.Slots.{record_at, lowest}
use Rattle.basis_engine.specs.Conflicts.{is_conflict, count_up, resolution, record_after, defence, resolution_kind}
use Rattle.basis_engine.specs.Refusals.{state_time_and_room, packet_refusal}
use Rattle.basis_engine.specs.Calls.{nothing, resolve, meet, packet_outcome}
use Rattle.basis_engine.specs.Timing.{rfc5227}
use Rattle.engine_admission.proofs.Rows.{room_rows_bar, room_rows_leave}
use Rattle.engine_state.specs.declared.Change.{Change}
use Rattle.engine_state.specs.Changes.{change_at, counting}
use Rattle.engine_decisions.specs.declared.Decision.{Decision}
use Rattle.engine_decisions.specs.Decisions.{Decides}

-- `kind`, `count`, `new` and `frame` are what `resolution_kind`, `count_up`, `record_after` and `defence` made.
pub is_resolution : (s : Interface) (time : Time) (slot : ℕ) (held : Record) (chosen : Resolution) →
    (kind : Kind) → kind ≡ resolution_kind chosen → (count : ℕ) → count ≡ count_up rfc5227 s.conflicts →
    (new : Record) → new ≡ record_after chosen time held →
    (frame : Option Frame) → frame ≡ defence s.setup held chosen →
    (seen : Change) → seen ≡ change_at s time (Some (slot, new)) → (change : Change) → change ≡ counting seen count →
    Decides s (resolve s time slot held chosen) (record { kind = kind; change = change; frame = frame })
is_resolution s time slot held chosen kind k count c new n frame f seen e change is =
    rw (is, e) (record { accepts = rw k; concerns = refl; changes = rw (c, n); sends = f })

module _
    (s : Interface) (time : Time) (d : Decision) (f : Frame)
    (found : Option ℕ) (told : found ≡ lowest (is_conflict s.setup f) s.records) where
  pub none_met : found ≡ None → Decides s (nothing s time) d →
      Decides s (meet s time f (lowest (is_conflict s.setup f) s.records)) d
  none_met e says = rw (← told, e) says

  pub one_met : (slot : ℕ) → found ≡ Some slot → (held : Record) → held ≡ record_at s.records slot →
      (chosen : Resolution) → chosen ≡ resolution rfc5227 time held → Decides s (resolve s time slot held chosen) d →
      Decides s (meet s time f (lowest (is_conflict s.setup f) s.records)) d
  one_met slot e held h chosen c says = rw (← told, e, ← h, ← c) says

-- Each way that `meet` ends.
pub ruleset meet_ends = (none_met, one_met)

-- What the first rows, and then the read, leave of a packet's refusals.
module _ (s : Interface) (time : Time) (bytes : List ℕ) (room : ℕ) where
  pub packet_barred : (n : ℕ) → Some n ≡ state_time_and_room s time room None → Some n ≡ packet_refusal s time bytes room
  unfolding packet_refusal
  packet_barred n e = sym (room_rows_bar s time room (read_refusal bytes) n (sym e))

  module _ (first : None ≡ state_time_and_room s time room None) where
    left : packet_refusal s time bytes room ≡ read_refusal bytes
    unfolding packet_refusal
    left = room_rows_leave s time room (read_refusal bytes) (sym first)

    pub packet_unread : (refusal : Refusal) → refused (refusal_number refusal) ≡ read_of bytes →
        Some (refusal_number refusal) ≡ packet_refusal s time bytes room
    unfolding read_of
    packet_unread refusal said = sym (left ∙ refused_some (read_refusal bytes) (refusal_number refusal) (frame_of bytes) said)

    module _ (f : Frame) (said : accepted f ≡ read_of bytes) where
      pub packet_read : None ≡ packet_refusal s time bytes room
      unfolding read_of
      packet_read = sym (left ∙ accepted_none (read_refusal bytes) f (frame_of bytes) said)

      pub packet_met : (d : Decision) (at : Interface) → at ≡ s → (by : Time) → by ≡ time →
          Decides at (meet at by f (lowest (is_conflict at.setup f) at.records)) d → Decides s (packet_outcome s time bytes) d
      unfolding packet_outcome read_of
      packet_met d at a by b says = rw (accepted_same (read_refusal bytes) f (frame_of bytes) said, a, b) at says

pub ruleset packet_ends = (packet_barred, packet_unread, packet_read, packet_met)
