-- Document 01, "Calls": what each does when it is accepted, for any state and any arguments.
use Rattle.std.specs.Prelude.{ℕ, suc, cond, List, ltb, set, Option, None, Some}
use Rattle.basis.specs.Frame.{probe, announcement, frame_of}
use Rattle.basis.specs.declared.Ipv4Address.{Ipv4Address}
use Rattle.basis.specs.declared.Setup.{Setup}
use Rattle.basis.specs.declared.Time.{Time}
use Rattle.basis.specs.declared.Frame.{Frame}
use Rattle.basis.specs.declared.Stage.{Stage}
use Rattle.basis.specs.declared.Stage.TheVariants.{Free, Probing, Announced, Settled}
use Rattle.basis.specs.declared.Record.{Record}
use Rattle.basis.specs.declared.Interface.{Interface}
use Rattle.basis.specs.declared.Resolution.{Resolution}
use Rattle.basis.specs.declared.Kind.{Kind}
use Rattle.basis.specs.declared.Kind.TheVariants.{Fresh, Taken, Nothing, Probe, Announce, Dropped}
use Rattle.basis_engine.specs.Timing.{Timing, timing_of, wait, gap, after}
use Rattle.basis_engine.specs.Slots.{free_record, with_stage, record_at, put_at, lowest}
use Rattle.basis_engine.specs.Interface.{sender_of, is_free, new_interface, changed}
use Rattle.basis_engine.specs.Deadlines.{due_slot}
use Rattle.basis_engine.specs.Conflicts.{is_conflict, count_up, resolution, record_after, defence, resolution_kind}

-- What an accepted call does: the kind and the slot that it reports, the new state, and the frame that it hands out.
pub record Outcome : Type 0 where
  pub kind : Kind
  pub slot : Option ℕ
  pub state : Interface
  pub frame : Option Frame

-- The state with another latest time and other records.
abbrev pub renewed : Interface → Time → List Record → Interface
renewed s time records = changed s time s.asked s.conflicts records

-- "Only the latest time changes": a tick with nothing due, and a packet that is no conflict
-- (readings accepted-sets-time, none-has-no-slot).
abbrev pub nothing : Interface → Time → Outcome
nothing s time = record { kind = Nothing; slot = None; state = renewed s time s.records; frame = None }

-- Fresh: "It makes a new interface."
unfoldable pub fresh_outcome : Setup → Outcome
fresh_outcome setup = record { kind = Fresh; slot = None; state = new_interface setup; frame = None }

-- Ask: "takes the lowest free slot, probing with none sent, deadline time + draw mod 1,001. This time becomes that of the
-- latest request." (reading request-is-an-ask)
abbrev pub new_claim : Timing → Time → Ipv4Address → ℕ → ℕ → Record
new_claim row time address policy draw =
    record { address = address; policy = policy; stage = Probing 0 (after time (wait row draw)) }

unfoldable pub ask_outcome : Interface → Time → Ipv4Address → ℕ → ℕ → Outcome
ask_outcome s time address policy draw =
    record {
      kind = Taken;
      slot = lowest is_free s.records;
      state = changed s time (Some time) s.conflicts
          (put_at s.records (lowest is_free s.records) (new_claim (timing_of s.setup) time address policy draw));
      frame = None;
    }

-- Tick, the frame that is due at a stage: probes, "then the first announcement", "then the second". A free or settled record has
-- no deadline and is never due (reading both-announce).
pub record DueFrame : Type 0 where
  pub kind : Kind
  pub frame : Option Frame

abbrev pub due_frame_at : Timing → Setup → Ipv4Address → Stage → DueFrame
due_frame_at row setup address Free = record { kind = Nothing; frame = None }
due_frame_at row setup address (Probing sent deadline) =
    cond (ltb sent row.probe_num)
    (record { kind = Probe; frame = Some (probe (sender_of setup) address) })
    (record { kind = Announce; frame = Some (announcement (sender_of setup) address) })
due_frame_at row setup address (Announced deadline conflict) =
    record { kind = Announce; frame = Some (announcement (sender_of setup) address) }
due_frame_at row setup address (Settled conflict) = record { kind = Nothing; frame = None }

unfoldable pub due_frame : Timing → Setup → Record → DueFrame
due_frame row setup r = due_frame_at row setup r.address r.stage

-- Tick, what its sending leaves. "First or second probe: next deadline time + gap. Third: time + 2,000. Then the first
-- announcement, deadline time + 2,000; then the second, settled. All are counted from the time of the call." The delay after a
-- probe goes by how many are sent then, this one included; a settled record keeps the last conflict
-- (reading defence-keeps-deadline).
abbrev pub delay : Timing → ℕ → ℕ → ℕ
delay row sent draw = cond (ltb sent row.probe_num) (gap row draw) row.announce_wait

unfoldable pub stage_after : Timing → Time → ℕ → Stage → Stage
stage_after row time draw Free = Free
stage_after row time draw (Probing sent deadline) =
    cond (ltb sent row.probe_num)
    (Probing (suc sent) (after time (delay row (suc sent) draw)))
    (Announced (after time row.announce_interval) None)
stage_after row time draw (Announced deadline conflict) = Settled conflict
stage_after row time draw (Settled conflict) = Settled conflict

abbrev pub served_as : Interface → Time → ℕ → Record → DueFrame → Stage → Outcome
served_as s time slot r due stage =
    record {
      kind = due.kind;
      slot = Some slot;
      state = renewed s time (set s.records slot (with_stage r stage));
      frame = due.frame;
    }

abbrev pub serve : Interface → Time → ℕ → Option ℕ → Outcome
serve s time draw None = nothing s time
serve s time draw (Some slot) =
    served_as s time slot (record_at s.records slot)
    (due_frame (timing_of s.setup) s.setup (record_at s.records slot))
    (stage_after (timing_of s.setup) time draw (record_at s.records slot).stage)

-- Tick: "among deadlines not later than the time, serve the earliest, the lowest slot on a tie; one frame a call."
unfoldable pub tick_outcome : Interface → Time → ℕ → Outcome
tick_outcome s time draw = serve s time draw (due_slot time s.records)

-- Packet, where it is a conflict with the record in a slot.
abbrev pub resolve : Interface → Time → ℕ → Record → Resolution → Outcome
resolve s time slot r chosen =
    record {
      kind = resolution_kind chosen;
      slot = Some slot;
      state = changed s time s.asked (count_up (timing_of s.setup) s.conflicts)
          (set s.records slot (record_after chosen time r));
      frame = defence s.setup r chosen;
    }

-- Packet, where no conflict is found: our own echo, another's probe for an address in use, traffic of others.
abbrev pub unconcerned : Interface → Time → Frame → Outcome
unconcerned s time f = nothing s time

abbrev pub meet : Interface → Time → Frame → Option ℕ → Outcome
meet s time f None = unconcerned s time f
meet s time f (Some slot) =
    resolve s time slot (record_at s.records slot) (resolution (timing_of s.setup) time (record_at s.records slot))

-- Packet: "at most one record can be concerned" in a sound state (`one_concerned` in proofs/ConflictLaws.antt), so the lowest
-- is that one.
unfoldable pub packet_outcome : Interface → Time → List ℕ → Outcome
packet_outcome s time bytes = meet s time (frame_of bytes) (lowest (is_conflict s.setup (frame_of bytes)) s.records)

-- Drop: "frees it."
unfoldable pub drop_outcome : Interface → Time → ℕ → Outcome
drop_outcome s time slot =
    record {
      kind = Dropped;
      slot = Some slot;
      state = renewed s time (set s.records slot free_record);
      frame = None;
    }
