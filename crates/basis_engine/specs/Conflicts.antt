-- Document 01, "Packet": what is a conflict, and what it does to a record.
use Rattle.std.specs.Prelude.{ℕ, suc, Bool, false, cond, not, ◌&&◌, ◌||◌, eqb, Option, None, Some}
use Rattle.basis.specs.Frame.{announcement}
use Rattle.basis.specs.declared.Ipv4Address.{Ipv4Address}
use Rattle.basis.specs.declared.Setup.{Setup}
use Rattle.basis.specs.declared.Time.{Time}
use Rattle.basis.specs.declared.Frame.{Frame}
use Rattle.basis.specs.declared.Stage.{Stage}
use Rattle.basis.specs.declared.Stage.TheVariants.{Free, Probing, Announced, Settled}
use Rattle.basis.specs.declared.Record.{Record}
use Rattle.basis.specs.declared.Resolution.{Resolution}
use Rattle.basis.specs.declared.Resolution.TheVariants.{Lose, Defend, Keep}
use Rattle.basis.specs.declared.Kind.{Kind}
use Rattle.basis_engine.specs.Timing.{Timing, is_within}
use Rattle.basis_engine.specs.Slots.{free_record, with_stage}
use Rattle.basis_engine.specs.Interface.{sender_of, is_ours}

-- What a packet says of an address: that it comes from there; or, "operation 1, sender IP zero, target IP its address", that
-- its sender probes for it.
abbrev pub is_from : Frame → Ipv4Address → Bool
is_from f address = eqb f.sender.ip.0 address.0

abbrev pub probes_for : Frame → Ipv4Address → Bool
probes_for f address = eqb f.operation 1 && eqb f.sender.ip.0 0 && eqb f.target.ip.0 address.0

-- "It's a conflict if
-- - the record is probing and the sender IP is its address, whatever the sender hardware or operation; or
-- - it's probing, operation 1, sender IP zero, target IP its address, sender hardware not ours; or
-- - it's usable, sender IP its address, sender hardware not ours."
-- "A deadline that has passed without a tick changes nothing here: the stage decides." (reading late-echo)
abbrev pub is_conflict_at : Setup → Frame → Ipv4Address → Stage → Bool
is_conflict_at setup f address Free = false
is_conflict_at setup f address (Probing sent deadline) =
    is_from f address || (probes_for f address && not (is_ours setup f.sender.hardware))
is_conflict_at setup f address (Announced deadline conflict) = is_from f address && not (is_ours setup f.sender.hardware)
is_conflict_at setup f address (Settled conflict) = is_from f address && not (is_ours setup f.sender.hardware)

abbrev pub is_conflict : Setup → Frame → Record → Bool
is_conflict setup f r = is_conflict_at setup f r.address r.stage

-- "A conflict adds one to the count unless it is 10." A defended one too, over all records
-- (readings count-never-falls, document-01-decides).
abbrev pub count_up : Timing → ℕ → ℕ
count_up row count = cond (eqb count row.max_conflicts) count (suc count)

-- "A usable one goes by policy (section 2.4): 1, lost; 2, defend if no conflict was seen before in this use or the last seen was 10,000 ms
-- ago or more, else lost; 3, the same but 'kept' without a frame in place of lost."
abbrev pub by_policy : Timing → ℕ → Time → Option Time → Resolution
by_policy row policy now last =
    cond (eqb policy 1) Lose
    (cond (not (is_within row.defend_interval now last)) Defend
    (cond (eqb policy 2) Lose Keep))

-- "A probing record is lost." No packet is a conflict with a free one.
abbrev pub resolution_at : Timing → ℕ → Time → Stage → Resolution
resolution_at row policy now Free = Keep
resolution_at row policy now (Probing sent deadline) = Lose
resolution_at row policy now (Announced deadline conflict) = by_policy row policy now conflict
resolution_at row policy now (Settled conflict) = by_policy row policy now conflict

unfoldable pub resolution : Timing → Time → Record → Resolution
resolution row now r = resolution_at row r.policy now r.stage

-- "Each conflict seen, answered or not, becomes the last one seen." (reading defence-keeps-deadline)
abbrev pub seen_at : Time → Stage → Stage
seen_at now Free = Free
seen_at now (Probing sent deadline) = Probing sent deadline
seen_at now (Announced deadline conflict) = Announced deadline (Some now)
seen_at now (Settled conflict) = Settled (Some now)

-- What each resolution leaves of the record, the frame that it sends, and the kind that is reported. "The slot is free at once."
abbrev pub record_after : Resolution → Time → Record → Record
record_after Lose now r = free_record
record_after Defend now r = with_stage r (seen_at now r.stage)
record_after Keep now r = with_stage r (seen_at now r.stage)

abbrev pub defence : Setup → Record → Resolution → Option Frame
defence setup r Lose = None
defence setup r Defend = Some (announcement (sender_of setup) r.address)
defence setup r Keep = None

abbrev pub resolution_kind : Resolution → Kind
resolution_kind Lose = Kind.Lost
resolution_kind Defend = Kind.Defend
resolution_kind Keep = Kind.Kept
