-- Document 01, "The histories of demand 3": the words of demand 3, "read from the accepted calls, their arguments and answers,
-- never from the records". Nothing here takes a state.
use Rattle.std.specs.Prelude.{ℕ, ◌+◌, Bool, true, false, cond, not, ◌&&◌, ◌||◌, List, [], ◌∷◌, map, leb, eqb, length, Option, None, Some}
use Rattle.basis.specs.Answers.{Report, refused, accepted, Accepted, HandedOut, hands_nothing, hands_due, hands_defence, handed_out_by}
use Rattle.basis.specs.Frame.{frame_of}
use Rattle.basis.specs.declared.Ipv4Address.{Ipv4Address}
use Rattle.basis.specs.declared.Setup.{Setup}
use Rattle.basis.specs.declared.Call.{Call}
use Rattle.basis.specs.declared.Time.{Time}
use Rattle.basis.specs.declared.Frame.{Frame}
use Rattle.basis_engine.specs.Timing.{Timing, timing_of, is_within}
use Rattle.basis_engine.specs.Slots.{is_just}
use Rattle.basis_engine.specs.Interface.{is_ours}

-- What is seen of a call: its arguments, a packet's bytes, its answer, and its out buffer afterwards.
pub record Event : Type 0 where
  pub call : Call
  pub bytes : List ℕ
  pub report : Report Accepted
  pub out : List ℕ

-- What befalls a claim, and when.
pub data Sign : Type 0 where
  a_probe : Sign
  an_announcement : Sign
  a_defence : Sign
  a_conflict : Sign
  a_drop : Sign

pub record Mark : Type 0 where
  pub sign : Sign
  pub time : Time

abbrev pub mark : Sign → Time → Mark
mark sign t = record { sign = sign; time = t }

abbrev pub sign_number : Sign → ℕ
sign_number a_probe = 1
sign_number an_announcement = 2
sign_number a_defence = 3
sign_number a_conflict = 4
sign_number a_drop = 5

-- The times of a claim's marks of one sign, the latest first.
unfoldable pub times_of : Sign → List Mark → List ℕ
times_of sign [] = []
times_of sign (m ∷ earlier) =
    cond (eqb (sign_number m.sign) (sign_number sign)) (m.time.0 ∷ times_of sign earlier) (times_of sign earlier)

-- "An ask opens a claim on its address, with its policy, in the slot that it reports." Its marks, the latest first.
pub record Claim : Type 0 where
  pub address : Ipv4Address
  pub policy : ℕ
  pub slot : Option ℕ
  pub marks : List Mark

-- "From its first announcement a claim is in use."
abbrev pub is_any : List ℕ → Bool
is_any [] = false
is_any (t ∷ earlier) = true

abbrev pub is_in_use : List Mark → Bool
is_in_use marks = is_any (times_of an_announcement marks)

-- "This claim's previous conflict."
abbrev pub latest : List ℕ → Option Time
latest [] = None
latest (t ∷ earlier) = Some (record { 0 = t })

abbrev pub last_conflict : List Mark → Option Time
last_conflict marks = latest (times_of a_conflict marks)

-- "In use it ends it under policy 1, and under policy 2 if this claim's previous conflict was less than 10,000 ms earlier:
-- that is a surrender." (reading both-losses-surrender)
abbrev pub is_surrender : Timing → ℕ → List Mark → Time → Bool
is_surrender row policy earlier t =
    is_in_use earlier && (eqb policy 1 || (eqb policy 2 && is_within row.defend_interval t (last_conflict earlier)))

-- Whether a claim stays open through a mark: "A conflict before use ends the claim." "A drop of its slot ends an open claim."
abbrev pub is_borne : Timing → ℕ → List Mark → Time → Sign → Bool
is_borne row policy earlier t a_probe = true
is_borne row policy earlier t an_announcement = true
is_borne row policy earlier t a_defence = true
is_borne row policy earlier t a_conflict = is_in_use earlier && not (is_surrender row policy earlier t)
is_borne row policy earlier t a_drop = false

unfoldable pub is_open_after : Timing → ℕ → List Mark → Bool
is_open_after row policy [] = true
is_open_after row policy (m ∷ earlier) = is_borne row policy earlier m.time m.sign && is_open_after row policy earlier

abbrev pub is_open : Timing → Claim → Bool
is_open row c = is_open_after row c.policy c.marks

-- "A packet is a conflict with a claim still open if its sender IP is the claim's address, and the claim isn't in use or the
-- sender hardware isn't ours; or if the claim isn't in use and the packet has operation 1, sender IP zero, the claim's address
-- as target IP, and sender hardware not ours."
unfoldable pub is_conflict_with : Setup → Frame → Claim → Bool
is_conflict_with setup f c =
    (eqb f.sender.ip.0 c.address.0 && (not (is_in_use c.marks) || not (is_ours setup f.sender.hardware)))
    || (not (is_in_use c.marks)
    && eqb f.operation 1
    && eqb f.sender.ip.0 0
    && eqb f.target.ip.0 c.address.0
    && not (is_ours setup f.sender.hardware))

-- A claim with one more mark.
abbrev pub marked : Mark → Claim → Claim
marked m c = record { address = c.address; policy = c.policy; slot = c.slot; marks = m ∷ c.marks }

-- A claim with this mark, if it is open and the test holds; else as it was.
abbrev pub marked_if : Timing → Bool → Mark → Claim → Claim
marked_if row test m c = cond (is_open row c && test) (marked m c) c

-- A claim after a packet, and after a drop of a slot.
abbrev pub struck : Setup → Time → Frame → Claim → Claim
struck setup t f c = marked_if (timing_of setup) (is_conflict_with setup f c) (mark a_conflict t) c

abbrev pub released : Setup → Time → ℕ → Claim → Claim
released setup t slot c = marked_if (timing_of setup) (is_just slot c.slot) (mark a_drop t) c

-- "Each belongs to the latest claim on its target IP": the claims, the latest first, with this mark added to that one.
abbrev pub is_on : Ipv4Address → Claim → Bool
is_on address c = eqb c.address.0 address.0

unfoldable pub marked_latest : Ipv4Address → Mark → List Claim → List Claim
marked_latest address m [] = []
marked_latest address m (c ∷ earlier) = cond (is_on address c) (marked m c ∷ earlier) (c ∷ marked_latest address m earlier)

-- "A tick's frame is sent at the tick's time: a probe if its sender IP is zero, else a claiming announcement."
abbrev pub ticked : Time → Frame → Mark
ticked t f = mark (cond (eqb f.sender.ip.0 0) a_probe an_announcement) t

abbrev pub with_ticked : HandedOut → Time → Frame → List Claim → List Claim
with_ticked hands_nothing t f claims = claims
with_ticked hands_due t f claims = marked_latest f.target.ip (ticked t f) claims
with_ticked hands_defence t f claims = marked_latest f.target.ip (ticked t f) claims

-- "A packet's frame of kind defend is a defence, sent at the packet's time."
abbrev pub with_defence : HandedOut → Time → Frame → List Claim → List Claim
with_defence hands_nothing t f claims = claims
with_defence hands_due t f claims = claims
with_defence hands_defence t f claims = marked_latest f.target.ip (mark a_defence t) claims

-- The claims after an accepted call, and after a history, the latest first. An accepted fresh begins another history, so it
-- stands in none (`History` in Demand3.antt).
unfoldable pub claims_after : Setup → Call → List ℕ → Accepted → List ℕ → List Claim → List Claim
claims_after setup (Call.Fresh other) bytes answer out claims = []
claims_after setup (Call.Ask t address policy draw) bytes answer out claims =
    record { address = address; policy = policy; slot = answer.slot; marks = [] } ∷ claims
claims_after setup (Call.Tick t draw) bytes answer out claims = with_ticked (handed_out_by answer.kind) t (frame_of out) claims
claims_after setup (Call.Packet t) bytes answer out claims =
    with_defence (handed_out_by answer.kind) t (frame_of out) (map (struck setup t (frame_of bytes)) claims)
claims_after setup (Call.Drop t slot) bytes answer out claims = map (released setup t slot) claims

-- Refused calls count for nothing.
abbrev pub claims_by : Setup → Event → Report Accepted → List Claim → List Claim
claims_by setup e (refused n) claims = claims
claims_by setup e (accepted answer) claims = claims_after setup e.call e.bytes answer e.out claims

unfoldable pub claims_of : Setup → List Event → List Claim
claims_of setup [] = []
claims_of setup (e ∷ earlier) = claims_by setup e e.report (claims_of setup earlier)

-- The latest claim on an address.
unfoldable pub latest_on : Ipv4Address → List Claim → Option Claim
latest_on address [] = None
latest_on address (c ∷ earlier) = cond (is_on address c) (Some c) (latest_on address earlier)

-- "The tenth conflict is counted over all claims": the conflicts of all claims, and the times of the asks that were accepted
-- after the tenth, the latest first.
unfoldable pub conflict_count : List Claim → ℕ
conflict_count [] = 0
conflict_count (c ∷ earlier) = length (times_of a_conflict c.marks) + conflict_count earlier

abbrev pub asks_by : Timing → Call → Report Accepted → List Claim → List ℕ → List ℕ
asks_by row call (refused n) claims asks = asks
asks_by row (Call.Fresh setup) (accepted answer) claims asks = []
asks_by row (Call.Ask t address policy draw) (accepted answer) claims asks =
    cond (leb row.max_conflicts (conflict_count claims)) (t.0 ∷ asks) asks
asks_by row (Call.Tick t draw) (accepted answer) claims asks = asks
asks_by row (Call.Packet t) (accepted answer) claims asks = asks
asks_by row (Call.Drop t slot) (accepted answer) claims asks = asks

unfoldable pub asks_after_tenth : Setup → List Event → List ℕ
asks_after_tenth setup [] = []
asks_after_tenth setup (e ∷ earlier) =
    asks_by (timing_of setup) e.call e.report (claims_of setup earlier) (asks_after_tenth setup earlier)
