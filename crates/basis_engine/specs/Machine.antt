-- "The plain machine is the rules under 'Calls' and 'Refusal numbers'": what a call reports, the state and the out buffer that
-- it leaves, for any state and any call. The promise of the public calls is that they give just that.
use Rattle.std.specs.Prelude.{ℕ, ◌≡◌, List, Bool, true, false, length, Option, None, Some}
use Rattle.basis.specs.Answers.{Answer, Report, Accepted, reported, leaves, answer_report}
use Rattle.basis.specs.Frame.{frame_put}
use Rattle.basis.specs.declared.Frame.{Frame}
use Rattle.basis.specs.declared.Interface.{Interface}
use Rattle.basis.specs.declared.Call.{Call}
use Rattle.basis_engine.specs.Deadlines.{smallest_deadline}
use Rattle.basis_engine.specs.Calls.{Outcome, fresh_outcome, ask_outcome, tick_outcome, packet_outcome, drop_outcome}
use Rattle.basis_engine.specs.Refusals.{fresh_refusal, ask_refusal, tick_refusal, packet_refusal, drop_refusal}

-- A call's refusal, or none, and what it does if there is none. Of what is lent, the bytes are a packet's; a tick and a packet
-- look at the out buffer's length.
unfoldable pub refusal_of : Interface → Call → List ℕ → ℕ → Option ℕ
refusal_of s (Call.Fresh setup) bytes room = fresh_refusal setup
refusal_of s (Call.Ask time address policy draw) bytes room = ask_refusal s time address policy draw
refusal_of s (Call.Tick time draw) bytes room = tick_refusal s time draw room
refusal_of s (Call.Packet time) bytes room = packet_refusal s time bytes room
refusal_of s (Call.Drop time slot) bytes room = drop_refusal s time slot

unfoldable pub outcome_of : Interface → Call → List ℕ → Outcome
outcome_of s (Call.Fresh setup) bytes = fresh_outcome setup
outcome_of s (Call.Ask time address policy draw) bytes = ask_outcome s time address policy draw
outcome_of s (Call.Tick time draw) bytes = tick_outcome s time draw
outcome_of s (Call.Packet time) bytes = packet_outcome s time bytes
outcome_of s (Call.Drop time slot) bytes = drop_outcome s time slot

-- "A frame goes to the first 28 bytes of the out buffer, the rest untouched; without a frame all of it is untouched."
abbrev pub handed_out : Option Frame → List ℕ → List ℕ
handed_out None out = out
handed_out (Some f) out = frame_put f out

-- "Every accepted call reports a kind, the slot concerned or none, and the smallest deadline left or none."
abbrev pub accepted_as : Outcome → Accepted
accepted_as outcome =
    record { kind = outcome.kind; slot = outcome.slot; next = smallest_deadline outcome.state.records }

-- "Compared with it at each call are the refusal number or the whole answer, the new state and every lent byte." "A refusal
-- returns its number alone [..], and the state and each lent byte remain what they were, latest time included." "A refused fresh makes no state":
-- the one handed in comes back (reading refused-fresh). A packet's bytes are lent for reading only, so no result speaks of them.
pub record Result : Type 0 where
  pub report : Report Accepted
  pub state : Interface
  pub out : List ℕ

abbrev pub result_as : Option ℕ → Interface → List ℕ → Outcome → Result
result_as refusal s out outcome =
    record {
      report = reported refusal (accepted_as outcome);
      state = leaves refusal s outcome.state;
      out = leaves refusal out (handed_out outcome.frame out);
    }

-- Of a call on this state, lent these bytes and this out buffer.
unfoldable pub result_of : Interface → Call → List ℕ → List ℕ → Result
result_of s call bytes lent = result_as (refusal_of s call bytes (length lent)) s lent (outcome_of s call bytes)

-- A call with what is lent to it: a packet's bytes, and the out buffer as it is before.
pub record Invocation : Type 0 where
  pub call : Call
  pub bytes : List ℕ
  pub lent : List ℕ

-- Whether a call makes a new interface: the others are calls on a state.
abbrev pub is_fresh : Call → Bool
is_fresh (Call.Fresh setup) = true
is_fresh (Call.Ask time address policy draw) = false
is_fresh (Call.Tick time draw) = false
is_fresh (Call.Packet time) = false
is_fresh (Call.Drop time slot) = false

-- The promise of fresh, ask, tick, packet and drop: handed this state, these arguments and this memory, the answer, the state
-- handed back and the out buffer afterwards are the machine's. To the public calls of fresh, ask and drop nothing is lent; what is
-- lent to such a call all the same is left as it was.
pub record Promised (before : Interface) (call : Call) (bytes lent : List ℕ) (answer : Answer) (after : Interface) (out : List ℕ) : Type 0 where
  pub answered : answer_report answer ≡ (result_of before call bytes lent).report
  pub handed_back : after ≡ (result_of before call bytes lent).state
  pub written : out ≡ (result_of before call bytes lent).out
