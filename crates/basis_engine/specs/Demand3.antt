-- Demand 3, the whole of it as one claim over every history.
use Rattle.std.specs.Prelude.{ℕ, ◌+◌, ◌-◌, ◌/◌, ◌≤◌, ◌≡◌, Bool, true, false, cond, ◌&&◌, List, [], ◌∷◌, ◌++◌, map, ◌↔◌, leb, length, Option, None, Some}
use Rattle.basis.specs.Answers.{Answer, Report, refused, accepted, Accepted, answer_report}
use Rattle.basis.specs.declared.Ipv4Address.{Ipv4Address}
use Rattle.basis.specs.declared.Setup.{Setup}
use Rattle.basis.specs.declared.Call.{Call}
use Rattle.basis.specs.declared.Time.{Time}
use Rattle.basis.specs.declared.Record.{Record}
use Rattle.basis.specs.declared.Interface.{Interface}
use Rattle.basis_engine.specs.Timing.{Timing, timing_of}
use Rattle.basis_engine.specs.Slots.{any}
use Rattle.basis_engine.specs.Interface.{holds, is_usable_stage, new_interface}
use Rattle.basis_engine.specs.Machine.{Result, result_of, Invocation, Promised, is_fresh}
use Rattle.basis_engine.specs.Claims.{Event, Mark, mark, a_probe, an_announcement, a_defence, a_conflict, times_of, Claim, is_open, claims_of, latest_on, asks_after_tenth}

-- A call of a history: its arguments, the bytes of a packet and the out buffer that were lent to it, its answer, the state that it
-- handed back, and its out buffer afterwards.
pub record Exchange : Type 0 where
  pub call : Call
  pub bytes : List ℕ
  pub lent : List ℕ
  pub answer : Answer
  pub state : Interface
  pub out : List ℕ

-- "Each call is handed the state that the call before it returned." A history's exchanges stand the latest first.
abbrev pub state_after : Interface → List Exchange → Interface
state_after start [] = start
state_after start (exchange ∷ earlier) = exchange.state

-- "Demand 3 speaks of the calls from one accepted fresh up to the next" (reading refused-fresh).
abbrev pub is_accepted : Report Accepted → Bool
is_accepted (refused n) = false
is_accepted (accepted answer) = true

abbrev pub is_next_fresh : Exchange → Bool
is_next_fresh exchange = is_fresh exchange.call && is_accepted (answer_report exchange.answer)

-- "A history is its list of calls": each exchange is whatever the promise of the public calls allows, refused ones included.
unfoldable pub History : Interface → List Exchange → Type 0
History start [] = Unit {0}
History start (exchange ∷ earlier) =
    Promised (state_after start earlier) exchange.call exchange.bytes exchange.lent exchange.answer exchange.state exchange.out
    × (is_next_fresh exchange ≡ false)
    × History start earlier

-- What is seen of a history from outside.
abbrev pub event_of : Exchange → Event
event_of exchange =
    record { call = exchange.call; bytes = exchange.bytes; report = answer_report exchange.answer; out = exchange.out }

abbrev pub events : List Exchange → List Event
events exchanges = map event_of exchanges

-- "The plain machine, begun with the same fresh and fed with the same calls alone": its result at each call.
abbrev pub state_left : Interface → List Result → Interface
state_left start [] = start
state_left start (result ∷ earlier) = result.state

unfoldable pub plain_machine : Interface → List Invocation → List Result
plain_machine start [] = []
plain_machine start (invocation ∷ earlier) =
    result_of (state_left start (plain_machine start earlier)) invocation.call invocation.bytes invocation.lent
    ∷ plain_machine start earlier

abbrev pub invocation_in : Exchange → Invocation
invocation_in exchange = record { call = exchange.call; bytes = exchange.bytes; lent = exchange.lent }

abbrev pub result_in : Exchange → Result
result_in exchange = record { report = answer_report exchange.answer; state = exchange.state; out = exchange.out }

-- "An address is usable after it if the state then holds it in a usable stage."
abbrev pub is_usable_in : Ipv4Address → Record → Bool
is_usable_in address r = holds address r && is_usable_stage r.stage

abbrev pub is_usable : Ipv4Address → Interface → Bool
is_usable address s = any (is_usable_in address) s.records

-- Times, the latest first, each at least so many ms after the one before.
abbrev pub Spaced : ℕ → List ℕ → Type 0
Spaced ms [] = Unit {0}
Spaced ms (time ∷ []) = Unit {0}
Spaced ms (time ∷ (before ∷ earlier)) = (before + ms ≤ time) × Spaced ms (before ∷ earlier)

-- A time at least so many ms after the latest of others, if there are any.
abbrev pub IsAfter : ℕ → List ℕ → ℕ → Type 0
IsAfter ms [] time = Unit {0}
IsAfter ms (latest ∷ earlier) time = latest + ms ≤ time

-- A claim that went through: three probes, each at least 1,000 ms after the one before, then an announcement at least 2,000 ms
-- after the third, with no conflict over it between that ask and that announcement, and since the ask no drop or surrender of it.
pub record WentThrough (row : Timing) (c : Claim) : Type 0 where
  pub since : List Mark
  pub announced_at : Time
  pub before : List Mark
  pub split : c.marks ≡ since ++ (mark an_announcement announced_at ∷ before)
  pub all_probes : length (times_of a_probe before) ≡ row.probe_num
  pub probes_spaced : Spaced row.probe_min (times_of a_probe before)
  pub announced_after : IsAfter row.announce_wait (times_of a_probe before) announced_at.0
  pub undisturbed : times_of a_conflict before ≡ []
  -- Open: with no conflict before use, this says that there was no drop and no surrender.
  pub not_given_up : is_open row c ≡ true

-- There was an accepted ask on the address, and the latest one went through.
abbrev pub LatestWentThrough : Timing → Option Claim → Type 0
LatestWentThrough row None = ⊥
LatestWentThrough row (Some c) = WentThrough row c

-- What holds of each element of a list.
abbrev pub Each : {A : Type 0} → (A → Type 0) → List A → Type 0
Each P [] = Unit {0}
Each P (x ∷ xs) = P x × Each P xs

-- How many of these times lie from a to b, ends included, and the bound on them.
abbrev pub count_from : ℕ → ℕ → List ℕ → ℕ
count_from a b [] = 0
count_from a b (time ∷ earlier) = cond (leb a time && leb time b) 1 0 + count_from a b earlier

abbrev pub AtMostOneEach : ℕ → List ℕ → Type 0
AtMostOneEach ms times = (a b : ℕ) → a ≤ b → count_from a b times ≤ (b - a) / ms + 1

-- An accepted ask sends at most 3 probes and 2 claiming announcements.
abbrev pub SendsFew : Timing → Claim → Type 0
SendsFew row c = (length (times_of a_probe c.marks) ≤ row.probe_num) × (length (times_of an_announcement c.marks) ≤ row.announce_num)

-- From any a to any b not before it, ends included, it sends at most (b - a) / 10,000 rounded down, plus 1, defences.
abbrev pub DefendsSeldom : Timing → Claim → Type 0
DefendsSeldom row c = AtMostOneEach row.defend_interval (times_of a_defence c.marks)

-- The history without its refused calls.
unfoldable pub accepted_only : List Exchange → List Exchange
accepted_only [] = []
accepted_only (exchange ∷ earlier) =
    cond (is_accepted (answer_report exchange.answer)) (exchange ∷ accepted_only earlier) (accepted_only earlier)

-- That refused calls count for nothing: without them it is a history too, with the same state, claims and asks.
pub record CountForNothing (setup : Setup) (start : Interface) (exchanges others : List Exchange) : Type 0 where
  pub is_history : History start others
  pub same_state : state_after start others ≡ state_after start exchanges
  pub same_claims : claims_of setup (events others) ≡ claims_of setup (events exchanges)
  pub same_asks : asks_after_tenth setup (events others) ≡ asks_after_tenth setup (events exchanges)

-- "Demand 3 is a single claim about the whole history."
pub record Demand3 (setup : Setup) (start : Interface) (exchanges : List Exchange) : Type 0 where
  -- (a) At fresh the state, and at each call the refusal number or whole answer, the new state and every lent byte are the
  -- plain machine's.
  pub begun_as_the_machine : start ≡ new_interface setup
  pub as_the_machine : map result_in exchanges ≡ plain_machine (new_interface setup) (map invocation_in exchanges)
  -- (b) An address is usable exactly if its latest accepted ask went through and was not given up since.
  pub usable_exactly_if : (address : Ipv4Address) →
      (is_usable address (state_after start exchanges) ≡ true) ↔ LatestWentThrough (timing_of setup) (latest_on address (claims_of setup (events exchanges)))
  -- (c) At most 3 probes and 2 claiming announcements an ask.
  pub few_frames : Each (SendsFew (timing_of setup)) (claims_of setup (events exchanges))
  -- (d) From a to b at most (b - a) / 10,000 rounded down, plus 1, defences an ask.
  pub few_defences : Each (DefendsSeldom (timing_of setup)) (claims_of setup (events exchanges))
  -- (e) After the tenth conflict, from a to b at most (b - a) / 60,000 rounded down, plus 1, asks.
  pub few_asks : AtMostOneEach (timing_of setup).rate_limit_interval (asks_after_tenth setup (events exchanges))
  -- (f) Refused calls count for nothing.
  pub refused_count_for_nothing : CountForNothing setup start exchanges (accepted_only exchanges)

-- The theorem: from every accepted fresh, over every history.
abbrev pub Theorem : Type 0
Theorem =
    (setup : Setup) (before start : Interface) (bytes lent out : List ℕ) (answer : Answer) →
    Promised before (Call.Fresh setup) bytes lent answer start out → is_accepted (answer_report answer) ≡ true →
    (exchanges : List Exchange) → History start exchanges → Demand3 setup start exchanges
