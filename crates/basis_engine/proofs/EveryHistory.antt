-- Every list of calls, up to the next accepted fresh, has a history: demand 3 is no claim about nothing.
use Prim.Native.Nat.{ℕ}
use mathlib.Core.Path.{◌≡◌, refl, ap, ◌∙◌}
use mathlib.Core.Bool.{Bool, true, false, not, ◌&&◌, ◌||◌}
use mathlib.Core.List.{List, [], ◌∷◌, map}
use Rattle.std.specs.Prelude.{Option, None, Some, Ok, Err}
use lib.Dec.{ltb}
use lib.ListN.{length}
use Rattle.basis.specs.Times.{last_time}
use Rattle.basis.specs.Answers.{Answer, ◌if◌else◌, refusal_number, reported, refused, accepted, Accepted, time_of, answer_report}
use Rattle.basis.specs.Frame.{is_known_frame, read_refusal, frame_length}
use Rattle.basis.specs.declared.Refusal.{Refusal}
use Rattle.basis.specs.declared.Refusal.TheVariants.{StateNotSound, HardwareNotAllowed, TimeAboveRange, TimeBelowLatest, BufferTooShort, PacketTooShort, FrameUnknown, AddressNotAllowed, PolicyUnknown, AddressHeld, NoSlotFree, AskedTooSoon, SlotNotHeld}
use Rattle.basis.specs.declared.Time.{Time}
use Rattle.basis.specs.declared.Interface.{Interface}
use Rattle.basis.specs.declared.Call.{Call}
use Rattle.basis_engine.specs.Slots.{record_at, lowest, is_none}
use Rattle.basis_engine.specs.Interface.{is_allowed, is_policy, is_free, is_held, is_sound, is_sound_setup}
use Rattle.basis_engine.specs.Refusals.{state_and_time, fresh_refusal, is_too_soon, ask_refusal, tick_refusal, packet_refusal, drop_refusal}
use Rattle.basis_engine.specs.Machine.{is_fresh, refusal_of, outcome_of, accepted_as, result_of, Promised, Invocation}
use Rattle.basis_engine.specs.Demand3.{Exchange, state_after, is_accepted, is_next_fresh, History, Each, invocation_in}

-- Each number in the table is that of a refusal.
record Numbered (n : ℕ) : Type 0 where
  refusal : Refusal
  number : refusal_number refusal ≡ n

abbrev IsNumbered : Option ℕ → Type 0
IsNumbered None = Unit {0}
IsNumbered (Some n) = Numbered n

given : (refusal : Refusal) (test : Bool) (rest : Option ℕ) → IsNumbered rest → IsNumbered (refusal_number refusal if test else rest)
given refusal true rest h = record { refusal = refusal; number = refl }
given refusal false rest h = h

state_and_time_lem : (s : Interface) (time : Time) (others : Option ℕ) → IsNumbered others → IsNumbered (state_and_time s time others)
unfolding state_and_time
state_and_time_lem s time others h =
    given StateNotSound (not (is_sound s)) _
    (given TimeAboveRange (ltb last_time time.0) _ (given TimeBelowLatest (ltb time.0 s.latest.0) others h))

refusal_numbered : (s : Interface) (call : Call) (bytes : List ℕ) (room : ℕ) → IsNumbered (refusal_of s call bytes room)
unfolding refusal_of fresh_refusal ask_refusal tick_refusal packet_refusal drop_refusal read_refusal
refusal_numbered s (Call.Fresh setup) bytes room = given HardwareNotAllowed (not (is_sound_setup setup)) None tt
refusal_numbered s (Call.Ask time address policy draw) bytes room =
    state_and_time_lem s time _
    (given AddressNotAllowed (not (is_allowed address)) _
    (given PolicyUnknown (not (is_policy policy)) _
    (given AddressHeld (is_held address s.records) _
    (given NoSlotFree (is_none (lowest is_free s.records)) _ (given AskedTooSoon (is_too_soon s time) None tt)))))
refusal_numbered s (Call.Tick time draw) bytes room = state_and_time_lem s time _ (given BufferTooShort (ltb room frame_length) None tt)
refusal_numbered s (Call.Packet time) bytes room =
    state_and_time_lem s time _
    (given BufferTooShort (ltb room frame_length) _
    (given PacketTooShort (ltb (length bytes) frame_length) _ (given FrameUnknown (not (is_known_frame bytes)) None tt)))
refusal_numbered s (Call.Drop time slot) bytes room =
    state_and_time_lem s time _ (given SlotNotHeld (ltb 3 slot || is_free (record_at s.records slot)) None tt)

-- Each report is that of an answer.
record Answered (refusal : Option ℕ) (a : Accepted) : Type 0 where
  answer : Answer
  reports : answer_report answer ≡ reported refusal a

moment_for : Option ℕ → Option Time
moment_for None = None
moment_for (Some n) = Some (record { 0 = n })

moment_for_lem : (o : Option ℕ) → time_of (moment_for o) ≡ o
unfolding moment_for
moment_for_lem None = refl
moment_for_lem (Some n) = refl

answered : (refusal : Option ℕ) (a : Accepted) → IsNumbered refusal → Answered refusal a
unfolding answer_report
answered None a h =
    record {
      answer = Ok (record { kind = a.kind; slot = a.slot; next = moment_for a.next });
      reports = ap (λ next. accepted (record { kind = a.kind; slot = a.slot; next = next })) (moment_for_lem a.next);
    }
answered (Some n) a h = record { answer = Err h.refusal; reports = ap refused h.number }

-- A call of a history, on any state: the machine's report, state and buffer.
exchange_on : Interface → Invocation → Exchange
exchange_on s i =
    record {
      call = i.call;
      bytes = i.bytes;
      lent = i.lent;
      answer = (answered (refusal_of s i.call i.bytes (length i.lent)) (accepted_as (outcome_of s i.call i.bytes))
          (refusal_numbered s i.call i.bytes (length i.lent))).answer;
      state = (result_of s i.call i.bytes i.lent).state;
      out = (result_of s i.call i.bytes i.lent).out;
    }

exchange_reports : (s : Interface) (i : Invocation) →
    answer_report (exchange_on s i).answer ≡ (result_of s i.call i.bytes i.lent).report
unfolding exchange_on result_of
exchange_reports s i =
    (answered (refusal_of s i.call i.bytes (length i.lent)) (accepted_as (outcome_of s i.call i.bytes))
    (refusal_numbered s i.call i.bytes (length i.lent))).reports

exchange_promised : (s : Interface) (i : Invocation) →
    Promised s i.call i.bytes i.lent (exchange_on s i).answer (exchange_on s i).state (exchange_on s i).out
unfolding exchange_on
exchange_promised s i = record { answered = exchange_reports s i; handed_back = refl; written = refl }

-- A fresh that is accepted is so on any state.
abbrev pub is_accepted_fresh : Call → Bool
is_accepted_fresh (Call.Fresh setup) = is_none (fresh_refusal setup)
is_accepted_fresh (Call.Ask time address policy draw) = false
is_accepted_fresh (Call.Tick time draw) = false
is_accepted_fresh (Call.Packet time) = false
is_accepted_fresh (Call.Drop time slot) = false

accepted_if_none : (refusal : Option ℕ) (a : Accepted) → is_accepted (reported refusal a) ≡ is_none refusal
accepted_if_none None a = refl
accepted_if_none (Some n) a = refl

fresh_or_not : (s : Interface) (call : Call) (bytes lent : List ℕ) →
    (is_fresh call && is_accepted (result_of s call bytes lent).report) ≡ is_accepted_fresh call
unfolding result_of refusal_of
fresh_or_not s (Call.Fresh setup) bytes lent = accepted_if_none (fresh_refusal setup) _
fresh_or_not s (Call.Ask time address policy draw) bytes lent = refl
fresh_or_not s (Call.Tick time draw) bytes lent = refl
fresh_or_not s (Call.Packet time) bytes lent = refl
fresh_or_not s (Call.Drop time slot) bytes lent = refl

next_fresh : (s : Interface) (i : Invocation) → is_next_fresh (exchange_on s i) ≡ is_accepted_fresh i.call
unfolding exchange_on
next_fresh s i =
    ap (λ report. is_fresh i.call && is_accepted report) (exchange_reports s i) ∙ fresh_or_not s i.call i.bytes i.lent

pub record HasHistory (start : Interface) (invocations : List Invocation) : Type 0 where
  pub exchanges : List Exchange
  pub of_the_calls : map invocation_in exchanges ≡ invocations
  pub is_history : History start exchanges

-- The calls stand the latest first, as the exchanges do.
pub every_history : (start : Interface) (invocations : List Invocation) →
    Each (λ (i : Invocation). is_accepted_fresh i.call ≡ false) invocations → HasHistory start invocations
unfolding History exchange_on
every_history start [] none_fresh = record { exchanges = []; of_the_calls = refl; is_history = tt }
every_history start (i ∷ earlier) none_fresh =
    let before = every_history start earlier none_fresh.1 in
    let s = state_after start before.exchanges in
    record {
      exchanges = exchange_on s i ∷ before.exchanges;
      of_the_calls = ap (λ l. i ∷ l) before.of_the_calls;
      is_history = (exchange_promised s i, next_fresh s i ∙ none_fresh.0, before.is_history);
    }
