-- A decision carried out is what the machine says: a law for each way that a function ends.
use Prim.Native.Nat.{ℕ, ◌≤◌}
use mathlib.Core.Path.{◌≡◌, refl, sym, ap, ◌∙◌}
use mathlib.Core.Bool.{Bool, true, false}
use mathlib.Core.List.{List, []}
use Rattle.std.specs.Prelude.{Option, None, Some, Result, Ok, Err, is_some}
use lib.Dec.{ltb}
use lib.ListN.{length}
use Rattle.basis.specs.Answers.{Answer, accepted, reported, leaves, answer_report}
use Rattle.basis.specs.Frame.{frame_length, frame_of, read_refusal}
use Rattle.basis.specs.declared.Ipv4Address.{Ipv4Address}
use Rattle.basis.specs.declared.Setup.{Setup}
use Rattle.basis.specs.declared.Time.{Time}
use Rattle.basis.specs.declared.Stage.{Stage}
use Rattle.basis.specs.declared.Stage.TheVariants.{Free, Probing, Announced, Settled}
use Rattle.basis.specs.declared.Record.{Record}
use Rattle.basis.specs.declared.Resolution.{Resolution}
use Rattle.basis.specs.declared.Resolution.TheVariants.{Lose, Defend, Keep}
use Rattle.basis.specs.declared.Interface.{Interface}
use Rattle.basis.specs.declared.Call.{Call}
use Rattle.basis.specs.declared.Called.{Called}
use Rattle.basis_engine.specs.Timing.{Timing, timing_of}
use Rattle.basis_engine.specs.Slots.{record_at, lowest}
use Rattle.basis_engine.specs.Interface.{is_sound}
use Rattle.basis_engine.specs.Deadlines.{due_slot, smallest_deadline}
use Rattle.basis_engine.specs.Conflicts.{is_conflict, resolution, defence}
use Rattle.basis_engine.specs.Refusals.{ask_refusal, tick_refusal, packet_refusal, drop_refusal}
use Rattle.basis_engine.specs.Calls.{due_frame_at, due_frame, serve, meet, ask_outcome, tick_outcome, packet_outcome, drop_outcome, fresh_outcome}
use Rattle.basis_engine.specs.Machine.{refusal_of, outcome_of, handed_out, accepted_as, result_of, Promised}
use Rattle.basis_engine.proofs.Acceptance.{roomy}
use Rattle.engine_frames.proofs.FramesLaws.{probe_put, announcement_put}
use Rattle.engine_decisions.specs.declared.Decision.{Decision}
use Rattle.engine_decisions.specs.Decisions.{sent_out, Decided, CarriedOut}
use Rattle.engine_calls.specs.Performed.{is_sent}
use Rattle.basis.specs.declared.Refusal.{Refusal}

-- What goes out is written, since a sound state's requests can be: of a due frame, and of a resolution.
module _ (s : Interface) (sound : is_sound s ≡ true) (out : List ℕ) (room : frame_length ≤ length out) where
  due_sent : (row : Timing) (address : Ipv4Address) (stage : Stage) →
      sent_out (due_frame_at row s.setup address stage).frame out ≡ handed_out (due_frame_at row s.setup address stage).frame out
  due_sent row address Free = refl
  due_sent row address (Probing sent deadline) = go (ltb sent row.probe_num) refl
    where
      go : (b : Bool) → ltb sent row.probe_num ≡ b →
          sent_out (due_frame_at row s.setup address (Probing sent deadline)).frame out
          ≡ handed_out (due_frame_at row s.setup address (Probing sent deadline)).frame out
      go true e = rw e (probe_put s sound address out room)
      go false e = rw e (announcement_put s sound address out room)
  due_sent row address (Announced deadline conflict) = announcement_put s sound address out room
  due_sent row address (Settled conflict) = refl

  serve_sent : (time : Time) (draw : ℕ) (slot : Option ℕ) →
      sent_out (serve s time draw slot).frame out ≡ handed_out (serve s time draw slot).frame out
  unfolding due_frame
  serve_sent time draw None = refl
  serve_sent time draw (Some n) = due_sent (timing_of s.setup) (record_at s.records n).address (record_at s.records n).stage

  resolution_sent : (held : Record) (chosen : Resolution) →
      sent_out (defence s.setup held chosen) out ≡ handed_out (defence s.setup held chosen) out
  resolution_sent held Lose = refl
  resolution_sent held Defend = announcement_put s sound held.address out room
  resolution_sent held Keep = refl

  meet_sent : (time : Time) (bytes : List ℕ) (slot : Option ℕ) →
      sent_out (meet s time (frame_of bytes) slot).frame out ≡ handed_out (meet s time (frame_of bytes) slot).frame out
  meet_sent time bytes None = refl
  meet_sent time bytes (Some n) =
      resolution_sent (record_at s.records n) (resolution (timing_of s.setup) time (record_at s.records n))

-- So it is of every call that is accepted.
call_sent : (s : Interface) (call : Call) (bytes out : List ℕ) → refusal_of s call bytes (length out) ≡ None →
    sent_out (outcome_of s call bytes).frame out ≡ handed_out (outcome_of s call bytes).frame out
unfolding refusal_of outcome_of fresh_outcome ask_outcome tick_outcome packet_outcome drop_outcome tick_refusal packet_refusal
call_sent s (Call.Fresh setup) bytes out e = refl
call_sent s (Call.Ask time address policy draw) bytes out e = refl
call_sent s (Call.Tick time draw) bytes out e =
    let facts = roomy s time (length out) None e in
    serve_sent s facts.0.sound out facts.1 time draw (due_slot time s.records)
call_sent s (Call.Packet time) bytes out e =
    let facts = roomy s time (length out) (read_refusal bytes) e in
    meet_sent s facts.0.sound out facts.1 time bytes (lowest (is_conflict s.setup (frame_of bytes)) s.records)
call_sent s (Call.Drop time slot) bytes out e = refl

-- A decision carried out: refused, and accepted.
module _ (s : Interface) (call : Call) (bytes out : List ℕ) where
  carried : (refusal : Option ℕ) → refusal_of s call bytes (length out) ≡ refusal →
      (decided : Result Decision Refusal) → Decided s refusal (outcome_of s call bytes) decided →
      (r : Called) (left : List ℕ) → CarriedOut s decided out r left → Promised s call bytes out r.answer r.state left
  unfolding result_of answer_report
  carried refusal e (Err n) says r left done =
      record {
        answered = ap answer_report done.0 ∙ sym (ap (λ m. reported m (accepted_as (outcome_of s call bytes))) (e ∙ sym says));
        handed_back = done.1 ∙ sym (ap (λ m. leaves m s (outcome_of s call bytes).state) (e ∙ sym says));
        written = done.2 ∙ sym (ap (λ m. leaves m out (handed_out (outcome_of s call bytes).frame out)) (e ∙ sym says));
      }
  carried refusal e (Ok d) says r left done =
      let none = e ∙ sym says.0 in
      record {
        answered =
            done.reports
            ∙ (λ i. accepted (record {
              kind = says.1.accepts i;
              slot = says.1.concerns i;
              next = smallest_deadline ((done.leaves ∙ says.1.changes) i).records;
            }))
            ∙ sym (ap (λ n. reported n (accepted_as (outcome_of s call bytes))) none);
        handed_back = done.leaves ∙ says.1.changes ∙ sym (ap (λ n. leaves n s (outcome_of s call bytes).state) none);
        written =
            done.written
            ∙ ap (λ f. sent_out f out) says.1.sends
            ∙ call_sent s call bytes out none
            ∙ sym (ap (λ n. leaves n out (handed_out (outcome_of s call bytes).frame out)) none);
      }

  -- The decision on the call, carried out.
  module _ (decided : Result Decision Refusal) (says : Decided s (refusal_of s call bytes (length out)) (outcome_of s call bytes) decided) where
    pub is_performed : (r : Called) (left : List ℕ) → CarriedOut s decided out r left → Promised s call bytes out r.answer r.state left
    is_performed r left done = carried _ refl decided says r left done

    pub is_told : is_sent decided ≡ leaves (refusal_of s call bytes (length out)) false (is_some (outcome_of s call bytes).frame)
    is_told = go decided says
      where
        go : (r : Result Decision Refusal) → Decided s (refusal_of s call bytes (length out)) (outcome_of s call bytes) r →
            is_sent r ≡ leaves (refusal_of s call bytes (length out)) false (is_some (outcome_of s call bytes).frame)
        go (Ok d) w = rw (← w.0) (ap is_some w.1.sends)
        go (Err n) w = rw (← w)

-- What each call decides is what is decided of the call.
module _ (s : Interface) (call : Call) (bytes : List ℕ) (room : ℕ) (decided by_call : Result Decision Refusal) (same : decided ≡ by_call) where
  abbrev DecisionMade : Type 0
  DecisionMade = Decided s (refusal_of s call bytes room) (outcome_of s call bytes) decided

  pub ask_decided : (time : Time) (address : Ipv4Address) (policy draw : ℕ) → call ≡ Call.Ask time address policy draw →
      Decided s (ask_refusal s time address policy draw) (ask_outcome s time address policy draw) by_call → DecisionMade
  unfolding refusal_of outcome_of
  ask_decided time address policy draw e says = rw (e, same) says

  pub tick_decided : (time : Time) (draw : ℕ) → call ≡ Call.Tick time draw →
      Decided s (tick_refusal s time draw room) (tick_outcome s time draw) by_call → DecisionMade
  unfolding refusal_of outcome_of
  tick_decided time draw e says = rw (e, same) says

  pub packet_decided : (time : Time) → call ≡ Call.Packet time →
      Decided s (packet_refusal s time bytes room) (packet_outcome s time bytes) by_call → DecisionMade
  unfolding refusal_of outcome_of
  packet_decided time e says = rw (e, same) says

  pub drop_decided : (time : Time) (slot : ℕ) → call ≡ Call.Drop time slot →
      Decided s (drop_refusal s time slot) (drop_outcome s time slot) by_call → DecisionMade
  unfolding refusal_of outcome_of
  drop_decided time slot e says = rw (e, same) says

-- Whatever refuses, what is the same in both cases stays.
same_left : {A : Type 0} (a : A) (refusal : Option ℕ) → a ≡ leaves refusal a a
same_left a None = refl
same_left a (Some n) = refl

-- Fresh hands out no frame, whatever is lent to it.
module _ (s : Interface) (setup : Setup) (bytes out : List ℕ) where
  pub fresh_performed : (call : Call) → call ≡ Call.Fresh setup → (answer : Answer) (new : Interface) →
      Promised s (Call.Fresh setup) [] [] answer new [] → Promised s call bytes out answer new out
  unfolding result_of refusal_of outcome_of fresh_outcome
  fresh_performed call e answer new p =
      rw e (record { answered = p.answered; handed_back = p.handed_back; written = same_left out (refusal_of s (Call.Fresh setup) bytes (length out)) })

  pub fresh_told : (call : Call) → call ≡ Call.Fresh setup →
      false ≡ leaves (refusal_of s call bytes (length out)) false (is_some (outcome_of s call bytes).frame)
  unfolding outcome_of fresh_outcome
  fresh_told call e = rw e (same_left false (refusal_of s (Call.Fresh setup) bytes (length out)))
