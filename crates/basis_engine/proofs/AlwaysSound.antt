-- Every call on a sound state leaves a sound state. So from an accepted fresh every state is sound, and no call of a history is
-- refused with 1.
use Prim.Native.Nat.{ℕ, zero, suc, ◌+◌, ◌≤◌, ◌<◌}
use mathlib.Core.Path.{◌≡◌, refl, sym, ◌∙◌, subst}
use mathlib.Core.Bool.{Bool, true, false, not, or-true, true≢false, false≢true}
use mathlib.Core.List.{List, [], ◌∷◌}
use Rattle.std.specs.Prelude.{Option, None, Some}
use native.Mathlib.Omega.{arith}
use lib.Dec.{leb, ltb, eqb}
use lib.ListN.{length, set}
use lib.Seq.{set_out}
use borrow.Author.Tests.{leb-true, le-leb, ltb-true, ltb-false, eq-eqb, eqb-false, not-false}
use Rattle.basis.specs.Times.{last_time}
use Rattle.basis.specs.Answers.{Answer, leaves, answer_report}
use Rattle.basis.specs.Frame.{frame_of}
use Rattle.basis.specs.declared.Frame.{Frame}
use Rattle.basis.specs.declared.Ipv4Address.{Ipv4Address}
use Rattle.basis.specs.declared.Setup.{Setup}
use Rattle.basis.specs.declared.Time.{Time}
use Rattle.basis.specs.declared.Stage.{Stage}
use Rattle.basis.specs.declared.Stage.TheVariants.{Free, Probing, Announced, Settled}
use Rattle.basis.specs.declared.Record.{Record}
use Rattle.basis.specs.declared.Interface.{Interface}
use Rattle.basis.specs.declared.Resolution.{Resolution}
use Rattle.basis.specs.declared.Resolution.TheVariants.{Lose, Defend, Keep}
use Rattle.basis.specs.declared.Call.{Call}
use Rattle.std.proofs.lemmas.Bool.{and_parts, cond_both}
use Rattle.basis_engine.specs.Timing.{wait, gap, after, Timing, timing_of}
use Rattle.basis_engine.specs.Slots.{with_stage, free_record, record_at, put_at, all, lowest}
use Rattle.basis_engine.specs.Interface.{is_allowed, is_policy, is_free, is_free_stage, is_held, holds, is_past, longest_delay, is_near, is_sound_stage, is_sound_record, holds_none_twice, is_sound, is_sound_setup, new_interface, changed}
use Rattle.basis_engine.specs.Conflicts.{is_conflict, count_up, seen_at, record_after, resolution}
use Rattle.basis_engine.specs.Calls.{new_claim, delay, serve, meet, fresh_outcome, ask_outcome, tick_outcome, packet_outcome, drop_outcome, stage_after}
use Rattle.basis_engine.specs.Deadlines.{due_slot}
use Rattle.basis_engine.specs.Refusals.{fresh_refusal}
use Rattle.basis_engine.specs.Machine.{refusal_of, outcome_of, result_of, Promised}
use Rattle.basis_engine.specs.Demand3.{Exchange, state_after, is_accepted, History}
use Rattle.basis_engine.proofs.Rows.{Fits, timing_fits}
use Rattle.basis_engine.proofs.SlotLaws.{any_fails, all_holds}
use Rattle.basis_engine.proofs.Links.{at_each}
use Rattle.basis_engine.proofs.Invariant.{same_address_lem, held_address, held_once, held_in_one}
use Rattle.basis_engine.proofs.ConflictLaws.{seen_free}
use Rattle.basis_engine.proofs.Demand3.{fresh_accepted}
use Rattle.basis_engine.proofs.Acceptance.{Admitted, Sound, sound, sound_once, sound_record, free_sound, past_later, passed, ask_accepted, tick_accepted, packet_accepted, drop_accepted}

-- What a sound state has, with no address held twice, makes it sound.
whole : (s : Interface) → Sound s → holds_none_twice s.records ≡ true → is_sound s ≡ true
unfolding is_sound
whole s steady once =
    rw (
      steady.chosen,
      le-leb s.latest.0 last_time steady.in_range,
      le-leb s.conflicts (timing_of s.setup).max_conflicts steady.counted,
      steady.asked_past,
      steady.each_sound,
      once,
    )

-- Another record in one slot, and a later time.
all_set : (test : Record → Bool) (records : List Record) (slot : ℕ) (new : Record) → test new ≡ true → all test records ≡ true →
    all test (set records slot new) ≡ true
unfolding all
all_set test [] slot new t e = refl
all_set test (r ∷ records) zero new t e = rw (t, (and_parts (test r) (all test records) e).1)
all_set test (r ∷ records) (suc slot) new t e =
    let w = and_parts (test r) (all test records) e in rw (w.0, all_set test records slot new t w.1)

near_later : (latest t deadline : Time) → latest.0 ≤ t.0 → is_near latest deadline ≡ true → is_near t deadline ≡ true
near_later latest t deadline h near =
    let le = leb-true deadline.0 (latest.0 + longest_delay) near in le-leb deadline.0 (t.0 + longest_delay) (omega arith)

free_record_lem : (row : Timing) → (t : Time) (r : Record) → is_free r ≡ true → is_sound_record row t r ≡ true
unfolding is_sound_record
free_record_lem row t r free = rw free

taken_record : (row : Timing) → (t : Time) (r : Record) → is_sound_stage row t r.stage ≡ true → is_allowed r.address ≡ true → is_policy r.policy ≡ true →
    is_sound_record row t r ≡ true
unfolding is_sound_record
taken_record row t r stage allowed known = rw (stage, allowed, known) (or-true (is_free r))

module _ (row : Timing) (latest t : Time) (h : latest.0 ≤ t.0) where
  stage_later : (stage : Stage) → is_sound_stage row latest stage ≡ true → is_sound_stage row t stage ≡ true
  unfolding is_sound_stage
  stage_later Free e = refl
  stage_later (Probing sent deadline) e =
      let w = and_parts (leb sent row.probe_num) (is_near latest deadline) e in
      rw (w.0, near_later latest t deadline h w.1)
  stage_later (Announced deadline conflict) e =
      let w = and_parts (is_near latest deadline) (is_past latest conflict) e in
      rw (near_later latest t deadline h w.0, past_later latest t conflict h w.1)
  stage_later (Settled conflict) e = past_later latest t conflict h e

  record_later : (r : Record) → is_sound_record row latest r ≡ true → is_sound_record row t r ≡ true
  record_later r e = go (is_free r) refl
    where
      go : (b : Bool) → is_free r ≡ b → is_sound_record row t r ≡ true
      go true free = free_record_lem row t r free
      go false held =
          let w = sound_record row latest r e held in
          taken_record row t r (stage_later r.stage w.sound_stage) w.allowed w.known

  all_later : (records : List Record) → all (is_sound_record row latest) records ≡ true → all (is_sound_record row t) records ≡ true
  unfolding all
  all_later [] e = refl
  all_later (r ∷ records) e =
      let w = and_parts (is_sound_record row latest r) (all (is_sound_record row latest) records) e in
      rw (record_later r w.0, all_later records w.1)

-- What each call leaves in its slot is sound.
due_near : (t : Time) (ms : ℕ) → ms ≤ longest_delay → is_near t (after t ms) ≡ true
due_near t ms h = le-leb (t.0 + ms) (t.0 + longest_delay) (omega arith)

delay_near : (row : Timing) → Fits row → (t : Time) (sent draw : ℕ) → is_near t (after t (delay row sent draw)) ≡ true
delay_near row fits t sent draw =
    due_near t (delay row sent draw)
    (cond_both (ltb sent row.probe_num) (gap row draw) row.announce_wait (λ ms. ms ≤ longest_delay)
    (λ e. fits.gap_near draw) (λ e. fits.announce_near))

sent_sound : (row : Timing) → Fits row → (t : Time) (draw : ℕ) (stage : Stage) → is_sound_stage row t stage ≡ true →
    is_sound_stage row t (stage_after row t draw stage) ≡ true
unfolding is_sound_stage stage_after
sent_sound row fits t draw Free e = refl
sent_sound row fits t draw (Probing sent deadline) e = go (ltb sent row.probe_num) refl
  where
    go : (b : Bool) → ltb sent row.probe_num ≡ b → is_sound_stage row t (stage_after row t draw (Probing sent deadline)) ≡ true
    go true more =
        rw (more, le-leb (suc sent) row.probe_num (ltb-true sent row.probe_num more)) (delay_near row fits t (suc sent) draw)
    go false more = rw (more, due_near t row.announce_interval fits.interval_near)
sent_sound row fits t draw (Announced deadline conflict) e = (and_parts (is_near t deadline) (is_past t conflict) e).1
sent_sound row fits t draw (Settled conflict) e = e

seen_sound : (row : Timing) → (t : Time) (stage : Stage) → is_sound_stage row t stage ≡ true → is_sound_stage row t (seen_at t stage) ≡ true
unfolding is_sound_stage
seen_sound row t Free e = refl
seen_sound row t (Probing sent deadline) e = e
seen_sound row t (Announced deadline conflict) e =
    rw ((and_parts (is_near t deadline) (is_past t conflict) e).0, le-leb t.0 t.0 (omega arith))
seen_sound row t (Settled conflict) e = le-leb t.0 t.0 (omega arith)

-- A held record whose stage alone changes, soundly, stays sound; a free one is sound whatever it holds.
restaged_sound : (row : Timing) → (t : Time) (r : Record) (stage : Stage) → is_sound_record row t r ≡ true → (is_sound_stage row t r.stage ≡ true → is_sound_stage row t stage ≡ true) →
    (is_free r ≡ true → is_free_stage stage ≡ true) → is_sound_record row t (with_stage r stage) ≡ true
restaged_sound row t r stage e changes stays = go (is_free r) refl
  where
    go : (b : Bool) → is_free r ≡ b → is_sound_record row t (with_stage r stage) ≡ true
    go true free = free_record_lem row t (with_stage r stage) (stays free)
    go false held =
        let w = sound_record row t r e held in
        taken_record row t (with_stage r stage) (changes w.sound_stage) w.allowed w.known

sent_free : (row : Timing) → (t : Time) (draw : ℕ) (stage : Stage) → is_free_stage stage ≡ true → is_free_stage (stage_after row t draw stage) ≡ true
unfolding stage_after
sent_free row t draw Free e = refl
sent_free row t draw (Probing sent deadline) e = absurd (false≢true e)
sent_free row t draw (Announced deadline conflict) e = absurd (false≢true e)
sent_free row t draw (Settled conflict) e = absurd (false≢true e)

counted_up : (row : Timing) → (count : ℕ) → count ≤ row.max_conflicts → count_up row count ≤ row.max_conflicts
counted_up row count few =
    cond_both (eqb count row.max_conflicts) count (suc count) (λ n. n ≤ row.max_conflicts) (λ e. few)
    (λ e. let less = eqb-false count row.max_conflicts e in omega arith)

module _ (s : Interface) (t : Time) (admission : Admitted s t) where
  records_later : all (is_sound_record (timing_of s.setup) t) s.records ≡ true
  records_later = all_later (timing_of s.setup) s.latest t admission.not_before s.records (sound s admission.sound).each_sound

  record_sound : (slot : ℕ) → is_sound_record (timing_of s.setup) t (record_at s.records slot) ≡ true
  record_sound slot = all_holds (is_sound_record (timing_of s.setup) t) s.records slot (free_sound (timing_of s.setup) t) records_later

  -- The state after an accepted call, with these records.
  steady_with : (asked : Option Time) (count : ℕ) (records : List Record) → count ≤ (timing_of s.setup).max_conflicts → is_past t asked ≡ true → all (is_sound_record (timing_of s.setup) t) records ≡ true →
      Sound (changed s t asked count records)
  steady_with asked count records few past each =
      record { chosen = (sound s admission.sound).chosen; in_range = admission.in_range; counted = few; asked_past = past; each_sound = each }

  few_conflicts : s.conflicts ≤ (timing_of s.setup).max_conflicts
  few_conflicts = (sound s admission.sound).counted

  asked_past_lem : is_past t s.asked ≡ true
  asked_past_lem = past_later s.latest t s.asked admission.not_before (sound s admission.sound).asked_past

  steady_set : (count slot : ℕ) (new : Record) → count ≤ (timing_of s.setup).max_conflicts → is_sound_record (timing_of s.setup) t new ≡ true →
      Sound (changed s t s.asked count (set s.records slot new))
  steady_set count slot new few e =
      steady_with s.asked count (set s.records slot new) few asked_past_lem (all_set (is_sound_record (timing_of s.setup) t) s.records slot new e records_later)

  steady_same : Sound (changed s t s.asked s.conflicts s.records)
  steady_same = steady_with s.asked s.conflicts s.records few_conflicts asked_past_lem records_later

  tick_steady : (draw : ℕ) (o : Option ℕ) → Sound (serve s t draw o).state
  tick_steady draw None = steady_same
  tick_steady draw (Some slot) =
      let r = record_at s.records slot in
      steady_set s.conflicts slot (with_stage r (stage_after (timing_of s.setup) t draw r.stage)) few_conflicts
      (restaged_sound (timing_of s.setup) t r (stage_after (timing_of s.setup) t draw r.stage) (record_sound slot) (sent_sound (timing_of s.setup) (timing_fits s.setup) t draw r.stage) (sent_free (timing_of s.setup) t draw r.stage))

  after_sound : (chosen : Resolution) (r : Record) → is_sound_record (timing_of s.setup) t r ≡ true → is_sound_record (timing_of s.setup) t (record_after chosen t r) ≡ true
  after_sound Lose r e = free_sound (timing_of s.setup) t
  after_sound Defend r e = restaged_sound (timing_of s.setup) t r (seen_at t r.stage) e (seen_sound (timing_of s.setup) t r.stage) (λ free. seen_free t r.stage ∙ free)
  after_sound Keep r e = restaged_sound (timing_of s.setup) t r (seen_at t r.stage) e (seen_sound (timing_of s.setup) t r.stage) (λ free. seen_free t r.stage ∙ free)

  packet_steady : (f : Frame) (o : Option ℕ) → Sound (meet s t f o).state
  packet_steady f None = steady_same
  packet_steady f (Some slot) =
      let r = record_at s.records slot in
      steady_set (count_up (timing_of s.setup) s.conflicts) slot (record_after (resolution (timing_of s.setup) t r) t r) (counted_up (timing_of s.setup) s.conflicts few_conflicts) (after_sound (resolution (timing_of s.setup) t r) r (record_sound slot))

  ask_steady : (address : Ipv4Address) (policy draw : ℕ) (o : Option ℕ) → is_allowed address ≡ true → is_policy policy ≡ true →
      all (is_sound_record (timing_of s.setup) t) (put_at s.records o (new_claim (timing_of s.setup) t address policy draw)) ≡ true
  unfolding is_sound_stage
  ask_steady address policy draw None allowed known = records_later
  ask_steady address policy draw (Some slot) allowed known =
      all_set (is_sound_record (timing_of s.setup) t) s.records slot (new_claim (timing_of s.setup) t address policy draw)
      (taken_record (timing_of s.setup) t (new_claim (timing_of s.setup) t address policy draw)
      (rw (le-leb 0 (timing_of s.setup).probe_num (omega arith)) (due_near t (wait (timing_of s.setup) draw) ((timing_fits s.setup).wait_near draw))) allowed known)
      records_later

fresh_steady : (setup : Setup) → fresh_refusal setup ≡ None → Sound (new_interface setup)
unfolding fresh_refusal all is_sound_record
fresh_steady setup e =
    record {
      chosen = not-false (is_sound_setup setup) (passed 2 (not (is_sound_setup setup)) None e).0;
      in_range = omega arith;
      counted = omega arith;
      asked_past = refl;
      each_sound = refl;
    }

call_steady : (s : Interface) (call : Call) (bytes : List ℕ) (room : ℕ) → refusal_of s call bytes room ≡ None → Sound (outcome_of s call bytes).state
unfolding refusal_of outcome_of fresh_outcome ask_outcome tick_outcome packet_outcome drop_outcome
call_steady s (Call.Fresh setup) bytes room e = fresh_steady setup e
call_steady s (Call.Ask t address policy draw) bytes room e =
    let w = ask_accepted s t address policy draw e in
    let o = lowest is_free s.records in
    steady_with s t w.admission (Some t) s.conflicts
    (put_at s.records o (new_claim (timing_of s.setup) t address policy draw)) (few_conflicts s t w.admission)
    (le-leb t.0 t.0 (omega arith)) (ask_steady s t w.admission address policy draw o w.allowed w.known)
call_steady s (Call.Tick t draw) bytes room e = tick_steady s t (tick_accepted s t draw room e) draw (due_slot t s.records)
call_steady s (Call.Packet t) bytes room e =
    packet_steady s t (packet_accepted s t bytes room e) (frame_of bytes) (lowest (is_conflict s.setup (frame_of bytes)) s.records)
call_steady s (Call.Drop t slot) bytes room e =
    let admission = (drop_accepted s t slot e).0 in
    steady_set s t admission s.conflicts slot free_record (few_conflicts s t admission) (free_sound (timing_of s.setup) t)

-- No address is held twice after one slot gets another record, if where that holds an address no other slot does.
module _ (records : List Record) (once : holds_none_twice records ≡ true) (slot : ℕ) where
  set_once : (new : Record) →
      ((address : Ipv4Address) → holds address new ≡ true → (other : ℕ) → holds address (record_at records other) ≡ true → other ≡ slot) →
      holds_none_twice (set records slot new) ≡ true
  set_once new only = go (ltb slot (length records)) refl
    where
      in_one : slot < length records → (address : Ipv4Address) → (b : Bool) → holds address new ≡ b → (one other : ℕ) →
          holds address (record_at (set records slot new) one) ≡ true → holds address (record_at (set records slot new) other) ≡ true → one ≡ other
      in_one room address true e one other h k =
          let here = at_each records slot new room (λ n r. holds address r ≡ true → n ≡ slot) (λ f. refl) (λ n apart f. only address e n f) in
          here one h ∙ sym (here other k)
      in_one room address false e one other h k =
          let before = at_each records slot new room (λ n r. holds address r ≡ true → holds address (record_at records n) ≡ true)
          (λ f. absurd (false≢true (sym e ∙ f))) (λ n apart f. f) in
          held_in_one records address one other once (before one h) (before other k)

      go : (b : Bool) → ltb slot (length records) ≡ b → holds_none_twice (set records slot new) ≡ true
      go true e = held_once (set records slot new) (λ address. in_one (ltb-true slot (length records) e) address (holds address new) refl)
      go false e = rw (set_out records slot new (ltb-false slot (length records) e)) once

  -- A slot that is freed, and one whose stage alone changes.
  freed_once : holds_none_twice (set records slot free_record) ≡ true
  freed_once = set_once free_record (λ address e. absurd (false≢true e))

  restaged_once : (stage : Stage) → (is_free (record_at records slot) ≡ true → is_free_stage stage ≡ true) →
      holds_none_twice (set records slot (with_stage (record_at records slot) stage)) ≡ true
  restaged_once stage stays = set_once (with_stage r stage) (λ address e other h. held_in_one records address other slot once h (still address e (is_free r) refl))
    where
      r : Record
      r = record_at records slot

      still : (address : Ipv4Address) → holds address (with_stage r stage) ≡ true → (b : Bool) → is_free r ≡ b → holds address r ≡ true
      still address e true free =
          absurd (true≢false (sym (stays free) ∙ (held_address address (with_stage r stage) e).0))
      still address e false held = rw held (eq-eqb r.address.0 address.0 (held_address address (with_stage r stage) e).1)

-- An accepted call leaves no address in two slots.
module _ (s : Interface) (once : holds_none_twice s.records ≡ true) (t : Time) where
  tick_once : (draw : ℕ) (o : Option ℕ) → holds_none_twice (serve s t draw o).state.records ≡ true
  tick_once draw None = once
  tick_once draw (Some slot) =
      let stage = (record_at s.records slot).stage in
      restaged_once s.records once slot (stage_after (timing_of s.setup) t draw stage) (sent_free (timing_of s.setup) t draw stage)

  packet_once : (f : Frame) (o : Option ℕ) → holds_none_twice (meet s t f o).state.records ≡ true
  packet_once f None = once
  packet_once f (Some slot) = by (resolution (timing_of s.setup) t r)
    where
      r : Record
      r = record_at s.records slot

      by : (chosen : Resolution) → holds_none_twice (set s.records slot (record_after chosen t r)) ≡ true
      by Lose = freed_once s.records once slot
      by Defend = restaged_once s.records once slot (seen_at t r.stage) (λ free. seen_free t r.stage ∙ free)
      by Keep = restaged_once s.records once slot (seen_at t r.stage) (λ free. seen_free t r.stage ∙ free)

  ask_once : (address : Ipv4Address) (policy draw : ℕ) (o : Option ℕ) → is_held address s.records ≡ false →
      holds_none_twice (put_at s.records o (new_claim (timing_of s.setup) t address policy draw)) ≡ true
  ask_once address policy draw None free = once
  ask_once address policy draw (Some slot) free =
      set_once s.records once slot (new_claim (timing_of s.setup) t address policy draw)
      (λ other_address e other h.
      absurd (false≢true (sym (any_fails (holds address) s.records other refl free)
      ∙ subst (λ (a : Ipv4Address). holds a (record_at s.records other) ≡ true)
      (same_address_lem other_address address (sym (held_address other_address (new_claim (timing_of s.setup) t address policy draw) e).1)) h)))

call_once : (s : Interface) (call : Call) (bytes : List ℕ) (room : ℕ) → refusal_of s call bytes room ≡ None →
    holds_none_twice (outcome_of s call bytes).state.records ≡ true
unfolding refusal_of outcome_of fresh_outcome ask_outcome tick_outcome packet_outcome drop_outcome holds_none_twice
call_once s (Call.Fresh setup) bytes room e = refl
call_once s (Call.Ask t address policy draw) bytes room e =
    let w = ask_accepted s t address policy draw e in
    ask_once s (sound_once s w.admission.sound) t address policy draw (lowest is_free s.records) w.not_held
call_once s (Call.Tick t draw) bytes room e =
    tick_once s (sound_once s (tick_accepted s t draw room e).sound) t draw (due_slot t s.records)
call_once s (Call.Packet t) bytes room e =
    packet_once s (sound_once s (packet_accepted s t bytes room e).sound) t (frame_of bytes)
    (lowest (is_conflict s.setup (frame_of bytes)) s.records)
call_once s (Call.Drop t slot) bytes room e = freed_once s.records (sound_once s (drop_accepted s t slot e).0.sound) slot

-- Every accepted call leaves a sound state; and any call on a sound state does.
accepted_sound : (s : Interface) (call : Call) (bytes : List ℕ) (room : ℕ) → refusal_of s call bytes room ≡ None →
    is_sound (outcome_of s call bytes).state ≡ true
accepted_sound s call bytes room e = whole (outcome_of s call bytes).state (call_steady s call bytes room e) (call_once s call bytes room e)

pub stays_sound : (s : Interface) (call : Call) (bytes lent : List ℕ) → is_sound s ≡ true → is_sound (result_of s call bytes lent).state ≡ true
unfolding result_of
stays_sound s call bytes lent sound_before = go (refusal_of s call bytes (length lent)) refl
  where
    go : (refusal : Option ℕ) → refusal_of s call bytes (length lent) ≡ refusal → is_sound (leaves refusal s (outcome_of s call bytes).state) ≡ true
    go None e = accepted_sound s call bytes (length lent) e
    go (Some n) e = sound_before

history_sound : (start : Interface) → is_sound start ≡ true → (exchanges : List Exchange) → History start exchanges → is_sound (state_after start exchanges) ≡ true
unfolding History
history_sound start begun [] h = begun
history_sound start begun (exchange ∷ earlier) h =
    subst (λ (s : Interface). is_sound s ≡ true) (sym h.0.handed_back)
    (stays_sound (state_after start earlier) exchange.call exchange.bytes exchange.lent (history_sound start begun earlier h.2))

pub always_sound : (setup : Setup) (before start : Interface) (bytes lent out : List ℕ) (answer : Answer) →
    Promised before (Call.Fresh setup) bytes lent answer start out →
    is_accepted (answer_report answer) ≡ true → (exchanges : List Exchange) → History start exchanges → is_sound (state_after start exchanges) ≡ true
unfolding refusal_of outcome_of fresh_outcome
always_sound setup before start bytes lent out answer promised taken exchanges history =
    let facts = fresh_accepted setup before start bytes lent out answer promised taken in
    let begun : is_sound start ≡ true = rw facts.1 (accepted_sound before (Call.Fresh setup) bytes (length lent) facts.0) in
    history_sound start begun exchanges history
