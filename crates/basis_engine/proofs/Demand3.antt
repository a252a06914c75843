-- Demand 3 holds of every history.
use Prim.Native.Nat.{ℕ}
use mathlib.Core.Path.{◌≡◌, refl, sym, ap, ◌∙◌}
use mathlib.Core.Bool.{Bool, true, false, cond, ◌&&◌, and-true, true≢false, false≢true}
use mathlib.Core.List.{List, [], ◌∷◌, ◌++◌, map}
use Rattle.std.specs.Prelude.{Option, None, Some}
use mathlib.Core.Logic.{inl, inr, ◌↔◌}
use lib.Dec.{eqb}
use lib.ListN.{length}
use Rattle.basis.specs.Answers.{Answer, Report, refused, accepted, Accepted, answer_report}
use Rattle.basis.specs.declared.Ipv4Address.{Ipv4Address}
use Rattle.basis.specs.declared.Setup.{Setup}
use Rattle.basis.specs.declared.Time.{Time}
use Rattle.basis.specs.declared.Stage.{Stage}
use Rattle.basis.specs.declared.Stage.TheVariants.{Free, Probing, Announced, Settled}
use Rattle.basis.specs.declared.Record.{Record}
use Rattle.basis.specs.declared.Interface.{Interface}
use Rattle.basis.specs.declared.Call.{Call}
use Rattle.std.proofs.lemmas.Bool.{and_parts}
use Rattle.basis_engine.specs.Timing.{Timing, timing_of}
use Rattle.basis_engine.specs.Slots.{record_at, any}
use Rattle.basis_engine.specs.Interface.{holds, is_usable_stage, new_interface}
use Rattle.basis_engine.specs.Calls.{fresh_outcome}
use Rattle.basis_engine.specs.Refusals.{fresh_refusal}
use Rattle.basis_engine.specs.Machine.{is_fresh, Result, refusal_of, outcome_of, result_as, result_of, Promised}
use Rattle.basis_engine.specs.Claims.{Event, Mark, Claim, is_in_use, claims_by, claims_of, latest_on, asks_by, asks_after_tenth, conflict_count, mark, an_announcement, a_defence, times_of, sign_number, is_any}
use Rattle.basis_engine.specs.Demand3.{Exchange, state_after, is_accepted, History, event_of, events, state_left, plain_machine, result_in, is_usable_in, is_usable, Each, WentThrough, LatestWentThrough, SendsFew, DefendsSeldom, accepted_only, CountForNothing, Theorem, invocation_in}
use Rattle.basis_engine.proofs.Rows.{timing_fits}
use Rattle.basis_engine.proofs.SlotLaws.{any_fails, any_holds, any_slot}
use Rattle.basis_engine.proofs.AskCase.{ask_linked}
use Rattle.basis_engine.proofs.DropCase.{drop_linked}
use Rattle.basis_engine.proofs.TickCase.{tick_linked}
use Rattle.basis_engine.proofs.PacketCase.{packet_linked}
use Rattle.basis_engine.proofs.Windows.{spaced_few}
use Rattle.basis_engine.proofs.ClaimLaws.{on, first, latest_first, on_each, each_map}
use Rattle.basis_engine.proofs.Stories.{last_delay, untouched, Bounded, InUse}
use Rattle.basis_engine.proofs.Links.{Story, Closed, Link}
use Rattle.basis_engine.proofs.Invariant.{Linked, LinkedAfter, linked_here, agrees_bounded}

-- (a): a result is known by its three parts, so each exchange is the plain machine's.
exchange_result : (before : Interface) (exchange : Exchange) →
    Promised before exchange.call exchange.bytes exchange.lent exchange.answer exchange.state exchange.out →
    result_in exchange ≡ result_of before exchange.call exchange.bytes exchange.lent
exchange_result before exchange promised i =
    record { report = promised.answered i; state = promised.handed_back i; out = promised.written i }

state_left_lem : (start : Interface) (exchanges : List Exchange) → state_left start (map result_in exchanges) ≡ state_after start exchanges
state_left_lem start [] = refl
state_left_lem start (exchange ∷ earlier) = refl

as_the_machine_lem : (start : Interface) (exchanges : List Exchange) → History start exchanges →
    map result_in exchanges ≡ plain_machine start (map invocation_in exchanges)
unfolding History plain_machine
as_the_machine_lem start [] h = refl
as_the_machine_lem start (exchange ∷ earlier) h =
    rw (← as_the_machine_lem start earlier h.2, state_left_lem start earlier)
    (ap {B = List Result} (λ result. result ∷ map result_in earlier) (exchange_result (state_after start earlier) exchange h.0))

-- Every accepted call but fresh keeps the link.
call_linked : (setup : Setup) (s : Interface) (claims : List Claim) (asks : List ℕ) → Linked setup s claims asks →
    (call : Call) (bytes lent : List ℕ) → is_fresh call ≡ false → refusal_of s call bytes (length lent) ≡ None →
    LinkedAfter setup claims asks call bytes lent (outcome_of s call bytes)
unfolding refusal_of outcome_of
call_linked setup s claims asks linked (Call.Fresh other) bytes lent old e = absurd (true≢false old)
call_linked setup s claims asks linked (Call.Ask time address policy draw) bytes lent old e =
    ask_linked setup s claims asks linked time address policy draw bytes lent e
call_linked setup s claims asks linked (Call.Tick time draw) bytes lent old e = tick_linked setup s claims asks linked time draw bytes lent e
call_linked setup s claims asks linked (Call.Packet time) bytes lent old e = packet_linked setup s claims asks linked time bytes lent e
call_linked setup s claims asks linked (Call.Drop time slot) bytes lent old e = drop_linked setup s claims asks linked time slot bytes lent e

module _ (setup : Setup) (before : Interface) (claims : List Claim) (asks : List ℕ) (linked : Linked setup before claims asks)
    (call : Call) (bytes lent : List ℕ) where
  -- An exchange with this refusal, or none.
  exchange_by : (refusal : Option ℕ) → refusal_of before call bytes (length lent) ≡ refusal → (report : Report Accepted) (state : Interface) (out : List ℕ) →
      report ≡ (result_as refusal before lent (outcome_of before call bytes)).report →
      state ≡ (result_as refusal before lent (outcome_of before call bytes)).state →
      out ≡ (result_as refusal before lent (outcome_of before call bytes)).out →
      (is_fresh call && is_accepted report) ≡ false →
      Linked setup state (claims_by setup (record { call = call; bytes = bytes; report = report; out = out }) report claims)
      (asks_by (timing_of setup) call report claims asks)
  exchange_by (Some n) e report state out answered kept written old = rw (answered, kept) linked
  exchange_by None e report state out answered kept written old =
      rw (answered, kept, written)
      (call_linked setup before claims asks linked call bytes lent (sym (and-true (is_fresh call)) ∙ rw answered at old) e)

  exchange_linked : (answer : Answer) (state : Interface) (out : List ℕ) → Promised before call bytes lent answer state out →
      (is_fresh call && is_accepted (answer_report answer)) ≡ false →
      Linked setup state
      (claims_by setup (record { call = call; bytes = bytes; report = answer_report answer; out = out }) (answer_report answer) claims)
      (asks_by (timing_of setup) call (answer_report answer) claims asks)
  unfolding result_of
  exchange_linked answer state out promised old =
      exchange_by (refusal_of before call bytes (length lent)) refl (answer_report answer) state out
      promised.answered promised.handed_back promised.written old

pub history_linked : (setup : Setup) (start : Interface) → Linked setup start [] [] → (exchanges : List Exchange) → History start exchanges →
    Linked setup (state_after start exchanges) (claims_of setup (events exchanges)) (asks_after_tenth setup (events exchanges))
unfolding History claims_of asks_after_tenth
history_linked setup start begun [] h = begun
history_linked setup start begun (exchange ∷ earlier) h =
    exchange_linked setup (state_after start earlier) (claims_of setup (events earlier)) (asks_after_tenth setup (events earlier))
    (history_linked setup start begun earlier h.2) exchange.call exchange.bytes exchange.lent exchange.answer exchange.state exchange.out h.0 h.1

-- (b): the latest claim on a usable address went through, and the address of a latest claim that went through is usable.
in_use_through : (row : Timing) (policy : ℕ) (conflict : Option Time) (sent : ℕ) (c : Claim) → c.policy ≡ policy → InUse row policy conflict sent c.marks →
    WentThrough row c
in_use_through row policy conflict sent c same w =
    record {
      since = w.since;
      announced_at = w.announced_at;
      before = w.before;
      split = w.split;
      all_probes = w.through.number;
      probes_spaced = w.through.apart;
      announced_after = rw (last_delay row) at w.through.due;
      undisturbed = (untouched row policy w.before w.through.only).no_conflicts;
      not_given_up = rw same w.still_open;
    }

announced_in_use : (since before : List Mark) (t : Time) → is_in_use (since ++ (mark an_announcement t ∷ before)) ≡ true
unfolding times_of
announced_in_use [] before t = refl
announced_in_use (m ∷ since) before t = go (eqb (sign_number m.sign) (sign_number an_announcement)) (announced_in_use since before t)
  where
    go : (b : Bool) → is_in_use (since ++ (mark an_announcement t ∷ before)) ≡ true →
        is_any (cond b (m.time.0 ∷ times_of an_announcement (since ++ (mark an_announcement t ∷ before)))
        (times_of an_announcement (since ++ (mark an_announcement t ∷ before)))) ≡ true
    go true later = refl
    go false later = later

in_use : (row : Timing) (c : Claim) → WentThrough row c → is_in_use c.marks ≡ true
in_use row c w = rw w.split (announced_in_use w.since w.before w.announced_at)

module _ (row : Timing) (address : Ipv4Address) (records : List Record) where
  story_through : (policy : ℕ) (stage : Stage) (c : Claim) → is_usable_stage stage ≡ true → c.policy ≡ policy → Story row policy stage c.marks →
      WentThrough row c
  story_through policy Free c usable same story = absurd story
  story_through policy (Probing sent deadline) c usable same story = absurd (false≢true usable)
  story_through policy (Announced deadline conflict) c usable same story = in_use_through row policy conflict 1 c same story
  story_through policy (Settled conflict) c usable same story = in_use_through row policy conflict 2 c same story

  claimed_through : (claims : List Claim) → Link row address records claims → any (is_usable_in address) records ≡ true → LatestWentThrough row (first claims)
  claimed_through claims link e =
      let w = any_slot (is_usable_in address) records e in
      let both = and_parts (holds address (record_at records w.0)) (is_usable_stage (record_at records w.0).stage) w.1 in
      let h = linked_here row address records claims w.0 both.0 link in
      let here = h.0 in
      rw here.claimed
      (story_through (record_at records here.slot).policy (record_at records here.slot).stage here.latest
      (rw h.1 both.1) here.agrees.same_policy here.agrees.story)

  story_usable : (policy : ℕ) (stage : Stage) (c : Claim) → WentThrough row c → Story row policy stage c.marks → is_usable_stage stage ≡ true
  story_usable policy Free c through story = absurd story
  story_usable policy (Probing sent deadline) c through story =
      absurd (false≢true (sym (untouched row policy c.marks story.only).not_in_use ∙ in_use row c through))
  story_usable policy (Announced deadline conflict) c through story = refl
  story_usable policy (Settled conflict) c through story = refl

  over_not_through : (claims : List Claim) → Each (Closed row) claims → LatestWentThrough row (first claims) → ⊥
  over_not_through [] all through = through
  over_not_through (c ∷ earlier) all through = false≢true (sym all.0.ended ∙ through.not_given_up)

  through_usable : (claims : List Claim) → Link row address records claims → LatestWentThrough row (first claims) → any (is_usable_in address) records ≡ true
  through_usable claims (inl away) through = absurd (over_not_through claims away.all_over through)
  through_usable claims (inr here) through =
      let r = record_at records here.slot in
      any_holds (is_usable_in address) records here.slot refl
      (rw (here.held, story_usable r.policy r.stage here.latest (rw here.claimed at through) here.agrees.story))

usable_exactly_if_lem : (setup : Setup) (s : Interface) (claims : List Claim) (asks : List ℕ) → Linked setup s claims asks → (address : Ipv4Address) →
    (is_usable address s ≡ true) ↔ LatestWentThrough (timing_of setup) (latest_on address claims)
usable_exactly_if_lem setup s claims asks linked address =
    rw (latest_first address claims) (
      claimed_through (timing_of setup) address s.records (on address claims) (linked.links address),
      through_usable (timing_of setup) address s.records (on address claims) (linked.links address),
    )

-- (c) and (d).
link_bounded : (setup : Setup) (address : Ipv4Address) (records : List Record) (claims : List Claim) → Link (timing_of setup) address records claims → Each (λ c. Bounded (timing_of setup) c.marks) claims
link_bounded setup address records claims (inl away) = each_map (Closed (timing_of setup)) (λ c. Bounded (timing_of setup) c.marks) (λ c closed. closed.bounded) claims away.all_over
link_bounded setup address records claims (inr here) =
    rw here.claimed (
      agrees_bounded (timing_of setup) here.slot (record_at records here.slot) here.latest here.agrees (timing_fits setup),
      each_map (Closed (timing_of setup)) (λ c. Bounded (timing_of setup) c.marks) (λ c closed. closed.bounded) here.older here.older_over,
    )

all_bounded : (setup : Setup) (s : Interface) (claims : List Claim) (asks : List ℕ) → Linked setup s claims asks →
    Each (λ c. Bounded (timing_of setup) c.marks) claims
all_bounded setup s claims asks linked =
    on_each (λ c. Bounded (timing_of setup) c.marks) claims (λ address. link_bounded setup address s.records (on address claims) (linked.links address))

-- (f): a refused exchange leaves the state and counts for nothing.
refused_state : (before : Interface) (exchange : Exchange) →
    Promised before exchange.call exchange.bytes exchange.lent exchange.answer exchange.state exchange.out →
    is_accepted (answer_report exchange.answer) ≡ false → exchange.state ≡ before
unfolding result_of
refused_state before exchange promised denied = go (refusal_of before exchange.call exchange.bytes (length exchange.lent)) promised.answered promised.handed_back
  where
    go : (refusal : Option ℕ) → answer_report exchange.answer ≡ (result_as refusal before exchange.lent (outcome_of before exchange.call exchange.bytes)).report →
        exchange.state ≡ (result_as refusal before exchange.lent (outcome_of before exchange.call exchange.bytes)).state → exchange.state ≡ before
    go None answered kept = absurd (true≢false (rw answered at denied))
    go (Some n) answered kept = kept

refused_claims : (setup : Setup) (e : Event) (report : Report Accepted) (claims : List Claim) → is_accepted report ≡ false →
    claims_by setup e report claims ≡ claims
refused_claims setup e (refused n) claims denied = refl
refused_claims setup e (accepted answer) claims denied = absurd (true≢false denied)

refused_asks : (row : Timing) (call : Call) (report : Report Accepted) (claims : List Claim) (asks : List ℕ) → is_accepted report ≡ false →
    asks_by row call report claims asks ≡ asks
refused_asks row call (refused n) claims asks denied = refl
refused_asks row call (accepted answer) claims asks denied = absurd (true≢false denied)

module _ (setup : Setup) (start : Interface) where
  accepted_counts : (exchange : Exchange) (earlier others : List Exchange) → CountForNothing setup start earlier others → History start (exchange ∷ earlier) →
      CountForNothing setup start (exchange ∷ earlier) (exchange ∷ others)
  unfolding History claims_of asks_after_tenth
  accepted_counts exchange earlier others w h =
      record {
        is_history = (rw w.same_state h.0, h.1, w.is_history);
        same_state = refl;
        same_claims = rw w.same_claims;
        same_asks = rw (w.same_claims, w.same_asks);
      }

  refused_counts : (exchange : Exchange) (earlier others : List Exchange) → CountForNothing setup start earlier others → History start (exchange ∷ earlier) →
      is_accepted (answer_report exchange.answer) ≡ false → CountForNothing setup start (exchange ∷ earlier) others
  unfolding History claims_of asks_after_tenth
  refused_counts exchange earlier others w h denied =
      record {
        is_history = w.is_history;
        same_state = w.same_state ∙ sym (refused_state (state_after start earlier) exchange h.0 denied);
        same_claims = w.same_claims ∙ sym (refused_claims setup (event_of exchange) (answer_report exchange.answer) (claims_of setup (events earlier)) denied);
        same_asks = w.same_asks
            ∙ sym (refused_asks (timing_of setup) exchange.call (answer_report exchange.answer) (claims_of setup (events earlier)) (asks_after_tenth setup (events earlier)) denied);
      }

  refused_count_for_nothing_lem : (exchanges : List Exchange) → History start exchanges → CountForNothing setup start exchanges (accepted_only exchanges)
  unfolding accepted_only History
  refused_count_for_nothing_lem [] h = record { is_history = tt; same_state = refl; same_claims = refl; same_asks = refl }
  refused_count_for_nothing_lem (exchange ∷ earlier) h =
      go (is_accepted (answer_report exchange.answer)) refl (refused_count_for_nothing_lem earlier h.2)
    where
      go : (b : Bool) → is_accepted (answer_report exchange.answer) ≡ b → CountForNothing setup start earlier (accepted_only earlier) →
          CountForNothing setup start (exchange ∷ earlier) (cond b (exchange ∷ accepted_only earlier) (accepted_only earlier))
      go true e w = accepted_counts exchange earlier (accepted_only earlier) w h
      go false e w = refused_counts exchange earlier (accepted_only earlier) w h e

-- An accepted fresh begins with no claim.
pub fresh_linked : (setup : Setup) → Linked setup (new_interface setup) [] []
unfolding on any conflict_count
fresh_linked setup =
    record {
      kept = refl;
      links = λ address. inl (record {
        nowhere = λ slot. any_fails (holds address) (new_interface setup).records slot refl refl;
        all_over = tt;
      });
      count = refl;
      asks_apart = tt;
      last_ask = tt;
    }

pub fresh_accepted : (setup : Setup) (before start : Interface) (bytes lent out : List ℕ) (answer : Answer) →
    Promised before (Call.Fresh setup) bytes lent answer start out →
    is_accepted (answer_report answer) ≡ true → (fresh_refusal setup ≡ None) × (start ≡ new_interface setup)
unfolding result_of refusal_of outcome_of fresh_outcome
fresh_accepted setup before start bytes lent out answer promised taken = go (fresh_refusal setup) refl promised.answered promised.handed_back
  where
    go : (refusal : Option ℕ) → fresh_refusal setup ≡ refusal → answer_report answer ≡ (result_as refusal before lent (fresh_outcome setup)).report →
        start ≡ (result_as refusal before lent (fresh_outcome setup)).state → (fresh_refusal setup ≡ None) × (start ≡ new_interface setup)
    go None e answered kept = (e, kept)
    go (Some n) e answered kept = absurd (false≢true (rw answered at taken))

-- The one claim.
pub demand3 : Theorem
demand3 setup before start bytes lent out answer promised taken exchanges history =
    let same = (fresh_accepted setup before start bytes lent out answer promised taken).1 in
    let begun : Linked setup start [] [] = rw same (fresh_linked setup) in
    let linked = history_linked setup start begun exchanges history in
    let claims = claims_of setup (events exchanges) in
    let asks = asks_after_tenth setup (events exchanges) in
    let bounded = all_bounded setup (state_after start exchanges) claims asks linked in
    record {
      begun_as_the_machine = same;
      as_the_machine = rw (← same) (as_the_machine_lem start exchanges history);
      usable_exactly_if = usable_exactly_if_lem setup (state_after start exchanges) claims asks linked;
      few_frames = each_map (λ c. Bounded (timing_of setup) c.marks) (SendsFew (timing_of setup)) (λ c b. (b.few_probes, b.few_announcements)) claims bounded;
      few_defences = each_map (λ c. Bounded (timing_of setup) c.marks) (DefendsSeldom (timing_of setup))
          (λ c b. spaced_few (timing_of setup).defend_interval (timing_fits setup).defences_apart (times_of a_defence c.marks) b.defences_apart) claims bounded;
      few_asks = spaced_few (timing_of setup).rate_limit_interval (timing_fits setup).asks_apart asks linked.asks_apart;
      refused_count_for_nothing = refused_count_for_nothing_lem setup start exchanges history;
    }
