-- An accepted packet keeps the link: it is a conflict with the claim of one slot, or with none.
use Prim.Native.Nat.{ℕ, suc, ◌+◌, ◌<◌, ◌≤◌, min}
use mathlib.Core.Path.{◌≡◌, refl, sym, ap, ◌∙◌}
use mathlib.Core.Bool.{Bool, true, false, cond, ◌&&◌, true≢false, false≢true}
use mathlib.Core.List.{List, [], ◌∷◌, map}
use Rattle.std.specs.Prelude.{Option, None, Some}
use mathlib.Core.Logic.{inl, inr}
use native.Mathlib.Nat.{zero-add}
use native.Mathlib.Omega.{arith}
use lib.Dec.{eqb}
use lib.ListN.{length, set}
use borrow.Author.Tests.{eqb-true, eqb-false, eq-eqb}
use Rattle.basis.specs.Frame.{announcement, frame_of, frame_put}
use Rattle.basis.specs.declared.Ipv4Address.{Ipv4Address}
use Rattle.basis.specs.declared.Setup.{Setup}
use Rattle.basis.specs.declared.Time.{Time}
use Rattle.basis.specs.declared.Frame.{Frame}
use Rattle.basis.specs.declared.Stage.{Stage}
use Rattle.basis.specs.declared.Stage.TheVariants.{Free, Probing, Announced, Settled}
use Rattle.basis.specs.declared.Record.{Record}
use Rattle.basis.specs.declared.Interface.{Interface}
use Rattle.basis.specs.declared.Resolution.{Resolution}
use Rattle.basis.specs.declared.Resolution.TheVariants.{Lose, Defend, Keep}
use Rattle.basis.specs.declared.Call.TheVariants as Call
use Rattle.std.proofs.lemmas.Bool.{and_parts, false_from_ne_true}
use Rattle.basis_engine.specs.Slots.{record_at, free_record, with_stage, lowest}
use Rattle.basis_engine.specs.Interface.{is_free, holds, is_past, is_near, is_sound_stage, sender_of}
use Rattle.basis_engine.specs.Conflicts.{is_conflict, count_up, by_policy, resolution_at, resolution, seen_at}
use Rattle.basis_engine.specs.Calls.{resolve, meet, packet_outcome}
use Rattle.basis_engine.specs.Refusals.{packet_refusal}
use Rattle.basis_engine.specs.Claims.{Mark, Claim, is_open, is_on, is_open_after, is_conflict_with, struck, marked, marked_latest, conflict_count, claims_after, mark, a_defence, a_conflict, times_of}
use Rattle.basis_engine.specs.Demand3.{Each}
use Rattle.basis_engine.specs.Timing.{timing_of, Timing}
use Rattle.basis_engine.proofs.Rows.{timing_fits}
use Rattle.basis_engine.proofs.SlotLaws.{lowest_holds, none_fails}
use Rattle.basis_engine.proofs.Acceptance.{Admitted, past_later, packet_accepted, sound, sound_at, announcement_reads}
use Rattle.basis_engine.proofs.ClaimLaws.{on, on_each, each_map, on_marked, on_marked_other}
use Rattle.basis_engine.proofs.Stories.{untouched, Bounded, InUse, conflict_borne, defence_sent, bounded_conflicted, ended_before_use, ended_by_surrender, lost_surrenders, defended_bears, kept_bears}
use Rattle.basis_engine.proofs.Links.{Story, Agrees, Closed, Here, Link, link_elsewhere, link_goes_on, link_over, agrees_here}
use Rattle.basis_engine.proofs.Invariant.{LastAsk, agrees_open, Linked, LinkedAfter, last_ask_counts, by_address, holds_own, holds_no_other, held_address, linked_here, agrees_bounded, count_marked, linked_later}
use Rattle.basis_engine.proofs.ConflictLaws.{seen_free, agrees_conflict, conflict_held, one_concerned}
use Rattle.basis_engine.proofs.Changes.{on_changed, unconcerned_each, same_each, concerned_marked}

abbrev is_lose : Resolution → Bool
is_lose Lose = true
is_lose Defend = false
is_lose Keep = false

-- What each resolution to a conflict leaves of a claim.
module _ (row : Timing) (policy : ℕ) (latest t : Time) (later : latest.0 ≤ t.0) (marks : List Mark) where
  lost_story : (stage : Stage) → resolution_at row policy t stage ≡ Lose → Story row policy stage marks → is_open_after row policy (mark a_conflict t ∷ marks) ≡ false
  lost_story Free e story = absurd story
  lost_story (Probing sent deadline) e story = ended_before_use row policy t marks (untouched row policy marks story.only).not_in_use
  lost_story (Announced deadline conflict) e story = ended_by_surrender row policy t marks (lost_surrenders row policy conflict 1 t marks story e)
  lost_story (Settled conflict) e story = ended_by_surrender row policy t marks (lost_surrenders row policy conflict 2 t marks story e)

  kept_in_use : (conflict : Option Time) (sent : ℕ) → InUse row policy conflict sent marks → by_policy row policy t conflict ≡ Keep →
      is_past latest conflict ≡ true → InUse row policy (Some t) sent (mark a_conflict t ∷ marks)
  kept_in_use conflict sent w e past =
      conflict_borne row policy conflict sent t marks w (past_later latest t conflict later past) (kept_bears row policy conflict sent t marks w e)

  kept_story : (stage : Stage) → resolution_at row policy t stage ≡ Keep → is_sound_stage row latest stage ≡ true → Story row policy stage marks →
      Story row policy (seen_at t stage) (mark a_conflict t ∷ marks)
  unfolding is_sound_stage
  kept_story Free e sound story = absurd story
  kept_story (Probing sent deadline) e sound story = absurd (true≢false (ap is_lose e))
  kept_story (Announced deadline conflict) e sound story =
      kept_in_use conflict 1 story e (and_parts (is_near latest deadline) (is_past latest conflict) sound).1
  kept_story (Settled conflict) e sound story = kept_in_use conflict 2 story e sound

  defended_in_use : (conflict : Option Time) (sent : ℕ) → InUse row policy conflict sent marks → by_policy row policy t conflict ≡ Defend →
      is_past latest conflict ≡ true → InUse row policy (Some t) sent (mark a_defence t ∷ (mark a_conflict t ∷ marks))
  defended_in_use conflict sent w e past =
      let facts = defended_bears row policy conflict sent t marks w e in
      defence_sent row policy conflict sent t marks
      (conflict_borne row policy conflict sent t marks w (past_later latest t conflict later past) facts.0) w.behind facts.1

  defended_story : (stage : Stage) → resolution_at row policy t stage ≡ Defend → is_sound_stage row latest stage ≡ true → Story row policy stage marks →
      Story row policy (seen_at t stage) (mark a_defence t ∷ (mark a_conflict t ∷ marks))
  unfolding is_sound_stage
  defended_story Free e sound story = absurd story
  defended_story (Probing sent deadline) e sound story = absurd (true≢false (ap is_lose e))
  defended_story (Announced deadline conflict) e sound story =
      defended_in_use conflict 1 story e (and_parts (is_near latest deadline) (is_past latest conflict) sound).1
  defended_story (Settled conflict) e sound story = defended_in_use conflict 2 story e sound

-- The conflict count: one more for each claim that is hit.
module _ (setup : Setup) (t : Time) (f : Frame) where
  abbrev is_hit : Claim → Bool
  is_hit c = is_open (timing_of setup) c && is_conflict_with setup f c

  unfoldable hits : List Claim → ℕ
  hits [] = 0
  hits (c ∷ earlier) = cond (is_hit c) 1 0 + hits earlier

  count_struck : (claims : List Claim) → conflict_count (map (struck setup t f) claims) ≡ hits claims + conflict_count claims
  unfolding conflict_count times_of hits
  count_struck [] = refl
  count_struck (c ∷ earlier) = go (is_hit c) (count_struck earlier)
    where
      go : (b : Bool) → conflict_count (map (struck setup t f) earlier) ≡ hits earlier + conflict_count earlier →
          length (times_of a_conflict (cond b (marked (mark a_conflict t) c) c).marks) + conflict_count (map (struck setup t f) earlier)
          ≡ cond b 1 0 + hits earlier + (length (times_of a_conflict c.marks) + conflict_count earlier)
      go true later = omega arith
      go false later = omega arith

  -- Claims that are over are not hit, so all hits are among the claims on one address where the others have none.
  closed_unhit : (c : Claim) → Closed (timing_of setup) c → is_hit c ≡ false
  closed_unhit c closed = rw closed.ended

  unhit_none : (claims : List Claim) → Each (Closed (timing_of setup)) claims → hits claims ≡ 0
  unfolding hits
  unhit_none [] all = refl
  unhit_none (c ∷ earlier) all = rw (closed_unhit c all.0, unhit_none earlier all.1)

  hits_on : (address : Ipv4Address) (claims : List Claim) → Each (λ c. is_hit c ≡ true → is_on address c ≡ true) claims →
      hits claims ≡ hits (on address claims)
  unfolding hits on
  hits_on address [] all = refl
  hits_on address (c ∷ earlier) all = go (is_hit c) (is_on address c) refl refl (hits_on address earlier all.1)
    where
      go : (h o : Bool) → is_hit c ≡ h → is_on address c ≡ o → hits earlier ≡ hits (on address earlier) →
          cond h 1 0 + hits earlier ≡ hits (cond o (c ∷ on address earlier) (on address earlier))
      go true true h o later = rw (h, later)
      go true false h o later = absurd (false≢true (sym o ∙ all.0 h))
      go false true h o later = rw (h, later)
      go false false h o later = rw (later, zero-add (hits (on address earlier)))

count_up_lem : (row : Timing) (count conflicts : ℕ) → conflicts ≡ min count row.max_conflicts → count_up row conflicts ≡ min (suc count) row.max_conflicts
count_up_lem row count conflicts e = go (eqb conflicts row.max_conflicts) refl
  where
    go : (b : Bool) → eqb conflicts row.max_conflicts ≡ b → cond b conflicts (suc conflicts) ≡ min (suc count) row.max_conflicts
    go true d = let ten = eqb-true conflicts row.max_conflicts d in omega arith
    go false d = let less = eqb-false conflicts row.max_conflicts d in omega arith

module _ (setup : Setup) (s : Interface) (claims : List Claim) (asks : List ℕ) (linked : Linked setup s claims asks)
    (t : Time) (bytes out : List ℕ) (admission : Admitted s t) where
  f : Frame
  f = frame_of bytes

  -- A record that agrees with a claim is in conflict where the claim is.
  agreed_conflict : (slot : ℕ) (c : Claim) → Agrees (timing_of setup) slot (record_at s.records slot) c →
      is_conflict_with setup f c ≡ is_conflict s.setup f (record_at s.records slot)
  agreed_conflict slot c agrees =
      agrees_conflict setup f slot (record_at s.records slot) c agrees
      ∙ ap (λ (own : Setup). is_conflict own f (record_at s.records slot)) (sym linked.kept)

  -- No conflict is found.
  module _ (found : lowest (is_conflict s.setup f) s.records ≡ None) where
    spared : (address : Ipv4Address) (here : Here (timing_of setup) address s.records (on address claims)) → is_conflict_with setup f here.latest ≡ false
    spared address here =
        agreed_conflict here.slot here.latest here.agrees
        ∙ none_fails (is_conflict s.setup f) 0 s.records here.slot refl found

    untouched_claims : map (struck setup t f) claims ≡ claims
    untouched_claims =
        same_each (timing_of setup) (is_conflict_with setup f) (mark a_conflict t) claims
        (on_each (λ c. struck setup t f c ≡ c) claims
        (λ address. unconcerned_each (timing_of setup) (is_conflict_with setup f) (mark a_conflict t) address s.records (on address claims)
        (linked.links address) (spared address)))

    packet_nothing : LinkedAfter setup claims asks (Call.Packet t) bytes out (meet s t f None)
    unfolding claims_after f
    packet_nothing =
        rw untouched_claims (linked_later setup s claims asks t linked)

  -- A conflict is found.
  module _ (slot : ℕ) (found : lowest (is_conflict s.setup f) s.records ≡ Some slot) where
    r : Record
    r = record_at s.records slot

    conflicting : is_conflict s.setup f r ≡ true
    unfolding r
    conflicting = (lowest_holds (is_conflict s.setup f) s.records slot found).0

    room : slot < length s.records
    room = (lowest_holds (is_conflict s.setup f) s.records slot found).1

    held : is_free r ≡ false
    held = conflict_held s.setup f r conflicting

    -- A claim that is hit is on this address.
    hit_here : (address : Ipv4Address) (here : Here (timing_of setup) address s.records (on address claims)) → is_conflict_with setup f here.latest ≡ true →
        here.latest.address.0 ≡ r.address.0
    unfolding r
    hit_here address here e =
        here.agrees.same_address
        ∙ ap (λ (n : ℕ). (record_at s.records n).address.0)
        (one_concerned s.setup f s here.slot slot admission.sound
        (sym (agreed_conflict here.slot here.latest here.agrees) ∙ e) conflicting)

    spared_other : (other : Ipv4Address) → (other.0 ≡ r.address.0 → ⊥) → (here : Here (timing_of setup) other s.records (on other claims)) →
        is_conflict_with setup f here.latest ≡ false
    spared_other other apart here =
        false_from_ne_true (is_conflict_with setup f here.latest)
        (λ e. apart (sym (held_address other (record_at s.records here.slot) here.held).1
        ∙ sym here.agrees.same_address ∙ hit_here other here e))

    on_other : (other : Ipv4Address) → (other.0 ≡ r.address.0 → ⊥) → on other (map (struck setup t f) claims) ≡ on other claims
    on_other other apart =
        on_changed (timing_of setup) (is_conflict_with setup f) (mark a_conflict t) other claims
        ∙ same_each (timing_of setup) (is_conflict_with setup f) (mark a_conflict t) (on other claims)
        (unconcerned_each (timing_of setup) (is_conflict_with setup f) (mark a_conflict t) other s.records (on other claims) (linked.links other) (spared_other other apart))

    links_other : (new : Record) → ((other : Ipv4Address) → (other.0 ≡ r.address.0 → ⊥) → holds other new ≡ false) →
        (other : Ipv4Address) → (other.0 ≡ r.address.0 → ⊥) →
        Link (timing_of setup) other (set s.records slot new) (on other (map (struck setup t f) claims))
    unfolding r
    links_other new not_new other apart =
        rw (on_other other apart)
        (link_elsewhere s.records slot new room (timing_of setup) other (on other claims) (holds_no_other other r apart) (not_new other apart) (linked.links other))

    -- All hits are on this address.
    hits_each : (address : Ipv4Address) → Each (λ c. is_hit setup t f c ≡ true → is_on r.address c ≡ true) (on address claims)
    hits_each address = go (linked.links address)
      where
        over : (c : Claim) → Closed (timing_of setup) c → is_hit setup t f c ≡ true → is_on r.address c ≡ true
        over c closed e = absurd (false≢true (sym (closed_unhit setup t f c closed) ∙ e))

        go : Link (timing_of setup) address s.records (on address claims) → Each (λ c. is_hit setup t f c ≡ true → is_on r.address c ≡ true) (on address claims)
        go (inl away) = each_map (Closed (timing_of setup)) (λ c. is_hit setup t f c ≡ true → is_on r.address c ≡ true) over (on address claims) away.all_over
        go (inr here) =
            rw here.claimed (
              λ e. eq-eqb here.latest.address.0 r.address.0
                  (hit_here address here (and_parts (is_open (timing_of setup) here.latest) (is_conflict_with setup f here.latest) e).1),
              each_map (Closed (timing_of setup)) (λ c. is_hit setup t f c ≡ true → is_on r.address c ≡ true) over here.older here.older_over,
            )

    module _ (here : Here (timing_of setup) r.address s.records (on r.address claims)) (mine : here.slot ≡ slot) where
      agreed : Agrees (timing_of setup) slot r here.latest
      unfolding r
      agreed = agrees_here (timing_of setup) r.address s.records (on r.address claims) slot here mine

      hit : is_conflict_with setup f here.latest ≡ true
      unfolding r
      hit = agreed_conflict slot here.latest agreed ∙ conflicting

      on_mine : on r.address (map (struck setup t f) claims) ≡ marked (mark a_conflict t) here.latest ∷ here.older
      on_mine =
          on_changed (timing_of setup) (is_conflict_with setup f) (mark a_conflict t) r.address claims
          ∙ concerned_marked (timing_of setup) (is_conflict_with setup f) (mark a_conflict t) r.address s.records (on r.address claims) here hit

      one_hit : hits setup t f claims ≡ 1
      unfolding hits
      one_hit =
          hits_on setup t f r.address claims (on_each (λ c. is_hit setup t f c ≡ true → is_on r.address c ≡ true) claims hits_each)
          ∙ rw (
            here.claimed,
            agrees_open (timing_of setup) slot r here.latest agreed,
            hit,
            unhit_none setup t f here.older here.older_over,
          )

      counted : conflict_count (map (struck setup t f) claims) ≡ suc (conflict_count claims)
      counted = let one = one_hit in let all = count_struck setup t f claims in omega arith

      count_after : count_up (timing_of setup) s.conflicts ≡ min (conflict_count (map (struck setup t f) claims)) (timing_of setup).max_conflicts
      count_after = rw counted (count_up_lem (timing_of setup) (conflict_count claims) s.conflicts linked.count)

      asks_after : LastAsk (timing_of setup) asks (conflict_count (map (struck setup t f) claims)) s.asked
      asks_after =
          rw counted (last_ask_counts (timing_of setup) asks s.asked (conflict_count claims) (suc (conflict_count claims)) (omega arith) linked.last_ask)

      sound_stage : is_sound_stage (timing_of setup) s.latest r.stage ≡ true
      unfolding r
      sound_stage = (sound_at s slot admission.sound held).sound_stage

      bounded : Bounded (timing_of setup) here.latest.marks
      bounded = agrees_bounded (timing_of setup) slot r here.latest agreed (timing_fits setup)

      lost : resolution_at (timing_of setup) r.policy t r.stage ≡ Lose → LinkedAfter setup claims asks (Call.Packet t) bytes out (resolve s t slot r Lose)
      unfolding claims_after f r
      lost e =
          record {
            kept = linked.kept;
            links = by_address (λ (a : Ipv4Address). Link (timing_of setup) a (set s.records slot free_record) (on a (map (struck setup t f) claims))) r.address
                (rw on_mine
                (inl (link_over s.records slot free_record room (timing_of setup) r.address (on r.address claims) here mine
                (marked (mark a_conflict t) here.latest) refl
                (record {
                  ended = rw agreed.same_policy
                      (lost_story (timing_of setup) r.policy s.latest t admission.not_before here.latest.marks r.stage e agreed.story);
                  bounded = bounded_conflicted (timing_of setup) t here.latest.marks bounded;
                }))))
                (links_other free_record (λ other apart. refl));
            count = count_after;
            asks_apart = linked.asks_apart;
            last_ask = asks_after;
          }

      -- The record that a defence or a kept conflict leaves.
      seen : Record
      seen = with_stage r (seen_at t r.stage)

      seen_taken : is_free seen ≡ false
      unfolding seen
      seen_taken = seen_free t r.stage ∙ held

      kept : resolution_at (timing_of setup) r.policy t r.stage ≡ Keep → LinkedAfter setup claims asks (Call.Packet t) bytes out (resolve s t slot r Keep)
      unfolding claims_after f r seen
      kept e =
          record {
            kept = linked.kept;
            links = by_address (λ (a : Ipv4Address). Link (timing_of setup) a (set s.records slot seen) (on a (map (struck setup t f) claims))) r.address
                (rw on_mine
                (inr (link_goes_on s.records slot seen room (timing_of setup) r.address (on r.address claims) here mine
                (marked (mark a_conflict t) here.latest) (holds_own seen seen_taken)
                (record {
                  same_address = agreed.same_address;
                  same_slot = agreed.same_slot;
                  same_policy = agreed.same_policy;
                  story = kept_story (timing_of setup) r.policy s.latest t admission.not_before here.latest.marks r.stage e sound_stage agreed.story;
                }))))
                (links_other seen (λ other apart. holds_no_other other seen apart));
            count = count_after;
            asks_apart = linked.asks_apart;
            last_ask = asks_after;
          }

      -- The frame of a defence reads back to the record's address.
      defends_here : (frame_of (frame_put (announcement (sender_of s.setup) r.address) out)).target.ip ≡ r.address
      unfolding announcement r
      defends_here =
          ap (λ (g : Frame). g.target.ip)
          (announcement_reads s.setup r.address (sound s admission.sound).chosen (sound_at s slot admission.sound held).allowed out)

      defence_conflicts : (marks : List Mark) → times_of a_conflict (mark a_defence t ∷ marks) ≡ times_of a_conflict marks
      unfolding times_of
      defence_conflicts marks = refl

      defended_claims : List Claim
      defended_claims = marked_latest r.address (mark a_defence t) (map (struck setup t f) claims)

      defended_count : conflict_count defended_claims ≡ conflict_count (map (struck setup t f) claims)
      unfolding defended_claims
      defended_count = count_marked r.address (mark a_defence t) defence_conflicts (map (struck setup t f) claims)

      defend_here : resolution_at (timing_of setup) r.policy t r.stage ≡ Defend → Link (timing_of setup) r.address (set s.records slot seen) (on r.address defended_claims)
      unfolding defended_claims seen r
      defend_here e =
          rw (on_marked r.address (mark a_defence t) (map (struck setup t f) claims), on_mine)
          (inr (link_goes_on s.records slot seen room (timing_of setup) r.address (on r.address claims) here mine
          (marked (mark a_defence t) (marked (mark a_conflict t) here.latest)) (holds_own seen seen_taken)
          (record {
            same_address = agreed.same_address;
            same_slot = agreed.same_slot;
            same_policy = agreed.same_policy;
            story = defended_story (timing_of setup) r.policy s.latest t admission.not_before here.latest.marks r.stage e sound_stage agreed.story;
          })))

      defend_elsewhere : (other : Ipv4Address) → (other.0 ≡ r.address.0 → ⊥) → Link (timing_of setup) other (set s.records slot seen) (on other defended_claims)
      unfolding defended_claims seen r
      defend_elsewhere other apart =
          rw (on_marked_other other r.address (λ e. apart (sym e)) (mark a_defence t) (map (struck setup t f) claims))
          (links_other seen (λ other apart. holds_no_other other seen apart) other apart)

      defended_linked : resolution_at (timing_of setup) r.policy t r.stage ≡ Defend →
          LinkedAfter setup claims asks (Call.Packet t) bytes out (resolve s t slot r Defend)
      unfolding claims_after f r seen defended_claims
      defended_linked e =
          rw defends_here
          (record {
            kept = linked.kept;
            links = by_address (λ (a : Ipv4Address). Link (timing_of setup) a (set s.records slot seen) (on a defended_claims)) r.address
                (defend_here e) defend_elsewhere;
            count = rw defended_count count_after;
            asks_apart = linked.asks_apart;
            last_ask = rw defended_count asks_after;
          })

      packet_conflict : (chosen : Resolution) → resolution_at (timing_of setup) r.policy t r.stage ≡ chosen →
          LinkedAfter setup claims asks (Call.Packet t) bytes out (resolve s t slot r chosen)
      packet_conflict Lose e = lost e
      packet_conflict Defend e = defended_linked e
      packet_conflict Keep e = kept e

pub packet_linked : (setup : Setup) (s : Interface) (claims : List Claim) (asks : List ℕ) → Linked setup s claims asks →
    (time : Time) (bytes out : List ℕ) → packet_refusal s time bytes (length out) ≡ None →
    LinkedAfter setup claims asks (Call.Packet time) bytes out (packet_outcome s time bytes)
unfolding packet_outcome resolution f r
packet_linked setup s claims asks linked t bytes out e = go (lowest (is_conflict s.setup (frame_of bytes)) s.records) refl
  where
    admission : Admitted s t
    admission = packet_accepted s t bytes (length out) e

    go : (o : Option ℕ) → lowest (is_conflict s.setup (frame_of bytes)) s.records ≡ o →
        LinkedAfter setup claims asks (Call.Packet t) bytes out (meet s t (frame_of bytes) o)
    go None found = packet_nothing setup s claims asks linked t bytes out admission found
    go (Some slot) found =
        let q = record_at s.records slot in
        let taken = held setup s claims asks linked t bytes out admission slot found in
        let w = linked_here (timing_of setup) q.address s.records (on q.address claims) slot (holds_own q taken) (linked.links q.address) in
        packet_conflict setup s claims asks linked t bytes out admission slot found w.0 w.1 (resolution_at (timing_of setup) q.policy t q.stage) refl
