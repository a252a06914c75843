-- An accepted tick keeps the link: a frame of the due slot's claim is sent, or nothing is.
use Prim.Native.Nat.{ℕ, ◌≤◌}
use mathlib.Core.Path.{◌≡◌, refl, sym, subst}
use mathlib.Core.Bool.{Bool, true, false}
use mathlib.Core.List.{List, ◌∷◌}
use Rattle.std.specs.Prelude.{Option, None, Some}
use mathlib.Core.Logic.{inr}
use native.Mathlib.Omega.{arith}
use lib.Dec.{ltb, eqb}
use lib.ListN.{length, set}
use borrow.Author.Tests.{ltb-true, ltb-false, ne_eqb}
use Rattle.std.proofs.lemmas.Bool.{cond_both}
use Rattle.basis.specs.Frame.{probe, announcement, frame_of, frame_put}
use Rattle.basis.specs.declared.Ipv4Address.{Ipv4Address}
use Rattle.basis.specs.declared.Setup.{Setup}
use Rattle.basis.specs.declared.Time.{Time}
use Rattle.basis.specs.declared.Frame.{Frame}
use Rattle.basis.specs.declared.Kind.TheVariants.{Announce}
use Rattle.basis.specs.declared.Stage.{Stage}
use Rattle.basis.specs.declared.Stage.TheVariants.{Free, Probing, Announced, Settled}
use Rattle.basis.specs.declared.Record.{Record}
use Rattle.basis.specs.declared.Interface.{Interface}
use Rattle.basis.specs.Answers.{handed_out_by, hands_due}
use Rattle.basis.specs.declared.Call.TheVariants as Call
use Rattle.basis_engine.specs.Timing.{after, timing_of, Timing}
use Rattle.basis_engine.specs.Slots.{record_at, with_stage}
use Rattle.basis_engine.specs.Interface.{is_allowed, is_free_stage, is_free, sender_of, is_sound_setup}
use Rattle.basis_engine.specs.Deadlines.{deadline_of, due_slot}
use Rattle.basis_engine.specs.Calls.{serve, tick_outcome, DueFrame, due_frame, due_frame_at, stage_after}
use Rattle.basis_engine.specs.Refusals.{tick_refusal}
use Rattle.basis_engine.specs.Claims.{Mark, Claim, ticked, marked, marked_latest, claims_after, mark, a_probe, an_announcement, a_conflict, times_of}
use Rattle.std.proofs.lemmas.Option.{none-some}
use Rattle.basis_engine.proofs.DeadlineLaws.{Due, due_slot_lem}
use Rattle.basis_engine.proofs.Acceptance.{Admitted, tick_accepted, sound, sound_at, allowed_number, probe_reads, announcement_reads}
use Rattle.basis_engine.proofs.ClaimLaws.{on, on_marked, on_marked_other}
use Rattle.basis_engine.proofs.Stories.{Probed, probe_sent, first_announced, second_announced}
use Rattle.basis_engine.proofs.Links.{Story, Agrees, Link, Here, link_elsewhere, link_goes_on, agrees_here}
use Rattle.basis_engine.proofs.Invariant.{Linked, LinkedAfter, by_address, holds_own, holds_no_other, linked_here, count_marked, linked_later}

-- What a stage that is due sends, and what that leaves.
record Served (row : Timing) (address : Ipv4Address) (policy : ℕ) (t : Time) (marks : List Mark) (due : DueFrame) (stage : Stage) : Type 0 where
  frame : Frame
  sends : due.frame ≡ Some frame
  counts : handed_out_by due.kind ≡ hands_due
  target : frame.target.ip ≡ address
  reads : (out : List ℕ) → frame_of (frame_put frame out) ≡ frame
  story : Story row policy stage (ticked t frame ∷ marks)
  taken : is_free_stage stage ≡ false

module _ (setup : Setup) (address : Ipv4Address) (policy : ℕ) (t : Time) (draw : ℕ) (marks : List Mark)
    (chosen : is_sound_setup setup ≡ true) (allowed : is_allowed address ≡ true) where
  announces : ticked t (announcement (sender_of setup) address) ≡ mark an_announcement t
  unfolding announcement
  announces = rw (ne_eqb address.0 0 (λ e. let h = (allowed_number address allowed).0 in omega arith))

  announced_served : (stage : Stage) → is_free_stage stage ≡ false → Story (timing_of setup) policy stage (mark an_announcement t ∷ marks) →
      Served (timing_of setup) address policy t marks (record { kind = Announce; frame = Some (announcement (sender_of setup) address) }) stage
  unfolding announcement
  announced_served stage taken story =
      record {
        frame = announcement (sender_of setup) address;
        sends = refl;
        counts = refl;
        target = refl;
        reads = announcement_reads setup address chosen allowed;
        story = rw announces story;
        taken = taken;
      }

  served_stage : (stage : Stage) (deadline : ℕ) → deadline_of stage ≡ Some deadline → deadline ≤ t.0 → Story (timing_of setup) policy stage marks →
      Served (timing_of setup) address policy t marks (due_frame_at (timing_of setup) setup address stage) (stage_after (timing_of setup) t draw stage)
  unfolding probe stage_after
  served_stage Free deadline has late story = absurd (none-some _ has)
  served_stage (Probing sent d) deadline has late story = go (ltb sent (timing_of setup).probe_num) refl
    where
      past : d.0 ≤ t.0
      past = let same : d.0 ≡ deadline = cc in omega arith

      go : (b : Bool) → ltb sent (timing_of setup).probe_num ≡ b →
          Served (timing_of setup) address policy t marks (due_frame_at (timing_of setup) setup address (Probing sent d)) (stage_after (timing_of setup) t draw (Probing sent d))
      go true e =
          rw e
          (record {
            frame = probe (sender_of setup) address;
            sends = refl;
            counts = refl;
            target = refl;
            reads = probe_reads setup address chosen allowed;
            story = probe_sent (timing_of setup) sent d.0 draw t marks story (ltb-true sent (timing_of setup).probe_num e) past;
            taken = refl;
          })
      go false e =
          let more = ltb-false sent (timing_of setup).probe_num e in
          let most = story.at_most in
          let all : sent ≡ (timing_of setup).probe_num = omega arith in
          rw e
          (announced_served (Announced (after t (timing_of setup).announce_interval) None) refl
          (first_announced (timing_of setup) policy d.0 t marks (subst (λ (n : ℕ). Probed (timing_of setup) n d.0 marks) all story) past))
  served_stage (Announced d conflict) deadline has late story =
      announced_served (Settled conflict) refl (second_announced (timing_of setup) policy conflict t marks story)
  served_stage (Settled conflict) deadline has late story = absurd (none-some _ has)

module _ (setup : Setup) (s : Interface) (claims : List Claim) (asks : List ℕ) (linked : Linked setup s claims asks)
    (time : Time) (draw : ℕ) (bytes out : List ℕ) (admission : Admitted s time) where
  -- Nothing is due.
  tick_nothing : LinkedAfter setup claims asks (Call.Tick time draw) bytes out (serve s time draw None)
  unfolding claims_after
  tick_nothing = linked_later setup s claims asks time linked

  module _ (slot : ℕ) (due : Due time s.records slot) where
    r : Record
    r = record_at s.records slot

    due_frame_lem : DueFrame
    due_frame_lem = due_frame (timing_of setup) s.setup r

    stage : Stage
    stage = stage_after (timing_of setup) time draw r.stage

    new : Record
    new = with_stage r stage

    -- A record with a deadline is not free.
    held : is_free r ≡ false
    unfolding r
    held = go (record_at s.records slot).stage due.has
      where
        go : (stage : Stage) → deadline_of stage ≡ Some due.deadline → is_free_stage stage ≡ false
        go Free e = absurd (none-some _ e)
        go (Probing sent d) e = refl
        go (Announced d conflict) e = refl
        go (Settled conflict) e = refl

    module _ (here : Here (timing_of setup) r.address s.records (on r.address claims)) (mine : here.slot ≡ slot) where
      agreed : Agrees (timing_of setup) slot r here.latest
      unfolding r
      agreed = agrees_here (timing_of setup) r.address s.records (on r.address claims) slot here mine

      serves : Served (timing_of setup) r.address r.policy time here.latest.marks due_frame_lem stage
      unfolding r due_frame_lem stage due_frame
      serves =
          served_stage s.setup r.address r.policy time draw here.latest.marks
          (sound s admission.sound).chosen (sound_at s slot admission.sound held).allowed
          r.stage due.deadline due.has due.late agreed.story

      sent : Mark
      sent = ticked time serves.frame

      tick_here : Link (timing_of setup) r.address (set s.records slot new) (on r.address (marked_latest r.address sent claims))
      unfolding new sent
      tick_here =
          rw (on_marked r.address sent claims, here.claimed)
          (inr (link_goes_on s.records slot new due.room (timing_of setup) r.address (on r.address claims) here mine (marked sent here.latest)
          (holds_own new serves.taken)
          (record {
            same_address = agreed.same_address;
            same_slot = agreed.same_slot;
            same_policy = agreed.same_policy;
            story = serves.story;
          })))

      tick_elsewhere : (other : Ipv4Address) → (other.0 ≡ r.address.0 → ⊥) →
          Link (timing_of setup) other (set s.records slot new) (on other (marked_latest r.address sent claims))
      unfolding new r
      tick_elsewhere other apart =
          rw (on_marked_other other r.address (λ e. apart (sym e)) sent claims)
          (link_elsewhere s.records slot new due.room (timing_of setup) other (on other claims)
          (holds_no_other other r apart) (holds_no_other other new apart) (linked.links other))

      mark_conflicts : (marks : List Mark) → times_of a_conflict (sent ∷ marks) ≡ times_of a_conflict marks
      unfolding times_of sent
      mark_conflicts marks =
          cond_both (eqb serves.frame.sender.ip.0 0) a_probe an_announcement
          (λ sign. times_of a_conflict (mark sign time ∷ marks) ≡ times_of a_conflict marks) (λ e. refl) (λ e. refl)

      tick_done : LinkedAfter setup claims asks (Call.Tick time draw) bytes out (serve s time draw (Some slot))
      unfolding claims_after r due_frame_lem stage new sent
      tick_done =
          let same = count_marked r.address sent mark_conflicts claims in
          rw (serves.sends, serves.counts, serves.reads out, serves.target)
          (record {
            kept = linked.kept;
            links = by_address
                (λ (a : Ipv4Address). Link (timing_of setup) a (set s.records slot new) (on a (marked_latest r.address sent claims)))
                r.address tick_here tick_elsewhere;
            count = rw same linked.count;
            asks_apart = linked.asks_apart;
            last_ask = rw same linked.last_ask;
          })

pub tick_linked : (setup : Setup) (s : Interface) (claims : List Claim) (asks : List ℕ) → Linked setup s claims asks →
    (time : Time) (draw : ℕ) (bytes out : List ℕ) → tick_refusal s time draw (length out) ≡ None →
    LinkedAfter setup claims asks (Call.Tick time draw) bytes out (tick_outcome s time draw)
unfolding tick_outcome r
tick_linked setup s claims asks linked time draw bytes out e = go (due_slot time s.records) refl
  where
    admission : Admitted s time
    admission = tick_accepted s time draw (length out) e

    go : (o : Option ℕ) → due_slot time s.records ≡ o →
        LinkedAfter setup claims asks (Call.Tick time draw) bytes out (serve s time draw o)
    go None d = tick_nothing setup s claims asks linked time draw bytes out admission
    go (Some slot) d =
        let due = due_slot_lem time s.records slot d in
        let address = (record_at s.records slot).address in
        let w = linked_here (timing_of setup) address s.records (on address claims) slot
        (holds_own (record_at s.records slot) (held setup s claims asks linked time draw bytes out admission slot due)) (linked.links address) in
        tick_done setup s claims asks linked time draw bytes out admission slot due w.0 w.1
