-- An accepted drop keeps the link: the claim of its slot is over.
use Prim.Native.Nat.{ℕ, ◌<◌}
use mathlib.Core.Path.{◌≡◌, refl, sym, ◌∙◌, subst}
use mathlib.Core.Bool.{Bool, true, false, not, ◌&&◌, false≢true}
use mathlib.Core.List.{List, map}
use Rattle.std.specs.Prelude.{None}
use mathlib.Core.Logic.{inl}
use lib.ListN.{length, set}
use borrow.Author.Tests.{eq-eqb, ne_eqb}
use Rattle.std.proofs.lemmas.Bool.{cond_both}
use Rattle.basis.specs.declared.Ipv4Address.{Ipv4Address}
use Rattle.basis.specs.declared.Setup.{Setup}
use Rattle.basis.specs.declared.Time.{Time}
use Rattle.basis.specs.declared.Record.{Record}
use Rattle.basis.specs.declared.Interface.{Interface}
use Rattle.basis.specs.declared.Call.TheVariants as Call
use Rattle.basis_engine.specs.Slots.{record_at, free_record, is_just}
use Rattle.basis_engine.specs.Interface.{is_free, holds}
use Rattle.basis_engine.specs.Calls.{drop_outcome}
use Rattle.basis_engine.specs.Refusals.{drop_refusal}
use Rattle.basis_engine.specs.Claims.{Claim, marked, is_open, released, claims_after, mark, a_conflict, a_drop, times_of}
use Rattle.basis_engine.specs.Timing.{timing_of}
use Rattle.basis_engine.proofs.Rows.{timing_fits}
use Rattle.basis_engine.proofs.SlotLaws.{slot_bound}
use Rattle.basis_engine.proofs.Acceptance.{drop_accepted}
use Rattle.basis_engine.proofs.ClaimLaws.{on}
use Rattle.basis_engine.proofs.Stories.{bounded_dropped, ended_by_drop}
use Rattle.basis_engine.proofs.Links.{Link, Here, link_elsewhere, link_over}
use Rattle.basis_engine.proofs.Invariant.{Linked, LinkedAfter, by_address, holds_own, holds_no_other, linked_here, agrees_bounded, count_changed}
use Rattle.basis_engine.proofs.Changes.{on_changed, unconcerned_each, same_each, concerned_marked}

module _ (setup : Setup) (s : Interface) (claims : List Claim) (asks : List ℕ) (linked : Linked setup s claims asks)
    (time : Time) (slot : ℕ) (bytes lent : List ℕ) (held : is_free (record_at s.records slot) ≡ false) where
  r : Record
  r = record_at s.records slot

  room : slot < length s.records
  room = slot_bound (λ (q : Record). not (is_free q)) s.records slot refl (rw held)

  in_slot : Claim → Bool
  in_slot c = is_just slot c.slot

  -- The address of the slot: its claim is over.
  drop_here : Link (timing_of setup) r.address (set s.records slot free_record) (on r.address (map (released setup time slot) claims))
  unfolding r in_slot
  drop_here =
      let w = linked_here (timing_of setup) r.address s.records (on r.address claims) slot (holds_own r held) (linked.links r.address) in
      let here = w.0 in
      let mine : in_slot here.latest ≡ true = rw here.agrees.same_slot (eq-eqb here.slot slot w.1) in
      rw (
        on_changed (timing_of setup) in_slot (mark a_drop time) r.address claims,
        concerned_marked (timing_of setup) in_slot (mark a_drop time) r.address s.records (on r.address claims) here mine,
      )
      (inl (link_over s.records slot free_record room (timing_of setup) r.address (on r.address claims) here w.1
      (marked (mark a_drop time) here.latest) refl
      (record {
        ended = ended_by_drop (timing_of setup) here.latest.policy time here.latest.marks;
        bounded = bounded_dropped (timing_of setup) time here.latest.marks
            (agrees_bounded (timing_of setup) here.slot (record_at s.records here.slot) here.latest here.agrees (timing_fits setup));
      })))

  -- Another address is in another slot, or in none.
  drop_elsewhere : (other : Ipv4Address) → (other.0 ≡ r.address.0 → ⊥) →
      Link (timing_of setup) other (set s.records slot free_record) (on other (map (released setup time slot) claims))
  unfolding r in_slot
  drop_elsewhere other apart =
      rw (
        on_changed (timing_of setup) in_slot (mark a_drop time) other claims,
        same_each (timing_of setup) in_slot (mark a_drop time) (on other claims)
            (unconcerned_each (timing_of setup) in_slot (mark a_drop time) other s.records (on other claims) (linked.links other) spared),
      )
      (link_elsewhere s.records slot free_record room (timing_of setup) other (on other claims) not_mine refl (linked.links other))
    where
      not_mine : holds other (record_at s.records slot) ≡ false
      not_mine = holds_no_other other r apart

      spared : (here : Here (timing_of setup) other s.records (on other claims)) → in_slot here.latest ≡ false
      spared here =
          rw here.agrees.same_slot
          (ne_eqb here.slot slot
          (λ e. false≢true (sym not_mine ∙ subst (λ (n : ℕ). holds other (record_at s.records n) ≡ true) e here.held)))

  drop_conflicts : (c : Claim) → times_of a_conflict (released setup time slot c).marks ≡ times_of a_conflict c.marks
  unfolding times_of
  drop_conflicts c =
      cond_both (is_open (timing_of setup) c && is_just slot c.slot) (marked (mark a_drop time) c) c
      (λ d. times_of a_conflict d.marks ≡ times_of a_conflict c.marks) (λ e. refl) (λ e. refl)

  drop_done : LinkedAfter setup claims asks (Call.Drop time slot) bytes lent (drop_outcome s time slot)
  unfolding drop_outcome claims_after
  drop_done =
      let same = count_changed (released setup time slot) drop_conflicts claims in
      record {
        kept = linked.kept;
        links = by_address (λ (a : Ipv4Address). Link (timing_of setup) a (set s.records slot free_record) (on a (map (released setup time slot) claims)))
            r.address drop_here drop_elsewhere;
        count = rw same linked.count;
        asks_apart = linked.asks_apart;
        last_ask = rw same linked.last_ask;
      }

pub drop_linked : (setup : Setup) (s : Interface) (claims : List Claim) (asks : List ℕ) → Linked setup s claims asks →
    (time : Time) (slot : ℕ) (bytes lent : List ℕ) → drop_refusal s time slot ≡ None →
    LinkedAfter setup claims asks (Call.Drop time slot) bytes lent (drop_outcome s time slot)
drop_linked setup s claims asks linked time slot bytes lent e = drop_done setup s claims asks linked time slot bytes lent (drop_accepted s time slot e).1
