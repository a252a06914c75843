-- An accepted ask keeps the link: a claim begins.
use Prim.Native.Nat.{ℕ, ◌+◌, ◌<◌, ◌≤◌, min}
use mathlib.Core.Path.{◌≡◌, refl, sym}
use mathlib.Core.Bool.{Bool, true, false, cond, ◌&&◌, true≢false}
use mathlib.Core.List.{List, [], ◌∷◌}
use Rattle.std.specs.Prelude.{Option, None, Some}
use mathlib.Core.Logic.{inr}
use native.Mathlib.Nat.{zero-add}
use native.Mathlib.Omega.{arith}
use lib.Dec.{leb, eqb}
use lib.ListN.{length, set}
use borrow.Author.Tests.{leb-true, leb-false, ltb-false, eq-eqb, ne_eqb}
use Rattle.basis.specs.declared.Ipv4Address.{Ipv4Address}
use Rattle.basis.specs.declared.Setup.{Setup}
use Rattle.basis.specs.declared.Time.{Time}
use Rattle.basis.specs.declared.Record.{Record}
use Rattle.basis.specs.declared.Interface.{Interface}
use Rattle.basis.specs.declared.Call.TheVariants as Call
use Rattle.basis_engine.specs.Timing.{wait, is_within, timing_of, Timing}
use Rattle.basis_engine.specs.Slots.{record_at, lowest}
use Rattle.basis_engine.specs.Interface.{is_free, holds}
use Rattle.basis_engine.specs.Calls.{new_claim, ask_outcome}
use Rattle.basis_engine.specs.Refusals.{ask_refusal}
use Rattle.basis_engine.specs.Claims.{Claim, claims_after, conflict_count, times_of}
use Rattle.basis_engine.specs.Demand3.{Spaced, IsAfter}
use Rattle.basis_engine.proofs.SlotLaws.{lowest_holds, any_fails}
use Rattle.basis_engine.proofs.Acceptance.{AskAccepted, ask_accepted}
use Rattle.basis_engine.proofs.ClaimLaws.{on}
use Rattle.basis_engine.proofs.Stories.{spaced_cons, new_story}
use Rattle.basis_engine.proofs.Links.{Link, link_elsewhere, link_taken}
use Rattle.basis_engine.proofs.Invariant.{LastAsk, Linked, LinkedAfter, by_address, holds_own, holds_no_other, linked_away}

-- The asks after the tenth conflict stay apart: with a count of 10 an ask that is too soon is refused.
ask_after : (row : Timing) (asks : List ℕ) (count : ℕ) (asked : Option Time) (time : Time) → LastAsk row asks count asked →
    is_within row.rate_limit_interval time asked ≡ false → IsAfter row.rate_limit_interval asks time.0
ask_after row [] count asked time last in_time = tt
ask_after row (t ∷ earlier) count None time last in_time = absurd last
ask_after row (t ∷ earlier) count (Some asked) time last in_time =
    let same = last.1 in
    let h = ltb-false time.0 (asked.0 + row.rate_limit_interval) in_time in omega arith

limited : (row : Timing) (count : ℕ) (conflicts : ℕ) (near : Bool) → conflicts ≡ min count row.max_conflicts → row.max_conflicts ≤ count →
    (eqb conflicts row.max_conflicts && near) ≡ false → near ≡ false
limited row count conflicts near told ten e = rw (eq-eqb conflicts row.max_conflicts (omega arith)) at e

module _ (setup : Setup) (s : Interface) (claims : List Claim) (asks : List ℕ) (linked : Linked setup s claims asks)
    (time : Time) (address : Ipv4Address) (policy draw slot : ℕ) (bytes lent : List ℕ) (accepted : AskAccepted s time address policy draw)
    (lowest_free : lowest is_free s.records ≡ Some slot) where
  new : Record
  new = new_claim (timing_of setup) time address policy draw

  claim : Claim
  claim = record { address = address; policy = policy; slot = Some slot; marks = [] }

  free : is_free (record_at s.records slot) ≡ true
  free = (lowest_holds is_free s.records slot lowest_free).0

  room : slot < length s.records
  room = (lowest_holds is_free s.records slot lowest_free).1

  -- A claim on another address does not show among the claims on this one.
  ask_links : (other : Ipv4Address) → Link (timing_of setup) other (set s.records slot new) (on other (claim ∷ claims))
  unfolding on new claim
  ask_links =
      by_address (λ (a : Ipv4Address). Link (timing_of setup) a (set s.records slot new) (on a (claim ∷ claims))) address
      (rw (eq-eqb address.0 address.0 refl)
      (inr (link_taken s.records slot new room (timing_of setup) address claim (on address claims)
      (holds_own new refl)
      (record { same_address = refl; same_slot = refl; same_policy = refl; story = new_story (timing_of setup) (time.0 + wait (timing_of setup) draw) })
      (linked_away (timing_of setup) address s.records (on address claims)
      (λ n. any_fails (holds address) s.records n refl accepted.not_held) (linked.links address)))))
      (λ other apart.
      rw (ne_eqb address.0 other.0 (λ e. apart (sym e)))
      (link_elsewhere s.records slot new room (timing_of setup) other (on other claims)
      (rw free) (holds_no_other other new apart) (linked.links other)))

  -- With fewer than ten conflicts there was no ask after the tenth.
  none_yet : (asks : List ℕ) (count : ℕ) (asked : Option Time) → LastAsk (timing_of setup) asks count asked → count < (timing_of setup).max_conflicts →
      LastAsk (timing_of setup) asks count (Some time)
  none_yet [] count asked last few = tt
  none_yet (t ∷ earlier) count None last few = absurd last
  none_yet (t ∷ earlier) count (Some asked) last few = let ten = last.0 in (omega arith, omega arith)

  ask_asks : (b : Bool) → leb (timing_of setup).max_conflicts (conflict_count claims) ≡ b →
      Spaced (timing_of setup).rate_limit_interval (cond b (time.0 ∷ asks) asks)
      × LastAsk (timing_of setup) (cond b (time.0 ∷ asks) asks) (conflict_count claims) (Some time)
  ask_asks true e =
      let ten = leb-true (timing_of setup).max_conflicts (conflict_count claims) e in
      let near = limited (timing_of setup) (conflict_count claims) s.conflicts (is_within (timing_of setup).rate_limit_interval time s.asked) linked.count
      ten accepted.in_time in
      let later = ask_after (timing_of setup) asks (conflict_count claims) s.asked time linked.last_ask near in
      (spaced_cons (timing_of setup).rate_limit_interval time.0 asks later linked.asks_apart, (ten, refl))
  ask_asks false e = (
    linked.asks_apart,
    none_yet asks (conflict_count claims) s.asked linked.last_ask
        (leb-false (timing_of setup).max_conflicts (conflict_count claims) e),
  )

  ask_done : LinkedAfter setup claims asks (Call.Ask time address policy draw) bytes lent (ask_outcome s time address policy draw)
  unfolding ask_outcome claims_after conflict_count times_of new claim
  ask_done =
      let later = ask_asks (leb (timing_of setup).max_conflicts (conflict_count claims)) refl in
      rw lowest_free
      (record {
        kept = linked.kept;
        links = ask_links;
        count = rw (zero-add (conflict_count claims)) linked.count;
        asks_apart = later.0;
        last_ask = rw (zero-add (conflict_count claims)) later.1;
      })

pub ask_linked : (setup : Setup) (s : Interface) (claims : List Claim) (asks : List ℕ) → Linked setup s claims asks →
    (time : Time) (address : Ipv4Address) (policy draw : ℕ) (bytes lent : List ℕ) → ask_refusal s time address policy draw ≡ None →
    LinkedAfter setup claims asks (Call.Ask time address policy draw) bytes lent (ask_outcome s time address policy draw)
ask_linked setup s claims asks linked time address policy draw bytes lent e = go (lowest is_free s.records) refl
  where
    facts : AskAccepted s time address policy draw
    facts = ask_accepted s time address policy draw e

    go : (o : Option ℕ) → lowest is_free s.records ≡ o →
        LinkedAfter setup claims asks (Call.Ask time address policy draw) bytes lent (ask_outcome s time address policy draw)
    go None full = absurd (true≢false (rw full at facts.room))
    go (Some slot) lowest_free = ask_done setup s claims asks linked time address policy draw slot bytes lent facts lowest_free
