-- A conflict with a record is one with its claim, and at most one record is concerned.
use Prim.Native.Nat.{ℕ, ◌<◌}
use mathlib.Core.Path.{◌≡◌, refl, sym, ◌∙◌, subst}
use mathlib.Core.Bool.{Bool, true, false, not, cond, ◌&&◌, ◌||◌, false≢true, or-false}
use native.Mathlib.Omega.{arith}
use lib.Dec.{eqb}
use borrow.Author.Tests.{eqb-true, ne_eqb}
use Rattle.basis.specs.declared.Ipv4Address.{Ipv4Address}
use Rattle.basis.specs.declared.Setup.{Setup}
use Rattle.basis.specs.declared.Time.{Time}
use Rattle.basis.specs.declared.Frame.{Frame}
use Rattle.basis.specs.declared.Stage.{Stage}
use Rattle.basis.specs.declared.Stage.TheVariants.{Free, Probing, Announced, Settled}
use Rattle.basis.specs.declared.Record.{Record}
use Rattle.basis.specs.declared.Interface.{Interface}
use Rattle.std.proofs.lemmas.Bool.{and_parts}
use Rattle.basis_engine.specs.Slots.{record_at}
use Rattle.basis_engine.specs.Interface.{is_ours, is_free, is_free_stage, holds, is_sound}
use Rattle.basis_engine.specs.Conflicts.{is_from, probes_for, is_conflict_at, is_conflict, seen_at}
use Rattle.basis_engine.specs.Claims.{Claim, is_conflict_with}
use Rattle.basis_engine.specs.Timing.{timing_of}
use Rattle.basis_engine.proofs.Acceptance.{sound_once, sound_at, allowed_number}
use Rattle.basis_engine.proofs.Stories.{untouched}
use Rattle.basis_engine.proofs.Links.{Story, Agrees}
use Rattle.basis_engine.proofs.Invariant.{same_address_lem, holds_own, held_in_one}

-- A conflict that was seen neither frees a slot nor fills one.
pub seen_free : (t : Time) (stage : Stage) → is_free_stage (seen_at t stage) ≡ is_free_stage stage
seen_free t Free = refl
seen_free t (Probing sent deadline) = refl
seen_free t (Announced deadline conflict) = refl
seen_free t (Settled conflict) = refl

-- The observer's test with a claim not in use, and with one in use, as tests alone.
tests_before_use : (from request zero target strange : Bool) →
    ((from && (true || strange)) || (true && request && zero && target && strange)) ≡ (from || ((request && zero && target) && strange))
tests_before_use true request zero target strange = refl
tests_before_use false request zero target strange = refl

tests_in_use : (from request zero target strange : Bool) →
    ((from && (false || strange)) || (false && request && zero && target && strange)) ≡ (from && strange)
tests_in_use true request zero target strange = or-false strange
tests_in_use false request zero target strange = refl

module _ (setup : Setup) (f : Frame) where
  story_conflict : (policy : ℕ) (stage : Stage) (c : Claim) (address : Ipv4Address) → c.address.0 ≡ address.0 → Story (timing_of setup) policy stage c.marks →
      is_conflict_with setup f c ≡ is_conflict_at setup f address stage
  unfolding is_conflict_with
  story_conflict policy Free c address e story = absurd story
  story_conflict policy (Probing sent deadline) c address e story =
      rw ((untouched (timing_of setup) policy c.marks story.only).not_in_use, e)
      (tests_before_use (is_from f address) (eqb f.operation 1) (eqb f.sender.ip.0 0) (eqb f.target.ip.0 address.0)
      (not (is_ours setup f.sender.hardware)))
  story_conflict policy (Announced deadline conflict) c address e story =
      rw (story.in_use, e)
      (tests_in_use (is_from f address) (eqb f.operation 1) (eqb f.sender.ip.0 0) (eqb f.target.ip.0 address.0)
      (not (is_ours setup f.sender.hardware)))
  story_conflict policy (Settled conflict) c address e story =
      rw (story.in_use, e)
      (tests_in_use (is_from f address) (eqb f.operation 1) (eqb f.sender.ip.0 0) (eqb f.target.ip.0 address.0)
      (not (is_ours setup f.sender.hardware)))

  pub agrees_conflict : (slot : ℕ) (r : Record) (c : Claim) → Agrees (timing_of setup) slot r c → is_conflict_with setup f c ≡ is_conflict setup f r
  agrees_conflict slot r c agrees = story_conflict r.policy r.stage c r.address agrees.same_address agrees.story

  -- The address that a packet can be a conflict over.
  concerned : ℕ
  concerned = cond (eqb f.sender.ip.0 0) f.target.ip.0 f.sender.ip.0

  from_concerned : (address : Ipv4Address) → 0 < address.0 → is_from f address ≡ true → address.0 ≡ concerned
  unfolding concerned
  from_concerned address h e =
      let same = eqb-true f.sender.ip.0 address.0 e in
      rw (ne_eqb f.sender.ip.0 0 (λ z. omega arith)) (sym same)

  probe_concerned : (address : Ipv4Address) → probes_for f address ≡ true → address.0 ≡ concerned
  unfolding concerned
  probe_concerned address e =
      let two = and_parts (eqb f.operation 1 && eqb f.sender.ip.0 0) (eqb f.target.ip.0 address.0) e in
      let one = and_parts (eqb f.operation 1) (eqb f.sender.ip.0 0) two.0 in
      rw one.1 (sym (eqb-true f.target.ip.0 address.0 two.1))

  conflict_concerned : (address : Ipv4Address) (stage : Stage) → 0 < address.0 → is_conflict_at setup f address stage ≡ true → address.0 ≡ concerned
  conflict_concerned address Free h e = absurd (false≢true e)
  conflict_concerned address (Probing sent deadline) h e = go (is_from f address) refl e
    where
      go : (b : Bool) → is_from f address ≡ b → (b || (probes_for f address && not (is_ours setup f.sender.hardware))) ≡ true → address.0 ≡ concerned
      go true from e = from_concerned address h from
      go false from e = probe_concerned address (and_parts (probes_for f address) (not (is_ours setup f.sender.hardware)) e).0
  conflict_concerned address (Announced deadline conflict) h e =
      from_concerned address h (and_parts (is_from f address) (not (is_ours setup f.sender.hardware)) e).0
  conflict_concerned address (Settled conflict) h e =
      from_concerned address h (and_parts (is_from f address) (not (is_ours setup f.sender.hardware)) e).0

  -- A free record is in no conflict.
  pub conflict_held : (r : Record) → is_conflict setup f r ≡ true → is_free r ≡ false
  conflict_held r e = go r.stage e
    where
      go : (stage : Stage) → is_conflict_at setup f r.address stage ≡ true → is_free_stage stage ≡ false
      go Free e = absurd (false≢true e)
      go (Probing sent deadline) e = refl
      go (Announced deadline conflict) e = refl
      go (Settled conflict) e = refl

  -- "At most one record can be concerned": two slots of a sound state with which a packet is a conflict are one.
  pub one_concerned : (s : Interface) (slot other : ℕ) → is_sound s ≡ true →
      is_conflict setup f (record_at s.records slot) ≡ true → is_conflict setup f (record_at s.records other) ≡ true → slot ≡ other
  one_concerned s slot other sound e d =
      held_in_one s.records (record_at s.records other).address slot other (sound_once s sound)
      (subst (λ (a : Ipv4Address). holds a (record_at s.records slot) ≡ true)
      (same_address_lem (record_at s.records slot).address (record_at s.records other).address (at slot e ∙ sym (at other d)))
      (holds_own (record_at s.records slot) (conflict_held (record_at s.records slot) e)))
      (holds_own (record_at s.records other) (conflict_held (record_at s.records other) d))
    where
      at : (n : ℕ) → is_conflict setup f (record_at s.records n) ≡ true → (record_at s.records n).address.0 ≡ concerned
      at n e =
          let r = record_at s.records n in
          let allowed = (sound_at s n sound (conflict_held r e)).allowed in
          conflict_concerned r.address r.stage (allowed_number r.address allowed).0 e
