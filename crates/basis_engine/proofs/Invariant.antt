-- What links the state to what was seen, after every history.
use Rattle.std.specs.Prelude.{Option, Some, None}
use Prim.Native.Nat.{ℕ, zero, suc, ◌+◌, ◌≤◌, min}
use mathlib.Core.Path.{◌≡◌, refl, sym, ap, ◌∙◌, subst}
use mathlib.Core.Bool.{Bool, true, false, not, cond, ◌&&◌, false≢true, ◌||◌, and-false}
use mathlib.Core.List.{List, [], ◌∷◌, map}
use mathlib.Core.Logic.{inl, inr}
use native.Mathlib.Nat.{suc_inj, suc-ne-zero}
use native.Mathlib.Omega.{arith}
use lib.Dec.{eqb}
use lib.ListN.{length}
use borrow.Author.Tests.{not-true, eqb-true, eqb-false, eq-eqb, ne_eqb}
use Rattle.basis.specs.Answers.{accepted}
use Rattle.basis.specs.declared.Ipv4Address.{Ipv4Address}
use Rattle.basis.specs.declared.Time.{Time}
use Rattle.basis.specs.declared.Stage.{Stage}
use Rattle.basis.specs.declared.Stage.TheVariants.{Free, Probing, Announced, Settled}
use Rattle.basis.specs.declared.Record.{Record}
use Rattle.basis.specs.declared.Interface.{Interface}
use Rattle.basis.specs.declared.Call.{Call}
use Rattle.basis.specs.declared.Setup.{Setup}
use Rattle.std.proofs.lemmas.Bool.{and_parts}
use Rattle.basis_engine.specs.Slots.{record_at}
use Rattle.basis_engine.specs.Interface.{is_free, holds, is_held, holds_none_twice}
use Rattle.basis_engine.specs.Calls.{Outcome, renewed}
use Rattle.basis_engine.specs.Machine.{handed_out, accepted_as}
use Rattle.basis_engine.specs.Claims.{claims_after, asks_by, Mark, Claim, is_open, is_open_after, conflict_count, marked, marked_latest, is_on, a_conflict, times_of}
use Rattle.basis_engine.specs.Demand3.{Spaced}
use Rattle.basis_engine.proofs.SlotLaws.{any_fails, any_slot}
use Rattle.basis_engine.proofs.Rows.{Fits}
use Rattle.basis_engine.proofs.ClaimLaws.{on}
use Rattle.basis_engine.proofs.Stories.{untouched, Bounded, probing_bounded, in_use_bounded}
use Rattle.basis_engine.proofs.Links.{Story, Agrees, Away, Here, Link}
use Rattle.basis_engine.specs.Timing.{Timing, timing_of}

-- Where there were asks after the tenth conflict, the count is at least 10, and the latest of them is the latest ask.
abbrev pub LastAsk : (row : Timing) → List ℕ → ℕ → Option Time → Type 0
LastAsk row [] count asked = Unit {0}
LastAsk row (t ∷ earlier) count None = ⊥
LastAsk row (t ∷ earlier) count (Some asked) = (row.max_conflicts ≤ count) × (t ≡ asked.0)

pub last_ask_counts : (row : Timing) → (asks : List ℕ) (asked : Option Time) (count more : ℕ) → count ≤ more → LastAsk row asks count asked →
    LastAsk row asks more asked
last_ask_counts row [] asked count more h last = tt
last_ask_counts row (t ∷ earlier) None count more h last = last
last_ask_counts row (t ∷ earlier) (Some asked) count more h last = let ten = last.0 in (omega arith, last.1)

pub record Linked (setup : Setup) (s : Interface) (claims : List Claim) (asks : List ℕ) : Type 0 where
  pub kept : s.setup ≡ setup
  pub links : (address : Ipv4Address) → Link (timing_of setup) address s.records (on address claims)
  pub count : s.conflicts ≡ min (conflict_count claims) (timing_of setup).max_conflicts
  pub asks_apart : Spaced (timing_of setup).rate_limit_interval asks
  pub last_ask : LastAsk (timing_of setup) asks (conflict_count claims) s.asked

-- A later time alone leaves it.
pub linked_later : (setup : Setup) (s : Interface) (claims : List Claim) (asks : List ℕ) (time : Time) → Linked setup s claims asks →
    Linked setup (renewed s time s.records) claims asks
linked_later setup s claims asks time linked =
    record {
      kept = linked.kept;
      links = linked.links;
      count = linked.count;
      asks_apart = linked.asks_apart;
      last_ask = linked.last_ask;
    }

-- The link after an accepted call with this outcome.
abbrev pub LinkedAfter : Setup → List Claim → List ℕ → Call → List ℕ → List ℕ → Outcome → Type 0
LinkedAfter setup claims asks call bytes lent outcome =
    Linked setup outcome.state
    (claims_after setup call bytes (accepted_as outcome) (handed_out outcome.frame lent) claims)
    (asks_by (timing_of setup) call (accepted (accepted_as outcome)) claims asks)

-- Addresses of one number are one.
pub same_address_lem : (a b : Ipv4Address) → a.0 ≡ b.0 → a ≡ b
same_address_lem a b e i = record { 0 = e i }

-- What holds of one address and of every other holds of each.
pub by_address : (P : Ipv4Address → Type 0) (mine : Ipv4Address) → P mine → ((other : Ipv4Address) → (other.0 ≡ mine.0 → ⊥) → P other) →
    (address : Ipv4Address) → P address
by_address P mine here others address = go (eqb address.0 mine.0) refl
  where
    go : (b : Bool) → eqb address.0 mine.0 ≡ b → P address
    go true e = subst P (sym (same_address_lem address mine (eqb-true address.0 mine.0 e))) here
    go false e = others address (eqb-false address.0 mine.0 e)

-- A record that is not free holds its own address and no other; a free one none.
pub holds_own : (r : Record) → is_free r ≡ false → holds r.address r ≡ true
holds_own r e = rw (e, eq-eqb r.address.0 r.address.0 refl)

pub holds_no_other : (address : Ipv4Address) (r : Record) → (address.0 ≡ r.address.0 → ⊥) → holds address r ≡ false
holds_no_other address r apart = rw (ne_eqb r.address.0 address.0 (λ e. apart (sym e))) (and-false (not (is_free r)))

pub held_address : (address : Ipv4Address) (r : Record) → holds address r ≡ true → (is_free r ≡ false) × (r.address.0 ≡ address.0)
held_address address r e =
    let w = and_parts (not (is_free r)) (eqb r.address.0 address.0) e in
    (not-true (is_free r) w.0, eqb-true r.address.0 address.0 w.1)

-- "No address is held twice", slot by slot.
pub held_once : (records : List Record) →
    ((address : Ipv4Address) (slot other : ℕ) → holds address (record_at records slot) ≡ true → holds address (record_at records other) ≡ true → slot ≡ other) →
    holds_none_twice records ≡ true
unfolding holds_none_twice
held_once [] once = refl
held_once (r ∷ records) once =
    rw (held_once records (λ address slot other h k. suc_inj (once address (suc slot) (suc other) h k))) (go (is_free r) refl (is_held r.address records) refl)
  where
    go : (f : Bool) → is_free r ≡ f → (h : Bool) → is_held r.address records ≡ h → ((f || not h) && true) ≡ true
    go true f h e = refl
    go false f true e =
        let w = any_slot (holds r.address) records e in
        absurd (suc-ne-zero w.0 (sym (once r.address zero (suc w.0) (holds_own r f) w.1)))
    go false f false e = refl

-- The head's address is in no slot of the rest.
head_alone : (r : Record) (records : List Record) (address : Ipv4Address) (slot : ℕ) → holds_none_twice (r ∷ records) ≡ true →
    holds address r ≡ true → holds address (record_at records slot) ≡ true → ⊥
unfolding holds_none_twice
head_alone r records address slot e h k =
    let first = held_address address r h in
    let alone = (and_parts (is_free r || not (is_held r.address records)) (holds_none_twice records) e).0 in
    let absent : is_held r.address records ≡ false = not-true (is_held r.address records) (rw first.0 at alone) in
    let nowhere = any_fails (holds r.address) records slot refl absent in
    false≢true (sym nowhere ∙ subst (λ (a : Ipv4Address). holds a (record_at records slot) ≡ true) (same_address_lem address r.address (sym first.1)) k)

pub held_in_one : (records : List Record) (address : Ipv4Address) (slot other : ℕ) → holds_none_twice records ≡ true →
    holds address (record_at records slot) ≡ true → holds address (record_at records other) ≡ true → slot ≡ other
unfolding holds_none_twice
held_in_one [] address slot other e h k = absurd (false≢true h)
held_in_one (r ∷ records) address zero zero e h k = refl
held_in_one (r ∷ records) address zero (suc other) e h k = absurd (head_alone r records address other e h k)
held_in_one (r ∷ records) address (suc slot) zero e h k = absurd (head_alone r records address slot e k h)
held_in_one (r ∷ records) address (suc slot) (suc other) e h k =
    ap suc (held_in_one records address slot other
    (and_parts (is_free r || not (is_held r.address records)) (holds_none_twice records) e).1 h k)

-- An address that is in a slot: its claims, and that the link's slot is this one.
pub linked_here : (row : Timing) → (address : Ipv4Address) (records : List Record) (claims : List Claim) (slot : ℕ) →
    holds address (record_at records slot) ≡ true → Link row address records claims →
    (here : Here row address records claims) × (here.slot ≡ slot)
linked_here row address records claims slot e (inl away) = absurd (false≢true (sym (away.nowhere slot) ∙ e))
linked_here row address records claims slot e (inr here) = (here, sym (here.only_here slot e))

pub linked_away : (row : Timing) → (address : Ipv4Address) (records : List Record) (claims : List Claim) →
    ((slot : ℕ) → holds address (record_at records slot) ≡ false) → Link row address records claims → Away row address records claims
linked_away row address records claims nowhere (inl away) = away
linked_away row address records claims nowhere (inr here) = absurd (false≢true (sym (nowhere here.slot) ∙ here.held))

-- A story's claim is open, and its frames are few.
story_open : (row : Timing) → (policy : ℕ) (stage : Stage) (marks : List Mark) → Story row policy stage marks → is_open_after row policy marks ≡ true
story_open row policy Free marks story = absurd story
story_open row policy (Probing sent deadline) marks story = (untouched row policy marks story.only).still_open
story_open row policy (Announced deadline conflict) marks story = story.still_open
story_open row policy (Settled conflict) marks story = story.still_open

story_bounded : (row : Timing) → Fits row → (policy : ℕ) (stage : Stage) (marks : List Mark) → Story row policy stage marks → Bounded row marks
story_bounded row fits policy Free marks story = absurd story
story_bounded row fits policy (Probing sent deadline) marks story = probing_bounded row sent deadline.0 marks story
story_bounded row fits policy (Announced deadline conflict) marks story = let two = fits.two_announcements in in_use_bounded row policy conflict 1 marks (omega arith) story
story_bounded row fits policy (Settled conflict) marks story = in_use_bounded row policy conflict 2 marks fits.two_announcements story

module _ (row : Timing) (slot : ℕ) (r : Record) (c : Claim) (agrees : Agrees row slot r c) where
  pub agrees_open : is_open row c ≡ true
  agrees_open = rw agrees.same_policy (story_open row r.policy r.stage c.marks agrees.story)

  pub agrees_bounded : Fits row → Bounded row c.marks
  agrees_bounded fits = story_bounded row fits r.policy r.stage c.marks agrees.story

-- A mark that is no conflict, and a change that makes none, leave the count.
pub count_marked : (address : Ipv4Address) (mark : Mark) → ((marks : List Mark) → times_of a_conflict (mark ∷ marks) ≡ times_of a_conflict marks) →
    (claims : List Claim) → conflict_count (marked_latest address mark claims) ≡ conflict_count claims
unfolding conflict_count marked_latest
count_marked address mark unmarked [] = refl
count_marked address mark unmarked (c ∷ earlier) = go (is_on address c) (count_marked address mark unmarked earlier)
  where
    go : (b : Bool) → conflict_count (marked_latest address mark earlier) ≡ conflict_count earlier →
        conflict_count (cond b (marked mark c ∷ earlier) (c ∷ marked_latest address mark earlier))
        ≡ length (times_of a_conflict c.marks) + conflict_count earlier
    go true later = rw (unmarked c.marks)
    go false later = rw later

pub count_changed : (change : Claim → Claim) → ((c : Claim) → times_of a_conflict (change c).marks ≡ times_of a_conflict c.marks) →
    (claims : List Claim) → conflict_count (map change claims) ≡ conflict_count claims
unfolding conflict_count
count_changed change unmarked [] = refl
count_changed change unmarked (c ∷ earlier) = rw (unmarked c, count_changed change unmarked earlier)
