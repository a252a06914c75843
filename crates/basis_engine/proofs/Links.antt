-- What links the records to the claims, address by address, and how it fares when one slot gets another record.
use Prim.Native.Nat.{ℕ, ◌<◌}
use mathlib.Core.Path.{◌≡◌, refl, sym, ◌∙◌, subst}
use mathlib.Core.Bool.{Bool, true, false, false≢true}
use mathlib.Core.List.{List, ◌∷◌}
use Rattle.std.specs.Prelude.{Some}
use mathlib.Core.Logic.{◌⊎◌, inl, inr}
use lib.Dec.{eqb}
use lib.ListN.{length, set}
use lib.Seq.{get_or-set_same, get_or-set_other}
use borrow.Author.Tests.{eqb-true, eqb-false}
use Rattle.std.proofs.lemmas.Bool.{false_from_ne_true}
use Rattle.basis.specs.declared.Ipv4Address.{Ipv4Address}
use Rattle.basis.specs.declared.Stage.{Stage}
use Rattle.basis.specs.declared.Stage.TheVariants.{Free, Probing, Announced, Settled}
use Rattle.basis.specs.declared.Record.{Record}
use Rattle.basis_engine.specs.Slots.{free_record, record_at}
use Rattle.basis_engine.specs.Interface.{holds}
use Rattle.basis_engine.specs.Claims.{Mark, Claim, is_open}
use Rattle.basis_engine.specs.Demand3.{Each}
use Rattle.basis_engine.proofs.Stories.{Bounded, Probed, InUse}
use Rattle.basis_engine.specs.Timing.{Timing}

-- The marks of the claim that a record of this policy and stage stands for.
abbrev pub Story : (row : Timing) → ℕ → Stage → List Mark → Type 0
Story row policy Free marks = ⊥
Story row policy (Probing sent deadline) marks = Probed row sent deadline.0 marks
Story row policy (Announced deadline conflict) marks = InUse row policy conflict 1 marks
Story row policy (Settled conflict) marks = InUse row policy conflict 2 marks

pub record Agrees (row : Timing) (slot : ℕ) (r : Record) (c : Claim) : Type 0 where
  pub same_address : c.address.0 ≡ r.address.0
  pub same_slot : c.slot ≡ Some slot
  pub same_policy : c.policy ≡ r.policy
  pub story : Story row r.policy r.stage c.marks

-- A claim that is over.
pub record Closed (row : Timing) (c : Claim) : Type 0 where
  pub ended : is_open row c ≡ false
  pub bounded : Bounded row c.marks

-- An address is in no slot, and its claims are all over; or it is in one slot only, the latest claim is that slot's, and the
-- older ones are all over.
pub record Away (row : Timing) (address : Ipv4Address) (records : List Record) (claims : List Claim) : Type 0 where
  pub nowhere : (slot : ℕ) → holds address (record_at records slot) ≡ false
  pub all_over : Each (Closed row) claims

pub record Here (row : Timing) (address : Ipv4Address) (records : List Record) (claims : List Claim) : Type 0 where
  pub slot : ℕ
  pub latest : Claim
  pub older : List Claim
  pub claimed : claims ≡ latest ∷ older
  pub held : holds address (record_at records slot) ≡ true
  pub only_here : (other : ℕ) → holds address (record_at records other) ≡ true → other ≡ slot
  pub agrees : Agrees row slot (record_at records slot) latest
  pub older_over : Each (Closed row) older

abbrev pub Link : (row : Timing) → Ipv4Address → List Record → List Claim → Type 0
Link row address records claims = Away row address records claims ⊎ Here row address records claims

-- The record of this slot agrees with the latest claim, where the link's slot is this one.
pub agrees_here : (row : Timing) → (address : Ipv4Address) (records : List Record) (claims : List Claim) (slot : ℕ) (here : Here row address records claims) →
    here.slot ≡ slot → Agrees row slot (record_at records slot) here.latest
agrees_here row address records claims slot here mine =
    subst (λ (n : ℕ). Agrees row n (record_at records n) here.latest) mine here.agrees

module _ (records : List Record) (slot : ℕ) (new : Record) (room : slot < length records) where
  pub at_slot : record_at (set records slot new) slot ≡ new
  at_slot = get_or-set_same records slot new free_record room

  -- What holds of the new record, and of each other slot's, holds of each slot's.
  pub at_each : (P : ℕ → Record → Type 0) → P slot new → ((other : ℕ) → (other ≡ slot → ⊥) → P other (record_at records other)) →
      (other : ℕ) → P other (record_at (set records slot new) other)
  at_each P here others other = go (eqb other slot) refl
    where
      go : (b : Bool) → eqb other slot ≡ b → P other (record_at (set records slot new) other)
      go true e =
          let same = eqb-true other slot e in
          subst (λ (n : ℕ). P n (record_at (set records slot new) n)) (sym same) (subst (P slot) (sym at_slot) here)
      go false e =
          let apart = eqb-false other slot e in
          subst (P other) (sym (get_or-set_other records slot other new free_record apart)) (others other apart)

  module _ (row : Timing) (address : Ipv4Address) where
    -- Neither record holds the address.
    pub link_elsewhere : (claims : List Claim) → holds address (record_at records slot) ≡ false → holds address new ≡ false →
        Link row address records claims → Link row address (set records slot new) claims
    link_elsewhere claims old_not new_not (inl away) =
        inl (record {
          nowhere = at_each (λ n r. holds address r ≡ false) new_not (λ other apart. away.nowhere other);
          all_over = away.all_over;
        })
    link_elsewhere claims old_not new_not (inr here) =
        inr (record {
          slot = here.slot;
          latest = here.latest;
          older = here.older;
          claimed = here.claimed;
          held = subst (λ (r : Record). holds address r ≡ true) (sym same) here.held;
          only_here = at_each (λ n r. holds address r ≡ true → n ≡ here.slot) (λ e. absurd (false≢true (sym new_not ∙ e)))
              (λ other apart. here.only_here other);
          agrees = subst (λ (r : Record). Agrees row here.slot r here.latest) (sym same) here.agrees;
          older_over = here.older_over;
        })
      where
        moved : here.slot ≡ slot → ⊥
        moved e = false≢true (sym old_not ∙ subst (λ (n : ℕ). holds address (record_at records n) ≡ true) e here.held)

        same : record_at (set records slot new) here.slot ≡ record_at records here.slot
        same = get_or-set_other records slot here.slot new free_record moved

    -- A claim begins: the address was in no slot.
    pub link_taken : (c : Claim) (older : List Claim) → holds address new ≡ true → Agrees row slot new c → Away row address records older →
        Here row address (set records slot new) (c ∷ older)
    link_taken c older holds_new agrees away =
        record {
          slot = slot;
          latest = c;
          older = older;
          claimed = refl;
          held = subst (λ (r : Record). holds address r ≡ true) (sym at_slot) holds_new;
          only_here = at_each (λ n r. holds address r ≡ true → n ≡ slot) (λ e. refl)
              (λ other apart e. absurd (false≢true (sym (away.nowhere other) ∙ e)));
          agrees = subst (λ (r : Record). Agrees row slot r c) (sym at_slot) agrees;
          older_over = away.all_over;
        }

    module _ (claims : List Claim) (here : Here row address records claims) (mine : here.slot ≡ slot) where
      -- A claim goes on in its slot.
      pub link_goes_on : (c : Claim) → holds address new ≡ true → Agrees row slot new c →
          Here row address (set records slot new) (c ∷ here.older)
      link_goes_on c holds_new agrees =
          record {
            slot = slot;
            latest = c;
            older = here.older;
            claimed = refl;
            held = subst (λ (r : Record). holds address r ≡ true) (sym at_slot) holds_new;
            only_here = at_each (λ n r. holds address r ≡ true → n ≡ slot) (λ e. refl)
                (λ other apart e. here.only_here other e ∙ mine);
            agrees = subst (λ (r : Record). Agrees row slot r c) (sym at_slot) agrees;
            older_over = here.older_over;
          }

      -- A claim is over, and its slot free of the address.
      pub link_over : (c : Claim) → holds address new ≡ false → Closed row c → Away row address (set records slot new) (c ∷ here.older)
      link_over c not_new closed =
          record {
            nowhere = at_each (λ n r. holds address r ≡ false) not_new gone;
            all_over = (closed, here.older_over);
          }
        where
          gone : (other : ℕ) → (other ≡ slot → ⊥) → holds address (record_at records other) ≡ false
          gone other apart = false_from_ne_true (holds address (record_at records other)) (λ e. apart (here.only_here other e ∙ mine))
