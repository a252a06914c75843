-- The claims on one address, and what marks do to them.
use mathlib.Core.Path.{◌≡◌, refl, sym, ◌∙◌}
use mathlib.Core.Bool.{Bool, true, false, cond, false≢true}
use mathlib.Core.List.{List, [], ◌∷◌, map}
use Rattle.std.specs.Prelude.{Option, None, Some}
use borrow.Author.Tests.{eq-eqb, eqb-true}
use Rattle.std.proofs.lemmas.Bool.{false_from_ne_true}
use Rattle.basis.specs.declared.Ipv4Address.{Ipv4Address}
use Rattle.basis_engine.specs.Claims.{Mark, Claim, marked, is_on, marked_latest, latest_on}
use Rattle.basis_engine.specs.Demand3.{Each}

-- The claims on an address, the latest first.
unfoldable pub on : Ipv4Address → List Claim → List Claim
on address [] = []
on address (c ∷ earlier) = cond (is_on address c) (c ∷ on address earlier) (on address earlier)

abbrev pub first : List Claim → Option Claim
first [] = None
first (c ∷ earlier) = Some c

abbrev pub marked_first : Mark → List Claim → List Claim
marked_first mark [] = []
marked_first mark (c ∷ earlier) = marked mark c ∷ earlier

module _ (address : Ipv4Address) where
  pub latest_first : (claims : List Claim) → latest_on address claims ≡ first (on address claims)
  unfolding latest_on on
  latest_first [] = refl
  latest_first (c ∷ earlier) = go (is_on address c) (latest_first earlier)
    where
      go : (b : Bool) → latest_on address earlier ≡ first (on address earlier) →
          cond b (Some c) (latest_on address earlier) ≡ first (cond b (c ∷ on address earlier) (on address earlier))
      go true later = refl
      go false later = later

  -- A change that keeps a claim's address can be made before or after the claims on an address are picked.
  pub on_map : (change : Claim → Claim) → ((c : Claim) → is_on address (change c) ≡ is_on address c) → (claims : List Claim) →
      on address (map change claims) ≡ map change (on address claims)
  unfolding on
  on_map change keeps [] = refl
  on_map change keeps (c ∷ earlier) = go (is_on address c) (keeps c) (on_map change keeps earlier)
    where
      go : (b : Bool) → is_on address (change c) ≡ b → on address (map change earlier) ≡ map change (on address earlier) →
          cond (is_on address (change c)) (change c ∷ on address (map change earlier)) (on address (map change earlier))
          ≡ map change (cond b (c ∷ on address earlier) (on address earlier))
      go true kept later = rw (kept, later)
      go false kept later = rw (kept, later)

  -- A mark of the latest claim on an address is one of the first claim on it, and none of the others.
  pub on_marked : (mark : Mark) (claims : List Claim) → on address (marked_latest address mark claims) ≡ marked_first mark (on address claims)
  unfolding on marked_latest
  on_marked mark [] = refl
  on_marked mark (c ∷ earlier) = go (is_on address c) refl (on_marked mark earlier)
    where
      go : (b : Bool) → is_on address c ≡ b → on address (marked_latest address mark earlier) ≡ marked_first mark (on address earlier) →
          on address (cond b (marked mark c ∷ earlier) (c ∷ marked_latest address mark earlier))
          ≡ marked_first mark (cond b (c ∷ on address earlier) (on address earlier))
      go true e later = rw e
      go false e later = rw (e, later)

  pub on_marked_other : (other : Ipv4Address) → (other.0 ≡ address.0 → ⊥) → (mark : Mark) (claims : List Claim) →
      on address (marked_latest other mark claims) ≡ on address claims
  unfolding on marked_latest
  on_marked_other other apart mark [] = refl
  on_marked_other other apart mark (c ∷ earlier) = go (is_on other c) refl (on_marked_other other apart mark earlier)
    where
      not_here : is_on other c ≡ true → is_on address c ≡ false
      not_here o =
          false_from_ne_true (is_on address c)
          (λ e. apart (sym (eqb-true c.address.0 other.0 o) ∙ eqb-true c.address.0 address.0 e))

      go : (b : Bool) → is_on other c ≡ b → on address (marked_latest other mark earlier) ≡ on address earlier →
          on address (cond b (marked mark c ∷ earlier) (c ∷ marked_latest other mark earlier))
          ≡ cond (is_on address c) (c ∷ on address earlier) (on address earlier)
      go true o later = rw (not_here o)
      go false o later = rw later

-- What holds of the claims on every address holds of all claims.
pub on_each : (P : Claim → Type 0) (claims : List Claim) → ((address : Ipv4Address) → Each P (on address claims)) → Each P claims
unfolding on
on_each P [] each = tt
on_each P (c ∷ earlier) each = (here (is_on c.address c) self (each c.address), on_each P earlier later)
  where
    self : is_on c.address c ≡ true
    self = eq-eqb c.address.0 c.address.0 refl

    here : (b : Bool) → b ≡ true → Each P (cond b (c ∷ on c.address earlier) (on c.address earlier)) → P c
    here true e all = all.0
    here false e all = absurd (false≢true e)

    later : (address : Ipv4Address) → Each P (on address earlier)
    later address = go (is_on address c) (each address)
      where
        go : (b : Bool) → Each P (cond b (c ∷ on address earlier) (on address earlier)) → Each P (on address earlier)
        go true all = all.1
        go false all = all

pub each_map : (P Q : Claim → Type 0) → ((c : Claim) → P c → Q c) → (claims : List Claim) → Each P claims → Each Q claims
each_map P Q imply [] all = tt
each_map P Q imply (c ∷ earlier) all = (imply c all.0, each_map P Q imply earlier all.1)

-- A change that leaves each of some claims as it is leaves them all.
pub map_same : (P : Claim → Type 0) (change : Claim → Claim) → ((c : Claim) → P c → change c ≡ c) → (claims : List Claim) →
    Each P claims → map change claims ≡ claims
map_same P change same [] all = refl
map_same P change same (c ∷ earlier) all = rw (same c all.0, map_same P change same earlier all.1)
