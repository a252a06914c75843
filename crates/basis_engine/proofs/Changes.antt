-- A packet and a drop mark every open claim that they concern: what that does to the claims on one address.
use mathlib.Core.Path.{◌≡◌, refl}
use mathlib.Core.Bool.{Bool, true, false, ◌&&◌, and-false}
use mathlib.Core.List.{List, ◌∷◌, map}
use mathlib.Core.Logic.{inl, inr}
use Rattle.std.proofs.lemmas.Bool.{cond_both}
use Rattle.basis.specs.declared.Ipv4Address.{Ipv4Address}
use Rattle.basis.specs.declared.Record.{Record}
use Rattle.basis_engine.specs.Slots.{record_at}
use Rattle.basis_engine.specs.Claims.{Mark, Claim, is_open, is_on, marked, marked_if}
use Rattle.basis_engine.specs.Demand3.{Each}
use Rattle.basis_engine.proofs.ClaimLaws.{on, on_map, each_map, map_same}
use Rattle.basis_engine.proofs.Links.{Closed, Here, Link}
use Rattle.basis_engine.proofs.Invariant.{agrees_open}
use Rattle.basis_engine.specs.Timing.{Timing}

-- Each open claim of which a test holds gets a mark.
module _ (row : Timing) (test : Claim → Bool) (mark : Mark) where
  abbrev pub changed : Claim → Claim
  changed c = marked_if row (test c) mark c

  changed_on : (address : Ipv4Address) (c : Claim) → is_on address (changed c) ≡ is_on address c
  changed_on address c = cond_both (is_open row c && test c) (marked mark c) c (λ d. is_on address d ≡ is_on address c) (λ e. refl) (λ e. refl)

  pub on_changed : (address : Ipv4Address) (claims : List Claim) → on address (map changed claims) ≡ map changed (on address claims)
  on_changed address claims = on_map address changed (changed_on address) claims

  -- A claim that is over, or of which the test fails, stays as it was.
  closed_same : (c : Claim) → Closed row c → changed c ≡ c
  closed_same c closed = rw closed.ended

  spared_same : (c : Claim) → test c ≡ false → changed c ≡ c
  spared_same c spared = rw (spared, and-false) refl

  -- The claims on an address that is not concerned.
  pub unconcerned_each : (address : Ipv4Address) (records : List Record) (claims : List Claim) → Link row address records claims →
      ((here : Here row address records claims) → test here.latest ≡ false) → Each (λ c. changed c ≡ c) claims
  unconcerned_each address records claims (inl away) spared =
      each_map (Closed row) (λ c. changed c ≡ c) closed_same claims away.all_over
  unconcerned_each address records claims (inr here) spared =
      rw here.claimed
      (spared_same here.latest (spared here), each_map (Closed row) (λ c. changed c ≡ c) closed_same here.older here.older_over)

  pub same_each : (claims : List Claim) → Each (λ c. changed c ≡ c) claims → map changed claims ≡ claims
  same_each claims all = map_same (λ c. changed c ≡ c) changed (λ c e. e) claims all

  -- The claims on one that is.
  pub concerned_marked : (address : Ipv4Address) (records : List Record) (claims : List Claim) (here : Here row address records claims) →
      test here.latest ≡ true → map changed claims ≡ marked mark here.latest ∷ here.older
  concerned_marked address records claims here hit =
      rw (
        here.claimed,
        agrees_open row here.slot (record_at records here.slot) here.latest here.agrees,
        hit,
        same_each here.older (each_map (Closed row) (λ c. changed c ≡ c) closed_same here.older here.older_over),
      )
