-- Times that are pairwise at least so many ms apart are few between any two times.
use Prim.Native.Nat.{ℕ, suc, ◌+◌, ◌-◌, ◌*◌, ◌/◌, ◌<◌, ◌≤◌}
use mathlib.Core.Path.{◌≡◌, refl}
use mathlib.Core.Bool.{Bool, true, false, cond, ◌&&◌}
use mathlib.Core.List.{List, [], ◌∷◌}
use mathlib.Core.Logic.{◌⊎◌, inl, inr, ⊎_elim}
use native.Mathlib.Nat.{suc-mul, zero-mul, le-div_iff_mul-le}
use native.Mathlib.Omega.{arith}
use lib.Dec.{leb}
use borrow.Author.Tests.{leb-true}
use Rattle.basis_engine.specs.Demand3.{Spaced, count_from, AtMostOneEach}
use Rattle.std.proofs.lemmas.Bool.{and_parts}

module _ (ms a b : ℕ) where
  -- None from a to b, or n + 1 of them, which take at least n times the distance up to this time and up to b.
  Fits : ℕ → ℕ → Type 0
  Fits count time = (count ≡ 0) ⊎ ((n : ℕ) × (count ≡ suc n) × (a + n * ms ≤ time) × (a + n * ms ≤ b))

  one : (time : ℕ) (inside : Bool) → (leb a time && leb time b) ≡ inside → Fits (cond inside 1 0 + 0) time
  unfolding Fits
  one time true e =
      let w = and_parts (leb a time) (leb time b) e in
      let low = leb-true a time w.0 in
      let high = leb-true time b w.1 in
      let None = zero-mul ms in
      inr (0, omega arith, omega arith, omega arith)
  one time false e = inl (omega arith)

  more : (time before count : ℕ) (inside : Bool) → (leb a time && leb time b) ≡ inside → before + ms ≤ time → Fits count before →
      Fits (cond inside 1 0 + count) time
  unfolding Fits
  more time before count true e apart (inl few) =
      let w = and_parts (leb a time) (leb time b) e in
      let low = leb-true a time w.0 in
      let high = leb-true time b w.1 in
      let nothing = zero-mul ms in
      inr (0, omega arith, omega arith, omega arith)
  more time before count true e apart (inr w) =
      let high = leb-true time b (and_parts (leb a time) (leb time b) e).1 in
      let next = suc-mul w.0 ms in
      let told = w.1 in
      let fits = w.2 in
      inr (suc w.0, omega arith, omega arith, omega arith)
  more time before count false e apart (inl few) = inl (omega arith)
  more time before count false e apart (inr w) =
      let told = w.1 in
      let fits = w.2 in
      inr (w.0, omega arith, omega arith, w.3)

  latest : (time : ℕ) (earlier : List ℕ) → Spaced ms (time ∷ earlier) → Fits (count_from a b (time ∷ earlier)) time
  latest time [] spaced = one time (leb a time && leb time b) refl
  latest time (before ∷ earlier) spaced =
      more time before (count_from a b (before ∷ earlier)) (leb a time && leb time b) refl spaced.0
      (latest before earlier spaced.1)

pub spaced_few : (ms : ℕ) → 0 < ms → (times : List ℕ) → Spaced ms times → AtMostOneEach ms times
unfolding Fits
spaced_few ms h [] spaced a b le = omega arith
spaced_few ms h (time ∷ earlier) spaced a b le =
    ⊎_elim (λ None. rw None (omega arith)) (λ w. go w.0 w.1 w.3) (latest ms a b time earlier spaced)
  where
    go : (n : ℕ) → count_from a b (time ∷ earlier) ≡ suc n → a + n * ms ≤ b → count_from a b (time ∷ earlier) ≤ (b - a) / ms + 1
    go n e fits =
        let room : n * ms ≤ b - a = omega arith in
        let few = (le-div_iff_mul-le {k = ms} {x = n} {y = b - a} h).1 room in
        rw e (omega arith)
