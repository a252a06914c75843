-- The tests of records by the library's words for lists.
use Prim.Native.Nat.{ℕ, suc}
use mathlib.Core.Path.{◌≡◌, refl, ap}
use mathlib.Core.List.{List, [], ◌∷◌}
use mathlib.Core.Bool.{Bool, cond, ◌||◌, ◌&&◌}
use native.Mathlib.Numerals.{unary_clauses}
use Rattle.std.specs.Prelude.{Some}
use Rattle.std.specs.List.{list_any, list_all, position_from}
use Rattle.basis.specs.declared.Record.{Record}
use Rattle.basis_engine.specs.Slots.{any, all, lowest_from}

module _ (test : Record → Bool) where
  pub any_in_list : (records : List Record) → any test records ≡ list_any test records
  unfolding any
  any_in_list [] = refl
  any_in_list (r ∷ records) = ap (λ (b : Bool). test r || b) (any_in_list records)

  pub all_in_list : (records : List Record) → all test records ≡ list_all test records
  unfolding all
  all_in_list [] = refl
  all_in_list (r ∷ records) = ap (λ (b : Bool). test r && b) (all_in_list records)

  pub lowest_in_list : (n : ℕ) (records : List Record) → lowest_from n test records ≡ position_from test n records
  unfolding lowest_from
  lowest_in_list n [] = refl
  lowest_in_list n (r ∷ records) = simp unary_clauses (ap (cond (test r) (Some n)) (lowest_in_list (suc n) records))
