-- Readings that need a test or another reading.
use mathlib.Core.Path.{◌≡◌, refl}
use mathlib.Core.Bool.{Bool, true, false, cond}
use Rattle.std.specs.Prelude.{Option, None, Some}
use Rattle.std.proofs.lemmas.Option.{none-some}
use Rattle.basis_lines.specs.Fields.{only, ◌then◌}

-- A reading whose second one is none in any case.
pub then_none : {A B : Type 0} (o : Option A) (next : A → Option B) → ((a : A) → next a ≡ None) → (o then next) ≡ None
then_none None next h = refl
then_none (Some a) next h = h a

-- A reading that is not none: what the first and the second gave.
pub then_some : {A B : Type 0} (o : Option A) (next : A → Option B) (b : B) → (o then next) ≡ Some b →
    (a : A) × (o ≡ Some a) × (next a ≡ Some b)
then_some None next b e = absurd (none-some _ e)
then_some (Some a) next b e = (a, refl, e)

-- What is read only under a test: the test holds.
pub only_some : {A : Type 0} (test : Bool) (a a' : A) → only test a ≡ Some a' → (test ≡ true) × (a ≡ a')
only_some true a a' e = (refl, cc)
only_some false a a' e = (cc, cc)

pub cond_some : {A : Type 0} (test : Bool) (o : Option A) (a : A) → cond test o None ≡ Some a → (test ≡ true) × (o ≡ Some a)
cond_some true o a e = (refl, e)
cond_some false o a e = absurd (none-some _ e)

pub cond_none : {A : Type 0} (test : Bool) → ◌≡◌ {A = Option A} (cond test None None) None
cond_none true = refl
cond_none false = refl
