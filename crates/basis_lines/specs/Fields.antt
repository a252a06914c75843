-- The parts of a text: "fields parted by one tab", an address's numbers "parted by dots". A text is a list of bytes.
use Rattle.std.specs.Prelude.{ℕ, Bool, true, false, cond, List, [], ◌∷◌, eqb, get_or, Option, None, Some}

abbrev pub tab : ℕ
tab = 9

abbrev pub newline : ℕ
newline = 10

abbrev pub dot : ℕ
dot = 46

-- A byte put before the first part.
abbrev pub before : ℕ → List (List ℕ) → List (List ℕ)
before b [] = (b ∷ []) ∷ []
before b (part ∷ more) = (b ∷ part) ∷ more

-- The parts between separators, empty ones included: always one more than there are separators.
unfoldable pub parts : ℕ → List ℕ → List (List ℕ)
parts separator [] = [] ∷ []
parts separator (b ∷ text) = cond (eqb b separator) ([] ∷ parts separator text) (before b (parts separator text))

-- "The field splitter returns the sub-slice between two tabs": the first part.
abbrev pub first_part : ℕ → List ℕ → List ℕ
first_part separator text = get_or (parts separator text) 0 []

-- "Each read whole or refused whole": what a text stands for if it is in the form, else none.
abbrev pub only : {A : Type 0} → Bool → A → Option A
only true a = Some a
only false a = None

-- A second reading that needs what a first one gave: none if either is.
infixr 20 ◌then◌
abbrev pub ◌then◌ : {A B : Type 0} → Option A → (A → Option B) → Option B
None then next = None
(Some a) then next = next a
