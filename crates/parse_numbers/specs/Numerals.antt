-- The tests of a number, on the digits that a text begins with.
use Rattle.std.specs.Prelude.{ℕ, Bool, false, not, ◌&&◌, ◌||◌, List, [], ◌∷◌, eqb, leb, take, drop}
use Rattle.basis_lines.specs.Fields.{first_part}
use Rattle.basis_lines.specs.Numbers.{is_empty}

-- Whether a text is not empty and begins with a 0 only if that is all of it: what `is_numeral` asks besides digits.
abbrev pub has_numeral_start : List ℕ → Bool
has_numeral_start [] = false
has_numeral_start (b ∷ text) = is_empty text || not (eqb b 48)

-- Whether the first bytes of a text, digits that stand for the value, are a number up to the largest allowed; and whether they are
-- all of the first part too.
abbrev pub is_number : List ℕ → ℕ → ℕ → ℕ → Bool
is_number text value count most = leb value most && has_numeral_start (take count text)

abbrev pub is_first_number : List ℕ → ℕ → ℕ → ℕ → ℕ → Bool
is_first_number text value count most separator = is_number text value count most && is_empty (first_part separator (drop count text))
