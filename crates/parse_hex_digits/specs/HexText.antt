-- Which bytes are hex, and whether all of a text is. What is hex says the crate basis_lines: a byte is if `hex_digit` gives it a value, which
-- the crate parse_hex proves (`digit_only` in its proofs/HexScan.antt).
use Rattle.std.specs.Prelude.{ℕ, Bool, true, ◌&&◌, ◌||◌, List, [], ◌∷◌, nat_le}
use Rattle.basis_lines.specs.Numbers.{is_digit}

abbrev pub is_letter : ℕ → Bool
is_letter b = nat_le 97 b && nat_le b 102

abbrev pub is_hex : ℕ → Bool
is_hex b = is_digit b || is_letter b

unfoldable pub are_hex : List ℕ → Bool
are_hex [] = true
are_hex (b ∷ text) = is_hex b && are_hex text
