-- What the answers of src/ stand for, and what its inner functions promise one another: the bytes of a text that is hex. What is hex
-- says the crate basis_lines.
use Rattle.std.specs.Prelude.{ℕ, ◌+◌, ◌*◌, ◌%◌, cond, List, [], ◌∷◌, leb, take, Option, None, Some}

-- The bytes stand at the start of the head that was lent for them.
abbrev pub head_of : Option ℕ → List ℕ → Option (List ℕ)
head_of None head = None
head_of (Some n) head = Some (take n head)

-- A digit's value: its last four bits, and 9 more for a letter. Proved to be the one of `hex_digit` where there is one: `digit_only` in
-- proofs/HexScan.antt. Any other byte has some value too, but no text with such a byte has bytes.
abbrev pub letter_more : ℕ → ℕ
letter_more b = cond (leb b 57) 0 9

unfoldable pub value_of : ℕ → ℕ
value_of b = (b % 16 + letter_more b) % 16

-- The bytes of a text, two digits each. Proved to be those of `hex_bytes` where there are any: `scanned` in proofs/HexScan.antt.
unfoldable pub pairs : List ℕ → List ℕ
pairs [] = []
pairs (high ∷ []) = []
pairs (high ∷ low ∷ text) = (value_of high * 16 + value_of low) ∷ pairs text
