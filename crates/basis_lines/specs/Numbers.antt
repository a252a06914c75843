-- Numbers, addresses and bytes as text, read and printed.
use Rattle.std.specs.Prelude.{ℕ, zero, suc, ◌+◌, ◌-◌, ◌*◌, ◌/◌, ◌%◌, Bool, true, false, not, cond, ◌&&◌, ◌||◌, List, [], ◌∷◌, ◌++◌, eqb, leb, ltb, length, Option, None, Some}
use Rattle.basis.specs.Bytes.{number_of}
use Rattle.basis.specs.declared.Ipv4Address.{Ipv4Address}
use Rattle.basis.specs.declared.HardwareAddress.{HardwareAddress}
use Rattle.basis_lines.specs.Fields.{dot, parts, only, ◌then◌}

-- "Numbers: digits 0 to 9 only, no leading zero except for 0 itself." (reading carriage-return)
abbrev pub is_digit : ℕ → Bool
is_digit b = leb 48 b && leb b 57

unfoldable pub are_digits : List ℕ → Bool
are_digits [] = true
are_digits (b ∷ text) = is_digit b && are_digits text

abbrev pub is_empty : List ℕ → Bool
is_empty [] = true
is_empty (b ∷ text) = false

abbrev pub is_numeral : List ℕ → Bool
is_numeral [] = false
is_numeral (b ∷ text) = are_digits (b ∷ text) && (is_empty text || not (eqb b 48))

-- The number that digits stand for, after those that stood for n.
unfoldable pub value_after : ℕ → List ℕ → ℕ
value_after n [] = n
value_after n (b ∷ text) = value_after (10 * n + (b - 48)) text

-- A number up to the largest allowed, or none (reading whole-numbers).
unfoldable pub number : ℕ → List ℕ → Option ℕ
number most text = only (is_numeral text && leb (value_after 0 text) most) (value_after 0 text)

-- "Times, policies and slots up to 2^64 - 1, draws up to 2^32 - 1."
abbrev pub largest : ℕ
largest = 18_446_744_073_709_551_615

abbrev pub largest_draw : ℕ
largest_draw = 4_294_967_295

-- Every one of some texts read, or none.
unfoldable pub each : (List ℕ → Option ℕ) → List (List ℕ) → Option (List ℕ)
each read [] = Some []
each read (text ∷ more) = read text then λ n. each read more then λ ns. Some (n ∷ ns)

-- "Addresses: four such numbers up to 255, parted by dots." (reading addresses-in-form)
unfoldable pub address : List ℕ → Option Ipv4Address
address text = each (number 255) (parts dot text) then λ bytes. only (eqb (length bytes) 4) (record { 0 = number_of bytes })

-- "Lower-case hex": a digit, and two digits for each byte.
abbrev pub hex_digit : ℕ → Option ℕ
hex_digit b = cond (is_digit b) (Some (b - 48)) (only (leb 97 b && leb b 102) (b - 87))

unfoldable pub hex_bytes : List ℕ → Option (List ℕ)
hex_bytes [] = Some []
hex_bytes (high ∷ []) = None
hex_bytes (high ∷ low ∷ text) =
    hex_digit high then λ h. hex_digit low then λ l. hex_bytes text then λ bytes. Some ((h * 16 + l) ∷ bytes)

-- "Bytes: lower-case hex, an even count of digits from 0 to 3,000; hardware exactly 12 digits." (reading empty-packet-field)
unfoldable pub bytes : List ℕ → Option (List ℕ)
bytes text = cond (leb (length text) 3_000) (hex_bytes text) None

unfoldable pub hardware : List ℕ → Option HardwareAddress
hardware text = cond (eqb (length text) 12) (hex_bytes text then λ six. Some (record { 0 = number_of six })) None

-- A number printed: its digits, at most so many of the last ones, and 20 hold any number up to 2^64 - 1.
unfoldable pub last_digits : ℕ → ℕ → List ℕ
last_digits zero n = []
last_digits (suc most) n = cond (ltb n 10) ((48 + n) ∷ []) (last_digits most (n / 10) ++ ((48 + n % 10) ∷ []))

abbrev pub decimal : ℕ → List ℕ
decimal n = last_digits 20 n

-- Bytes printed.
abbrev pub hex_glyph : ℕ → ℕ
hex_glyph d = cond (ltb d 10) (48 + d) (87 + d)

unfoldable pub hex_text : List ℕ → List ℕ
hex_text [] = []
hex_text (b ∷ more) = hex_glyph (b / 16) ∷ hex_glyph (b % 16) ∷ hex_text more
