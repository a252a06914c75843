-- `hex_bytes` of the crate basis_lines, digit by digit and byte by byte: which texts have bytes, and which bytes these are.
use Prim.Native.Nat.{ℕ, zero, suc, ◌+◌, ◌-◌, ◌*◌, ◌/◌, ◌%◌, ◌≤◌, ◌<◌}
use mathlib.Core.Path.{◌≡◌, refl, ap}
use mathlib.Core.List.{List, [], ◌∷◌}
use mathlib.Core.Bool.{Bool, true, false, cond, ◌&&◌, ◌||◌, and-false, and_assoc}
use Rattle.std.specs.Prelude.{Option, Some}
use native.Mathlib.Omega.{arith}
use lib.ListN.{length, get_or, take, drop}
use Rattle.std.specs.Simd.{first_chunks}
use lib.Dec.{eqb, leb}
use borrow.Author.Tests.{leb-true, le-leb, lt-leb}
use Rattle.std.proofs.lemmas.Bool.{and_parts}
use Rattle.basis_lines.specs.Fields.{only, ◌then◌}
use Rattle.basis_lines.specs.Numbers.{is_digit, hex_digit, hex_bytes}
use Rattle.parse_hex_digits.specs.HexText.{is_letter, is_hex, are_hex}
use Rattle.parse_hex.specs.HexValues.{value_of, pairs}

-- A digit is what is hex, with its value.
digit_value : (b : ℕ) → is_digit b ≡ true → b - 48 ≡ value_of b
unfolding value_of
digit_value b e =
    let least : 48 ≤ b = leb-true 48 b (and_parts (leb 48 b) (leb b 57) e).0 in
    let most : b ≤ 57 = leb-true b 57 (and_parts (leb 48 b) (leb b 57) e).1 in
    rw (le-leb b 57 most) (omega (arith, least, most))

letter_value : (b : ℕ) → is_letter b ≡ true → b - 87 ≡ value_of b
unfolding value_of
letter_value b e =
    let least : 97 ≤ b = leb-true 97 b (and_parts (leb 97 b) (leb b 102) e).0 in
    let most : b ≤ 102 = leb-true b 102 (and_parts (leb 97 b) (leb b 102) e).1 in
    rw (lt-leb b 57 (omega (arith, least))) (omega (arith, least, most))

digit_only : (b : ℕ) → hex_digit b ≡ only (is_hex b) (value_of b)
digit_only b = cases (is_digit b) refl (is_letter b) refl
  where
    cases : (digit : Bool) → is_digit b ≡ digit → (letter : Bool) → is_letter b ≡ letter →
        cond digit (Some (b - 48)) (only letter (b - 87)) ≡ only (digit || letter) (value_of b)
    cases true d letter l = ap Some (digit_value b d)
    cases false d true l = ap Some (letter_value b l)
    cases false d false l = refl

-- Two digits and what follows them.
pair_only : {first second : Option ℕ} {rest : Option (List ℕ)} (high low more : Bool) (h l : ℕ) (bytes : List ℕ) →
    first ≡ only high h → second ≡ only low l → rest ≡ only more bytes →
    (first then λ x. second then λ y. rest then λ bs. Some ((x * 16 + y) ∷ bs))
    ≡ only (high && (low && more)) ((h * 16 + l) ∷ bytes)
pair_only true true true h l bytes p q r = rw (p, q, r)
pair_only true true false h l bytes p q r = rw (p, q, r)
pair_only true false more h l bytes p q r = rw (p, q)
pair_only false low more h l bytes p q r = rw p

-- A text has bytes if all of it is hex and the count is even.
even_pair : (n : ℕ) → suc (suc n) % 2 ≡ n % 2
even_pair n = omega arith

pub scanned : (text : List ℕ) → hex_bytes text ≡ only (are_hex text && eqb (length text % 2) 0) (pairs text)
unfolding hex_bytes are_hex pairs
scanned [] = refl
scanned (high ∷ []) = rw and-false
scanned (high ∷ low ∷ text) =
    rw (even_pair, and_assoc, and_assoc)
    (pair_only (is_hex high) (is_hex low) (are_hex text && eqb (length text % 2) 0) (value_of high) (value_of low) (pairs text)
    (digit_only high) (digit_only low) (scanned text))

-- How many bytes there are, and each of them.
pub length_pairs : (text : List ℕ) → length (pairs text) ≡ length text / 2
unfolding pairs
length_pairs [] = refl
length_pairs (high ∷ []) = refl
length_pairs (high ∷ low ∷ text) = rw (length_pairs text) (omega arith)

pub one_pair : (pair : List ℕ) → length pair ≡ 2 →
    value_of (get_or pair 0 0) * 16 + value_of (get_or pair 1 0) ≡ get_or (pairs pair) 0 0
unfolding pairs
one_pair [] h = absurd (omega arith)
one_pair (high ∷ []) h = absurd (omega arith)
one_pair (high ∷ low ∷ []) h = refl
one_pair (high ∷ low ∷ b ∷ pair) h = absurd (omega arith)

pub pair_at : (text : List ℕ) (n i : ℕ) → n ≡ length text / 2 → i < n →
    get_or (pairs (get_or (first_chunks 2 n text) i [])) 0 0 ≡ get_or (pairs text) i 0
unfolding pairs
pair_at [] n i e h = absurd (omega arith)
pair_at (high ∷ []) n i e h = absurd (omega arith)
pair_at (high ∷ low ∷ text) zero i e h = absurd (omega arith)
pair_at (high ∷ low ∷ text) (suc n) zero e h = refl
pair_at (high ∷ low ∷ text) (suc n) (suc i) e h = pair_at text n i (omega (arith, e)) (omega arith)

-- The pairs of a part.
double : (n : ℕ) → 2 * suc n ≡ suc (suc (2 * n))
double n = omega arith

pub pairs_from : (start : ℕ) (text : List ℕ) → pairs (drop (2 * start) text) ≡ drop start (pairs text)
unfolding pairs
pairs_from zero text = refl
pairs_from (suc start) [] = rw (double start) refl
pairs_from (suc start) (high ∷ []) = rw (double start) refl
pairs_from (suc start) (high ∷ low ∷ text) = rw (double start) (pairs_from start text)

pub pairs_first : (n : ℕ) (text : List ℕ) → pairs (take (2 * n) text) ≡ take n (pairs text)
unfolding pairs
pairs_first zero text = refl
pairs_first (suc n) [] = rw (double n) refl
pairs_first (suc n) (high ∷ []) = rw (double n) refl
pairs_first (suc n) (high ∷ low ∷ text) = rw (double n, pairs_first n text) refl
