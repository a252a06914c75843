-- Numbers as bytes: each way undoes the other, at every width.
use Prim.Native.Nat.{ℕ, zero, suc, ◌+◌, ◌*◌, ◌/◌, ◌%◌, ◌^◌, ◌≤◌, ◌<◌}
use mathlib.Core.Path.{◌≡◌, refl, sym, ap, ap₂, ◌∙◌}
use mathlib.Core.List.{List, [], ◌∷◌, ◌++◌}
use mathlib.Core.Bool.{true}
use native.Mathlib.Nat.{pow-succ', one-le-pow, mul_assoc, mod-one, mul-add-div_right, mul-add-mod_self_right, mod-eq_of_lt}
use native.Mathlib.Omega.{arith}
use lib.ListN.{length, take, drop, get_or, length-drop}
use lib.Seq.{drop-cons, length-take-le, drop-append-le, take-append-le}
use lib.Arith.{digits_div, digits_lt, mod-mul}
use lib.Pow.{are_bytes}
use lib.Dec.{ltb, eqb}
use borrow.Author.Tests.{ltb-true, eqb-true}
use Rattle.std.proofs.lemmas.Bool.{and_parts}
use Rattle.basis.specs.Bytes.{bytes_of, number_of, number_at, same_bytes}

pos256 : (n : ℕ) → 0 < 256 ^ n
pos256 n = one-le-pow n 256 (omega arith)

length_bytes_of : (n x : ℕ) → length (bytes_of n x) ≡ n
length_bytes_of zero x = refl
length_bytes_of (suc n) x = ap suc (length_bytes_of n x)

-- A number's last n bytes stand for its remainder.
number_bytes : (n x : ℕ) → number_of (bytes_of n x) ≡ x % 256 ^ n
number_bytes zero x = sym (mod-one x)
number_bytes (suc n) x =
    rw (length_bytes_of n x, number_bytes n x, pow-succ' 256 n)
    (sym (mod-mul x {m = 256} {c = 256 ^ n} (omega arith) (pos256 n)))

-- So a number that fits is read back.
pub number_bytes_fits : (n x : ℕ) → x < 256 ^ n → number_of (bytes_of n x) ≡ x
number_bytes_fits n x h = number_bytes n x ∙ mod-eq_of_lt h

-- What stands above the last n bytes does not change them.
above : (n q r : ℕ) → bytes_of n (q * 256 ^ n + r) ≡ bytes_of n r
above zero q r = refl
above (suc n) q r =
    rw (
      pow-succ' 256 n,
      ← mul_assoc q 256 (256 ^ n),
      mul-add-div_right (pos256 n) (q * 256) r,
    )
    (ap₂ ◌∷◌ (mul-add-mod_self_right q 256 (r / 256 ^ n)) (above n (q * 256) r))

-- A list of bytes: its first is below 256, and the rest are bytes.
bytes_both : (b : ℕ) (bs : List ℕ) → are_bytes (b ∷ bs) ≡ true → (b < 256) × (are_bytes bs ≡ true)
bytes_both b bs h = let both = and_parts (ltb b 256) (are_bytes bs) h in (ltb-true b 256 both.0, both.1)

number_of_lt : (bytes : List ℕ) → are_bytes bytes ≡ true → number_of bytes < 256 ^ length bytes
number_of_lt [] h = omega arith
number_of_lt (b ∷ bs) h =
    let both = bytes_both b bs h in rw pow-succ' (digits_lt both.0 (number_of_lt bs both.1))

-- Bytes are those of the number that they stand for.
bytes_number : (bytes : List ℕ) → are_bytes bytes ≡ true → bytes_of (length bytes) (number_of bytes) ≡ bytes
bytes_number [] h = refl
bytes_number (b ∷ bs) h =
    let both = bytes_both b bs h in
    ap₂ ◌∷◌
    (ap (λ (x : ℕ). x % 256) (digits_div b (number_of_lt bs both.1))
    ∙ mod-eq_of_lt both.0)
    (above (length bs) b (number_of bs) ∙ bytes_number bs both.1)

-- Equal lists, by the test.
pub same_equal : (xs ys : List ℕ) → same_bytes xs ys ≡ true → xs ≡ ys
same_equal [] [] h = refl
same_equal [] (y ∷ ys) h = cc
same_equal (x ∷ xs) [] h = cc
same_equal (x ∷ xs) (y ∷ ys) h =
    let both = and_parts (eqb x y) (same_bytes xs ys) h in ap₂ ◌∷◌ (eqb-true x y both.0) (same_equal xs ys both.1)

-- The n elements from index i on, one by one.
abbrev pub elements : ℕ → ℕ → List ℕ → List ℕ
elements zero i l = []
elements (suc n) i l = get_or l i 0 ∷ elements n (suc i) l

pub part_elements : (n i : ℕ) (l : List ℕ) → i + n ≤ length l → take n (drop i l) ≡ elements n i l
part_elements zero i l h = refl
part_elements (suc n) i l h =
    rw (drop-cons l i 0 (omega arith)) (ap (λ (t : List ℕ). get_or l i 0 ∷ t) (part_elements n (suc i) l (omega arith)))

are_bytes_take : (n : ℕ) (l : List ℕ) → are_bytes l ≡ true → are_bytes (take n l) ≡ true
are_bytes_take zero l h = refl
are_bytes_take (suc n) [] h = refl
are_bytes_take (suc n) (b ∷ bs) h =
    let both = and_parts (ltb b 256) (are_bytes bs) h in rw both.0 (are_bytes_take n bs both.1)

are_bytes_drop : (n : ℕ) (l : List ℕ) → are_bytes l ≡ true → are_bytes (drop n l) ≡ true
are_bytes_drop zero l h = h
are_bytes_drop (suc n) [] h = refl
are_bytes_drop (suc n) (b ∷ bs) h = are_bytes_drop n bs (bytes_both b bs h).1

-- What stands after a part does not change it.
pub part_append : (n i : ℕ) (l rest : List ℕ) → i + n ≤ length l → take n (drop i (l ++ rest)) ≡ take n (drop i l)
part_append n i l rest h =
    rw (drop-append-le i l rest (omega arith), take-append-le n (drop i l) rest (rw length-drop (omega arith)))

-- A part of a list of bytes: the number that it stands for fits its width, and has the part's own bytes.
module _ (n i : ℕ) (l : List ℕ) (small : are_bytes l ≡ true) (within : i + n ≤ length l) where
  part_length : length (take n (drop i l)) ≡ n
  part_length = length-take-le n (drop i l) (rw length-drop (omega arith))

  part_small : are_bytes (take n (drop i l)) ≡ true
  part_small = are_bytes_take n (drop i l) (are_bytes_drop i l small)

  pub number_at_lt : number_at i n l < 256 ^ n
  number_at_lt = rw part_length at (number_of_lt (take n (drop i l)) part_small)

  pub number_at_bytes : bytes_of n (number_at i n l) ≡ take n (drop i l)
  number_at_bytes = rw part_length at (bytes_number (take n (drop i l)) part_small)
