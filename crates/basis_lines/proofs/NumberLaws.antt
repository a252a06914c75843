-- Numbers as text.
use Prim.Native.Nat.{ℕ, zero, suc, ◌+◌, ◌-◌, ◌*◌, ◌/◌, ◌%◌, ◌^◌, ◌≤◌, ◌<◌}
use mathlib.Core.Path.{◌≡◌, refl, sym, ap, ◌∙◌}
use mathlib.Core.Bool.{Bool, true, false, not, cond, ◌&&◌, ◌||◌, and_assoc, and-true, and-false, or-true}
use mathlib.Core.List.{List, [], ◌∷◌, ◌++◌}
use Rattle.std.specs.Prelude.{None, Some}
use native.Mathlib.Nat.{div-add-mod', div-lt_iff_lt-mul, mod-lt, pow-suc}
use native.Mathlib.Omega.{arith}
use lib.ListN.{length, length-append}
use lib.Arith.{digits_div, digits_mod}
use lib.Dec.{ltb, leb, eqb}
use borrow.Author.Tests.{lt-ltb, le-ltb, le-leb, ltb-true, ltb-false, leb-true, eqb-false, ne_eqb, not-true}
use Rattle.std.proofs.lemmas.Bool.{and_parts, cond_both}
use Rattle.basis_lines.specs.Numbers.{is_digit, are_digits, is_empty, is_numeral, value_after, number, largest, largest_draw, last_digits, decimal}
use Rattle.basis_lines.proofs.ReadingLaws.{only_some}

-- A byte that is no digit, at any place, makes the text none.
foreign_in_digits : (front : List ℕ) (b : ℕ) (back : List ℕ) → is_digit b ≡ false → are_digits (front ++ (b ∷ back)) ≡ false
unfolding are_digits
foreign_in_digits [] b back e = rw e
foreign_in_digits (x ∷ front) b back e = rw (foreign_in_digits front b back e) (and-false (is_digit x))

no_numeral : (text : List ℕ) → are_digits text ≡ false → is_numeral text ≡ false
unfolding are_digits
no_numeral [] e = cc
no_numeral (b ∷ text) e = rw e

pub foreign_in_number : (most : ℕ) (front : List ℕ) (b : ℕ) (back : List ℕ) → is_digit b ≡ false →
    number most (front ++ (b ∷ back)) ≡ None
unfolding number
foreign_in_number most front b back e = rw (no_numeral (front ++ (b ∷ back)) (foreign_in_digits front b back e))

-- Two of them: a plain space, and bytes C2 A0.
space_unread : (front back : List ℕ) → number largest (front ++ (32 ∷ back)) ≡ None
space_unread front back = foreign_in_number largest front 32 back refl

gap_unread : (front back : List ℕ) → number largest (front ++ (0xc2 ∷ 0xa0 ∷ back)) ≡ None
gap_unread front back = foreign_in_number largest front 0xc2 (0xa0 ∷ back) refl

-- Digits.
pub digit_glyph : (d : ℕ) → d < 10 → is_digit (48 + d) ≡ true
digit_glyph d h = rw (le-leb 48 (48 + d) (omega arith), le-leb (48 + d) 57 (omega arith))

pub digit_bounds : (b : ℕ) → is_digit b ≡ true → (48 ≤ b) × (b ≤ 57)
digit_bounds b e = let both = and_parts (leb 48 b) (leb b 57) e in (leb-true 48 b both.0, leb-true b 57 both.1)

digits_append : (front back : List ℕ) → are_digits (front ++ back) ≡ (are_digits front && are_digits back)
unfolding are_digits
digits_append [] back = refl
digits_append (b ∷ front) back =
    rw (digits_append front back) (sym (and_assoc (is_digit b) (are_digits front) (are_digits back)))

value_append : (n : ℕ) (front back : List ℕ) → value_after n (front ++ back) ≡ value_after (value_after n front) back
unfolding value_after
value_append n [] back = refl
value_append n (b ∷ front) back = value_append (10 * n + (b - 48)) front back

value_last : (front : List ℕ) (b : ℕ) → value_after 0 (front ++ (b ∷ [])) ≡ 10 * value_after 0 front + (b - 48)
unfolding value_after
value_last front b = value_append 0 front (b ∷ [])

pub value_grows : (n : ℕ) (text : List ℕ) → n ≤ value_after n text
unfolding value_after
value_grows n [] = omega arith
value_grows n (b ∷ text) = omega (arith, value_grows (10 * n + (b - 48)) text)

-- A numeral that does not stand for 0 begins with no zero, so that another digit can follow it.
no_zero_first : (b : ℕ) (text : List ℕ) → is_numeral (b ∷ text) ≡ true → 1 ≤ value_after 0 (b ∷ text) → eqb b 48 ≡ false
unfolding value_after
no_zero_first b [] e h = ne_eqb b 48 (λ same. omega arith)
no_zero_first b (c ∷ text) e h = not-true (eqb b 48) (and_parts (are_digits (b ∷ c ∷ text)) (not (eqb b 48)) e).1

longer_numeral : (text : List ℕ) (d : ℕ) → is_numeral text ≡ true → 1 ≤ value_after 0 text → d < 10 →
    is_numeral (text ++ ((48 + d) ∷ [])) ≡ true
unfolding are_digits
longer_numeral [] d e h small = rw (digit_glyph d small)
longer_numeral (b ∷ text) d e h small =
    rw (
      digits_append text ((48 + d) ∷ []),
      digit_glyph d small,
      no_zero_first b text e h,
      or-true (is_empty (text ++ ((48 + d) ∷ []))),
      and-true (are_digits text),
      and-true (is_digit b && are_digits text),
    )
    (and_parts (are_digits (b ∷ text)) (is_empty text || not (eqb b 48)) e).0

-- What is printed is a numeral that stands for the number.
record Stands (n : ℕ) (text : List ℕ) : Type 0 where
  numeral : is_numeral text ≡ true
  value : value_after 0 text ≡ n

one_stands : (n : ℕ) → n < 10 → Stands n ((48 + n) ∷ [])
unfolding are_digits value_after
one_stands n small = record { numeral = rw (digit_glyph n small); value = omega arith }

more_stand : (n : ℕ) (text : List ℕ) → 10 ≤ n → Stands (n / 10) text → Stands n (text ++ ((48 + n % 10) ∷ []))
unfolding value_after
more_stand n text large s =
    record {
      numeral = longer_numeral text (n % 10) s.numeral (omega (arith, s.value, parted, last)) last;
      value = value_last text (48 + n % 10) ∙ omega (arith, s.value, parted);
    }
  where
    last : n % 10 < 10
    last = mod-lt n (omega arith)

    parted : n / 10 * 10 + n % 10 ≡ n
    parted = div-add-mod' n 10

digits_stand : (k n : ℕ) → n < 10 ^ suc k → Stands n (last_digits (suc k) n)
unfolding last_digits
digits_stand zero n h = rw (lt-ltb n 10 h) (one_stands n h)
digits_stand (suc k) n h = go (ltb n 10) refl (digits_stand k (n / 10) ((div-lt_iff_lt-mul (omega arith)).1 (rw pow-suc at h)))
  where
    go : (test : Bool) → ltb n 10 ≡ test → Stands (n / 10) (last_digits (suc k) (n / 10)) →
        Stands n (cond test ((48 + n) ∷ []) (last_digits (suc k) (n / 10) ++ ((48 + n % 10) ∷ [])))
    go true e s = one_stands n (ltb-true n 10 e)
    go false e s = more_stand n (last_digits (suc k) (n / 10)) (ltb-false n 10 e) s

-- A text by its last byte.
data Ended : List ℕ → Type 0 where
  empty : Ended []
  ends : (front : List ℕ) (b : ℕ) → Ended (front ++ (b ∷ []))

ended : (text : List ℕ) → Ended text
ended [] = empty
ended (x ∷ text) = longer (ended text)
  where
    longer : {text : List ℕ} → Ended text → Ended (x ∷ text)
    longer empty = ends [] x
    longer (ends front b) = ends (x ∷ front) b

-- What stands before the last digit of a numeral is a numeral, and not for 0.
record Shorter (front : List ℕ) (b : ℕ) : Type 0 where
  numeral : is_numeral front ≡ true
  positive : 1 ≤ value_after 0 front
  last : (48 ≤ b) × (b ≤ 57)

not_empty : (front : List ℕ) (b : ℕ) → is_empty (front ++ (b ∷ [])) ≡ false
not_empty [] b = refl
not_empty (x ∷ front) b = refl

shorter_numeral : (x : ℕ) (front : List ℕ) (b : ℕ) → is_numeral ((x ∷ front) ++ (b ∷ [])) ≡ true → Shorter (x ∷ front) b
unfolding are_digits value_after
shorter_numeral x front b e =
    record {
      numeral = rw (digits.0, no_zero, or-true (is_empty front));
      positive = omega (arith, value_grows (10 * 0 + (x - 48)) front, first, eqb-false x 48 no_zero);
      last = digit_bounds b (and_parts (is_digit b) true digits.1).0;
    }
  where
    both : (are_digits ((x ∷ front) ++ (b ∷ [])) ≡ true) × ((is_empty (front ++ (b ∷ [])) || not (eqb x 48)) ≡ true)
    both = and_parts (are_digits ((x ∷ front) ++ (b ∷ []))) (is_empty (front ++ (b ∷ [])) || not (eqb x 48)) e

    digits : (are_digits (x ∷ front) ≡ true) × (are_digits (b ∷ []) ≡ true)
    digits = and_parts (are_digits (x ∷ front)) (are_digits (b ∷ [])) (sym (digits_append (x ∷ front) (b ∷ [])) ∙ both.0)

    first : (48 ≤ x) × (x ≤ 57)
    first = digit_bounds x (and_parts (is_digit x) (are_digits front) digits.0).0

    no_zero : eqb x 48 ≡ false
    no_zero = not-true (eqb x 48) (rw (not_empty front b) at both.1)

one_digit : (k n : ℕ) → n < 10 → last_digits (suc k) n ≡ (48 + n) ∷ []
unfolding last_digits
one_digit k n h = rw (lt-ltb n 10 h)

more_digits : (k n d : ℕ) → 1 ≤ n → d < 10 → last_digits (suc k) (10 * n + d) ≡ last_digits k n ++ ((48 + d) ∷ [])
unfolding last_digits
more_digits k n d h small =
    rw (le-ltb (10 * n + d) 10 (omega arith), turned, digits_div n small, digits_mod n small)
  where
    turned : 10 * n + d ≡ n * 10 + d
    turned = omega arith

-- A numeral is what is printed for the number that it stands for: by its last digit, if that is so of what stands before it.
abbrev Exact : ℕ → Type 0
Exact k = (text : List ℕ) → is_numeral text ≡ true → 1 ≤ value_after 0 text → value_after 0 text < 10 ^ k →
    text ≡ last_digits k (value_after 0 text)

exact_by_last : (k : ℕ) → Exact k → {text : List ℕ} → Ended text → is_numeral text ≡ true → value_after 0 text < 10 ^ suc k →
    text ≡ last_digits (suc k) (value_after 0 text)
unfolding are_digits value_after
exact_by_last k exact empty e h = cc
exact_by_last k exact (ends [] b) e h =
    let bounds = digit_bounds b (and_parts (is_digit b) true (and_parts (is_digit b && true) true e).0).0 in
    sym (one_digit k (10 * 0 + (b - 48)) (omega arith) ∙ ap (λ (c : ℕ). c ∷ []) (omega arith))
exact_by_last k exact (ends (x ∷ front) b) e h =
    let s = shorter_numeral x front b e in
    let value = value_last (x ∷ front) b in
    let last : 48 + (b - 48) ≡ b = omega (arith, s.last) in
    let before = exact (x ∷ front) s.numeral s.positive (omega arith) in
    let all = more_digits k (value_after 0 (x ∷ front)) (b - 48) s.positive (omega (arith, s.last)) in
    cc

exact : (k : ℕ) → Exact k
exact zero text e positive h = absurd (omega arith)
exact (suc k) text e positive h = exact_by_last k (exact k) (ended text) e h

decimal_exact : (text : List ℕ) → is_numeral text ≡ true → value_after 0 text ≤ largest → text ≡ decimal (value_after 0 text)
decimal_exact text e h = exact_by_last 19 (exact 19) (ended text) e (omega arith)

-- "Up to 2^64 - 1", "up to 2^32 - 1".
largest_value : (largest ≡ 2 ^ 64 - 1) × (largest_draw ≡ 2 ^ 32 - 1)
largest_value = (refl, refl)

-- Why a text was read.
number_read : (most : ℕ) (text : List ℕ) (n : ℕ) → number most text ≡ Some n → Stands n text × (n ≤ most)
unfolding number
number_read most text n e =
    let read = only_some (is_numeral text && leb (value_after 0 text) most) (value_after 0 text) n e in
    let both = and_parts (is_numeral text) (leb (value_after 0 text) most) read.0 in
    let small = leb-true (value_after 0 text) most both.1 in
    (record { numeral = both.0; value = read.1 }, omega (arith, read.1))

pub number_at_most : (most : ℕ) (text : List ℕ) (n : ℕ) → number most text ≡ Some n → n ≤ most
number_at_most most text n e = (number_read most text n e).1

-- There is one text for each number: what is printed for it is read, and nothing else is.
pub number_printed : (most n : ℕ) → n ≤ most → most ≤ largest → number most (decimal n) ≡ Some n
unfolding number
number_printed most n small fits =
    let s = digits_stand 19 n (omega arith) in
    rw (s.numeral, s.value, le-leb n most small)

pub number_exact : (most : ℕ) (text : List ℕ) (n : ℕ) → most ≤ largest → number most text ≡ Some n → text ≡ decimal n
number_exact most text n fits e =
    let (s, small) = number_read most text n e in
    decimal_exact text s.numeral (omega (arith, s.value)) ∙ ap decimal s.value

-- A number printed is digits, from 1 to 20 of them.
digits_printed : (most n : ℕ) → are_digits (last_digits most n) ≡ true
unfolding last_digits are_digits
digits_printed zero n = refl
digits_printed (suc most) n = go (ltb n 10) refl (digits_printed most (n / 10))
  where
    go : (test : Bool) → ltb n 10 ≡ test → are_digits (last_digits most (n / 10)) ≡ true →
        are_digits (cond test ((48 + n) ∷ []) (last_digits most (n / 10) ++ ((48 + n % 10) ∷ []))) ≡ true
    go true e front = rw (digit_glyph n (ltb-true n 10 e))
    go false e front =
        digits_append (last_digits most (n / 10)) ((48 + n % 10) ∷ [])
        ∙ rw (front, digit_glyph (n % 10) (mod-lt n (omega arith)))

pub decimal_digits : (n : ℕ) → are_digits (decimal n) ≡ true
decimal_digits n = digits_printed 20 n

digits_at_most : (most n : ℕ) → length (last_digits most n) ≤ most
unfolding last_digits
digits_at_most zero n = omega arith
digits_at_most (suc most) n = go (digits_at_most most (n / 10)) (ltb n 10)
  where
    go : length (last_digits most (n / 10)) ≤ most → (test : Bool) →
        length (cond test ((48 + n) ∷ []) (last_digits most (n / 10) ++ ((48 + n % 10) ∷ []))) ≤ suc most
    go h true = omega arith
    go h false = rw length-append (omega arith)

pub decimal_at_most : (n : ℕ) → length (decimal n) ≤ 20
decimal_at_most n = digits_at_most 20 n

pub decimal_at_least : (n : ℕ) → 1 ≤ length (decimal n)
unfolding last_digits
decimal_at_least n =
    cond_both (ltb n 10) ((48 + n) ∷ []) (last_digits 19 (n / 10) ++ ((48 + n % 10) ∷ [])) (λ text. 1 ≤ length text)
    (λ e. omega arith) (λ e. rw length-append (omega arith))
