-- Bytes as text in hex.
use Prim.Native.Nat.{ℕ, zero, suc, ◌+◌, ◌-◌, ◌*◌, ◌/◌, ◌%◌, ◌^◌, ◌≤◌, ◌<◌}
use mathlib.Core.Path.{◌≡◌, refl, sym, ap, subst, ◌∙◌}
use mathlib.Core.Bool.{Bool, true, false, cond, ◌&&◌, and-false}
use mathlib.Core.List.{List, [], ◌∷◌, ◌++◌}
use Rattle.std.specs.Prelude.{Option, None, Some}
use native.Mathlib.Nat.{div-add-mod', div-lt_iff_lt-mul, mod-lt}
use native.Mathlib.Omega.{arith}
use lib.Arith.{digits_div, digits_mod}
use lib.Dec.{leb, eqb, ltb, lit≤}
use lib.ListN.{length}
use lib.Pow.{are_bytes}
use lib.Seq.{take_all}
use borrow.Author.Tests.{lt-ltb, le-ltb, le-leb, lt-leb, ltb-true, ltb-false, leb-true, eqb-true}
use Rattle.basis.specs.Bytes.{bytes_of, number_of}
use Rattle.basis.specs.declared.HardwareAddress.{HardwareAddress}
use Rattle.std.proofs.lemmas.Bool.{and_parts}
use Rattle.std.proofs.lemmas.Option.{none-some, same_Some}
use Rattle.basis.proofs.BytesLaws.{number_bytes_fits, number_at_lt, number_at_bytes}
use Rattle.basis_lines.specs.Fields.{only}
use Rattle.basis_lines.specs.Numbers.{is_digit, hex_digit, hex_bytes, bytes, hardware, hex_glyph, hex_text}
use Rattle.basis_lines.proofs.ReadingLaws.{then_none, then_some, only_some, cond_some, cond_none}
use Rattle.basis_lines.proofs.NumberLaws.{digit_glyph, digit_bounds}

-- A byte that is no hex digit, at any place, makes the text none.
pub foreign_in_hex : (front : List ℕ) (b : ℕ) (back : List ℕ) → hex_digit b ≡ None → hex_bytes (front ++ (b ∷ back)) ≡ None
unfolding hex_bytes
foreign_in_hex [] b [] e = refl
foreign_in_hex [] b (low ∷ back) e = rw e
foreign_in_hex (high ∷ []) b back e = then_none (hex_digit high) _ (λ h. rw e)
foreign_in_hex (high ∷ low ∷ front) b back e =
    then_none (hex_digit high) _ (λ h. then_none (hex_digit low) _ (λ l. rw (foreign_in_hex front b back e)))

module _ (front : List ℕ) (b : ℕ) (back : List ℕ) (foreign : hex_digit b ≡ None) where
  pub foreign_in_bytes : bytes (front ++ (b ∷ back)) ≡ None
  unfolding bytes
  foreign_in_bytes = rw (foreign_in_hex front b back foreign, cond_none)

  pub foreign_in_hardware : hardware (front ++ (b ∷ back)) ≡ None
  unfolding hardware
  foreign_in_hardware = rw (foreign_in_hex front b back foreign, cond_none)

-- A digit is read from what is printed for it, and from nothing else.
digit_exact : (b d : ℕ) → hex_digit b ≡ Some d → (d < 16) × (b ≡ hex_glyph d)
digit_exact b d e = go (is_digit b) refl e
  where
    go : (test : Bool) → is_digit b ≡ test → cond test (Some (b - 48)) (only (leb 97 b && leb b 102) (b - 87)) ≡ Some d →
        (d < 16) × (b ≡ hex_glyph d)
    go true digit read =
        let bounds = digit_bounds b digit in
        let is : b - 48 ≡ d = cc in
        (omega arith, rw (lt-ltb d 10 (omega arith)) (omega arith))
    go false digit read =
        let found = only_some (leb 97 b && leb b 102) (b - 87) d read in
        let both = and_parts (leb 97 b) (leb b 102) found.0 in
        let low = leb-true 97 b both.0 in
        let high = leb-true b 102 both.1 in
        (omega (arith, found.1), rw (le-ltb d 10 (omega (arith, found.1))) (omega (arith, found.1)))

digit_printed : (d : ℕ) → d < 16 → hex_digit (hex_glyph d) ≡ Some d
digit_printed d h = go (ltb d 10) refl
  where
    go : (test : Bool) → ltb d 10 ≡ test → hex_digit (cond test (48 + d) (87 + d)) ≡ Some d
    go true e = rw (digit_glyph d (ltb-true d 10 e)) (ap (λ (n : ℕ). Some n) (omega arith))
    go false e =
        let large = ltb-false d 10 e in
        rw (
          lt-leb (87 + d) 57 (omega arith),
          and-false (leb 48 (87 + d)),
          le-leb 97 (87 + d) (omega arith),
          le-leb (87 + d) 102 (omega arith),
        )
        (ap (λ (n : ℕ). Some n) (omega arith))

-- "Lower-case": no capital is read.
capital_unread : (front back : List ℕ) → hex_bytes (front ++ (65 ∷ back)) ≡ None
capital_unread front back = foreign_in_hex front 65 back refl

-- Bytes are read from what is printed for them, and from nothing else.
pub hex_printed : (bs : List ℕ) → are_bytes bs ≡ true → hex_bytes (hex_text bs) ≡ Some bs
unfolding hex_bytes hex_text
hex_printed [] small = refl
hex_printed (b ∷ bs) small =
    let both = and_parts (ltb b 256) (are_bytes bs) small in
    rw (
      digit_printed (b / 16) ((div-lt_iff_lt-mul (omega arith)).1 (ltb-true b 256 both.0)),
      digit_printed (b % 16) (mod-lt b (omega arith)),
      hex_printed bs both.1,
      div-add-mod' b 16,
    )

abbrev pub IsTextOf : List ℕ → List ℕ → Type 0
IsTextOf bs text = (text ≡ hex_text bs) × (are_bytes bs ≡ true)

byte_exact : (high h low l : ℕ) (bs text : List ℕ) → hex_digit high ≡ Some h → hex_digit low ≡ Some l → IsTextOf bs text →
    IsTextOf ((h * 16 + l) ∷ bs) (high ∷ low ∷ text)
unfolding hex_text
byte_exact high h low l bs text read_high read_low rest =
    let (fits_high, is_high) = digit_exact high h read_high in
    let (Fits-low, is_low) = digit_exact low l read_low in
    (rw (digits_div h Fits-low, digits_mod h Fits-low) (cc), rw (lt-ltb (h * 16 + l) 256 (omega arith)) rest.1)

pub hex_exact : (text bs : List ℕ) → hex_bytes text ≡ Some bs → IsTextOf bs text
unfolding hex_bytes hex_text
hex_exact [] bs e = let is : [] ≡ bs = cc in subst (λ (read : List ℕ). IsTextOf read []) is (refl, refl)
hex_exact (high ∷ []) bs e = absurd (none-some _ e)
hex_exact (high ∷ low ∷ text) bs e =
    let (h, read_high, e') = then_some (hex_digit high) _ bs e in
    let (l, read_low, e'') = then_some (hex_digit low) _ bs e' in
    let (rest, read, made) = then_some (hex_bytes text) _ bs e'' in
    let is : (h * 16 + l) ∷ rest ≡ bs = cc in
    subst (λ (read : List ℕ). IsTextOf read (high ∷ low ∷ text)) is
    (byte_exact high h low l rest text read_high read_low (hex_exact text rest read))

-- Two digits for each byte.
pub hex_length : (bs : List ℕ) → length (hex_text bs) ≡ 2 * length bs
unfolding hex_text
hex_length [] = refl
hex_length (b ∷ bs) = omega (arith, hex_length bs)

pub read_length : (text bs : List ℕ) → hex_bytes text ≡ Some bs → length text ≡ 2 * length bs
read_length text bs e = ap length (hex_exact text bs e).0 ∙ hex_length bs

-- "An even count of digits."
pub odd_count : (text : List ℕ) (half : ℕ) → length text ≡ suc (2 * half) → hex_bytes text ≡ None
odd_count text half odd = go (hex_bytes text) refl
  where
    go : (read : Option (List ℕ)) → hex_bytes text ≡ read → read ≡ None
    go None e = refl
    go (Some bs) e = absurd (omega (arith, read_length text bs e))

-- "From 0 to 3,000" digits.
up_to : (most : ℕ) → 3_000 ≤ most → (text : List ℕ) → length text ≤ 3_000 →
    cond (leb (length text) most) (hex_bytes text) None ≡ hex_bytes text
up_to most all text few = rw (le-leb (length text) most (omega arith))

pub bytes_printed : (bs : List ℕ) → are_bytes bs ≡ true → length bs ≤ 1_500 → bytes (hex_text bs) ≡ Some bs
unfolding bytes
bytes_printed bs small few = up_to _ (lit≤ tt) (hex_text bs) (omega (arith, hex_length bs)) ∙ hex_printed bs small

pub bytes_exact : (text bs : List ℕ) → bytes text ≡ Some bs → IsTextOf bs text × (length bs ≤ 1_500)
unfolding bytes
bytes_exact text bs e =
    let (few, read) = cond_some (leb (length text) _) (hex_bytes text) bs e in
    (hex_exact text bs read, omega (arith, leb-true (length text) _ few, read_length text bs read))

pub remainder_small : (n : ℕ) → ltb (n % 256) 256 ≡ true
remainder_small n = lt-ltb (n % 256) 256 (mod-lt n (omega arith))

pub bytes_of_small : (n x : ℕ) → are_bytes (bytes_of n x) ≡ true
bytes_of_small zero x = refl
bytes_of_small (suc n) x = rw (remainder_small (x / 256 ^ n), bytes_of_small n x)

-- "Hardware exactly 12 digits."
pub hardware_printed : (own : HardwareAddress) → own.0 < 2 ^ 48 → hardware (hex_text (bytes_of 6 own.0)) ≡ Some own
unfolding hardware hex_text
hardware_printed own fits =
    rw (hex_printed (bytes_of 6 own.0) (bytes_of_small 6 own.0), number_bytes_fits 6 own.0 fits)

pub number_as_bytes : (n : ℕ) (bs : List ℕ) → are_bytes bs ≡ true → length bs ≡ n →
    (bytes_of n (number_of bs) ≡ bs) × (number_of bs < 256 ^ n)
number_as_bytes n bs small long =
    let whole = take_all n bs (omega arith) in
    (rw whole at (number_at_bytes n 0 bs small (omega arith)), rw whole at (number_at_lt n 0 bs small (omega arith)))

pub hardware_exact : (text : List ℕ) (own : HardwareAddress) → hardware text ≡ Some own →
    (text ≡ hex_text (bytes_of 6 own.0)) × (own.0 < 2 ^ 48)
unfolding hardware
hardware_exact text own e =
    let (twelve, made) = cond_some (eqb (length text) 12) _ own e in
    let (six, read, is) = then_some (hex_bytes text) _ own made in
    let same = ap (λ (address : HardwareAddress). address.0) (same_Some _ own is) in
    let (printed, small) = hex_exact text six read in
    let (again, fits) = number_as_bytes 6 six small (omega (arith, read_length text six read, eqb-true (length text) 12 twelve)) in
    (printed ∙ ap hex_text (sym again) ∙ ap (λ (n : ℕ). hex_text (bytes_of 6 n)) same, omega arith)
