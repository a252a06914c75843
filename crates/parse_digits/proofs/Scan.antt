-- Digits read one after the other: a law for each way that a function of src/ goes on or ends.
use Rattle.std.proofs.Common.{ℕ, suc, ◌+◌, ◌-◌, ◌*◌, ◌<◌, ◌≤◌, min, ◌≡◌, refl, sym, ap, subst, ◌∙◌, Bool, true, false, true≢false, List, ◌∷◌, length, get_or, take, drop, arith, add-one, Some, length-take}
use Rattle.std.proofs.lemmas.Grind.{get_or_default_zero}
use native.Mathlib.Nat.{lt_of_lt_of_le, pow-succ', pow-le-pow_right}
use lib.ListN.{get_or-eq_default}
use lib.Seq.{drop-cons, get_or-take}
use lib.Dec.{ltb}
use borrow.Author.Tests.{ltb-true, ne_eqb}
use Rattle.std.proofs.lemmas.Bool.{and_parts}
use Rattle.basis_lines.specs.Fields.{first_part, only}
use Rattle.basis_lines.specs.Numbers.{is_digit, are_digits, value_after}
use Rattle.basis_lines.proofs.FieldLaws.{first_other}
use Rattle.basis_lines.proofs.NumberLaws.{digit_bounds}
use Rattle.parse_digits.specs.LeadingDigits.{appended, is_next_digit, number_after, Begins, Read}

-- The first part of a text goes on with a digit, which is no separator.
digit_first : (s b : ℕ) (text : List ℕ) → is_digit s ≡ false → is_digit b ≡ true → first_part s (b ∷ text) ≡ b ∷ first_part s text
digit_first s b text other digit =
    first_other s b text (ne_eqb b s (λ same. true≢false (sym digit ∙ ap (λ (c : ℕ). is_digit c) same ∙ other)))

-- The digits before a place: none, or one more.
module _ (text : List ℕ) where
  pub begins_none : Begins text 0 0
  begins_none =
      record { within = omega arith; small = omega arith; same_end = λ s other. omega arith; same_number = λ s other most. refl }

  module _ (value i : ℕ) (before : Begins text value i) (more : i < length text) where
    goes_on : (s : ℕ) → is_digit s ≡ false → is_digit (get_or text i 0) ≡ true
        → first_part s (drop i text) ≡ get_or text i 0 ∷ first_part s (drop (i + 1) text)
    goes_on s other digit =
        ap (first_part s) (drop-cons text i 0 more)
        ∙ digit_first s (get_or text i 0) (drop (suc i) text) other digit
        ∙ rw add-one refl

    begins_digit : is_digit (get_or text i 0) ≡ true → Begins text (appended value (get_or text i 0)) (i + 1)
    unfolding number_after are_digits value_after
    begins_digit digit =
        record {
          within = omega arith;
          small = rw (add-one, pow-succ') (omega (arith, digit_bounds (get_or text i 0) digit, before.small));
          same_end = λ s other. omega (arith, before.same_end s other, ap length (goes_on s other digit));
          same_number = λ s other most.
              before.same_number s other most ∙ ap (number_after most value) (goes_on s other digit) ∙ rw digit;
        }

-- Where the digits end: at a byte that is no such digit, at the text's end, or as many as are read.
no_digit : (value b : ℕ) → is_digit b ≡ false → is_next_digit value b ≡ false
no_digit value b e = rw e

no_byte : (text : List ℕ) (i value : ℕ) → length text ≤ i → is_next_digit value (get_or text i 0) ≡ false
no_byte text i value h = ap (λ (b : ℕ). is_next_digit value b) (get_or-eq_default text 0 h)

-- The loop: up to 19 digits, if the text has so many bytes.
module _ (text : List ℕ) (most value i : ℕ) (limit : most ≡ min (length text) 19) (before : Begins text value i) where
  pub read_19 : length (take most text) ≤ i → i ≤ length (take most text) → Read 19 text value most
  read_19 down up =
      let all : i ≡ most = omega (arith, length-take most text) in
      record {
        begins = subst (Begins text value) all before;
        at_most = omega arith;
        stops = λ few. no_byte text most value (omega arith);
      }

  module _ (more : i < length (take most text)) where
    few : i < 19
    few = omega (arith, length-take most text)

    here : get_or (take most text) i 0 ≡ get_or text i 0
    here = get_or-take most text i 0 (omega (arith, length-take most text))

    -- Behind less than 19 digits there is room for any other.
    pub room : value < 1_000_000_000_000_000_000
    room =
        let most_digits : i ≤ 18 = omega (arith, few) in
        lt_of_lt_of_le before.small (pow-le-pow_right {n = 10} (omega arith) most_digits)

    pub stops_19 : is_digit (get_or (take most text) i 0) ≡ false → Read 19 text value i
    stops_19 e =
        record {
          begins = before;
          at_most = omega (arith, few);
          stops = λ h. no_digit value (get_or text i 0) (ap is_digit (sym here) ∙ e);
        }

    pub goes_on_19 : is_digit (get_or (take most text) i 0) ≡ true
        → (digit : ℕ) → digit ≡ get_or (take most text) i 0 - 48 → Begins text (10 * value + digit) (i + 1)
    goes_on_19 e digit is =
        rw (is, here) (begins_digit text value i before (omega (arith, length-take most text)) (ap is_digit (sym here) ∙ e))

pub ruleset scanned = (begins_none, room, goes_on_19, stops_19, read_19)

-- With a twentieth digit.
only_some : (is : Bool) (a b : ℕ) → Some a ≡ only is b → (is ≡ true) × (a ≡ b)
only_some true a b e = (refl, cc)
only_some false a b e = cc

pub read_20 : (text : List ℕ) (value count new : ℕ) → Read 19 text value count → 19 ≤ count
    → (byte : ℕ) → true ≡ ltb 19 (length text) → byte ≡ get_or text 19 byte
    → Some new ≡ only (is_next_digit value byte) (appended value byte) → Read 20 text new 20
read_20 text value count new read all byte long found told =
    let more : 19 < length text = ltb-true 19 (length text) (sym long) in
    let is : byte ≡ get_or text 19 0 = found ∙ get_or_default_zero text 19 byte more in
    let is_19 : count ≡ 19 = omega (arith, read.at_most) in
    let next = only_some (is_next_digit value byte) new (appended value byte) told in
    record {
      begins = rw (next.1, is)
          (begins_digit text value 19 (subst (Begins text value) is_19 read.begins) more
          (ap is_digit (sym is) ∙ (and_parts (is_digit byte) _ next.0).0));
      at_most = omega arith;
      stops = λ few. absurd (omega arith);
    }
