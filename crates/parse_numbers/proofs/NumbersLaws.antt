-- The digits of a text as a number: a law for each way that a function of src/ ends.
use Prim.Native.Nat.{ℕ, zero, suc, ◌<◌, ◌≤◌}
use mathlib.Core.Path.{◌≡◌, refl, sym, ap, ◌∙◌}
use mathlib.Core.Bool.{Bool, true, false, not, ◌&&◌, and-true, and-false, true≢false}
use mathlib.Core.List.{List, [], ◌∷◌}
use Rattle.std.specs.Prelude.{Option, None, Some}
use mathlib.Core.Logic.{⊎_elim}
use native.Mathlib.Nat.{eq-or-lt_of_le}
use native.Mathlib.Omega.{arith}
use mir.Syntax.{w64}
use mir.Val.{Fits}
use lib.Dec.{eqb, leb, ltb}
use lib.ListN.{length, get_or, take, drop, drop_of_length-le}
use lib.Seq.{drop-cons}
use borrow.Author.Tests.{le-leb, lt-leb, leb-false, ltb-true, ltb-false}
use Rattle.std.proofs.lemmas.Bool.{and_parts}
use Rattle.basis_lines.specs.Fields.{tab, parts, first_part, only}
use Rattle.basis_lines.specs.Numbers.{is_digit, are_digits, is_empty, is_numeral, value_after, number, largest}
use Rattle.basis_lines.proofs.FieldLaws.{first_separator, first_other, first_take, first_length, one_part, separated}
use Rattle.basis_lines.proofs.NumberLaws.{foreign_in_number, number_exact, decimal_at_most, value_grows}
use Rattle.parse_digits.specs.LeadingDigits.{appended, is_next_digit, number_after, Read}
use Rattle.parse_numbers.specs.Numerals.{has_numeral_start, is_number, is_first_number}

-- The test of the first part's end as the code makes it.
module _ (text : List ℕ) (place s : ℕ) where
  pub byte_end : place < length text → eqb (get_or text place 0) s ≡ is_empty (first_part s (drop place text))
  byte_end more = go (eqb (get_or text place 0) s) refl
    where
      left : drop place text ≡ get_or text place 0 ∷ drop (suc place) text
      left = drop-cons text place 0 more

      go : (t : Bool) → eqb (get_or text place 0) s ≡ t → eqb (get_or text place 0) s ≡ is_empty (first_part s (drop place text))
      go true e = e ∙ sym (ap (λ l. is_empty (first_part s l)) left ∙ ap is_empty (first_separator s _ (drop (suc place) text) e))
      go false e = e ∙ sym (ap (λ l. is_empty (first_part s l)) left ∙ ap is_empty (first_other s _ (drop (suc place) text) e))

  pub text_end : length text ≤ place → true ≡ is_empty (first_part s (drop place text))
  unfolding parts
  text_end h = rw (drop_of_length-le text {i = place} h)

-- The test of the start as the code makes it.
pub short_start : (text : List ℕ) (count : ℕ) → count ≤ length text → count < 2 → eqb count 1 ≡ has_numeral_start (take count text)
short_start text zero h few = refl
short_start [] (suc zero) h few = absurd (omega arith)
short_start (b ∷ text) (suc zero) h few = refl
short_start text (suc (suc count)) h few = absurd (omega arith)

pub long_start : (text : List ℕ) (count : ℕ) → count ≤ length text → 2 ≤ count
    → not (eqb (get_or text 0 0) 48) ≡ has_numeral_start (take count text)
long_start text zero h more = absurd (omega arith)
long_start text (suc zero) h more = absurd (omega arith)
long_start [] (suc (suc count)) h more = absurd (omega arith)
long_start (b ∷ []) (suc (suc count)) h more = absurd (omega arith)
long_start (b ∷ c ∷ text) (suc (suc count)) h more = refl

-- The tests together.
module _ (text : List ℕ) (value count most : ℕ) where
  pub too_large : most < value → false ≡ is_number text value count most
  too_large h = rw (lt-leb value most h)

  pub small_enough : value ≤ most → (start : Bool) → start ≡ has_numeral_start (take count text) → start ≡ is_number text value count most
  small_enough h start told = rw (le-leb value most h) told

  module _ (s : ℕ) (is : Bool) (told : is ≡ is_number text value count most) where
    pub no_first : is ≡ false → false ≡ is_first_number text value count most s
    no_first e = rw (← told, e)

    pub first_if_end : is ≡ true → (end : Bool) → end ≡ is_empty (first_part s (drop count text))
        → end ≡ is_first_number text value count most s
    first_if_end e end ends = rw (← told, e) ends

-- A number by its start and its digits.
numeral : (text : List ℕ) → is_numeral text ≡ (are_digits text && has_numeral_start text)
unfolding are_digits
numeral [] = refl
numeral (b ∷ text) = refl

module _ (most : ℕ) (text : List ℕ) where
  no_numeral : has_numeral_start text ≡ false → number most text ≡ None
  unfolding number
  no_numeral e = rw (numeral text, e, and-false)

  numeral_number : has_numeral_start text ≡ true → number most text ≡ number_after most 0 text
  unfolding number number_after
  numeral_number e = rw (numeral text, e, and-true)

  -- No number has more than 20 digits.
  too_long : most ≤ largest → 20 < length text → number most text ≡ None
  too_long fits long = go (number most text) refl
    where
      go : (read : Option ℕ) → number most text ≡ read → number most text ≡ None
      go None e = e
      go (Some n) e = absurd (omega (arith, ap length (number_exact most text n fits e), decimal_at_most n))

-- A byte that is no digit, or one too many, makes it none.
next_none : (most value b : ℕ) (rest : List ℕ) → most ≤ largest → is_next_digit value b ≡ false → number_after most value (b ∷ rest) ≡ None
unfolding number_after are_digits value_after
next_none most value b rest fits stop = digit (is_digit b) refl
  where
    all : ℕ
    all = value_after (appended value b) rest

    over : largest < appended value b → leb all most ≡ false
    over k = lt-leb all most (omega (arith, value_grows (appended value b) rest, k))

    digit : (t : Bool) → is_digit b ≡ t → only ((is_digit b && are_digits rest) && leb all most) all ≡ None
    digit false k = rw k
    digit true k = rw (over (leb-false (appended value b) largest (rw k at stop)), and-false)

is_empty_lem : (text : List ℕ) → is_empty text ≡ true → text ≡ []
is_empty_lem [] e = refl
is_empty_lem (b ∷ text) e = absurd (true≢false (sym e))

-- A text and its first part.
module _ (s most : ℕ) (other : is_digit s ≡ false) (text : List ℕ) where
  pub separator_in_number : length (first_part s text) < length text → number most text ≡ None
  separator_in_number more = ap (number most) (separated s text more) ∙ foreign_in_number most (first_part s text) s _ other

  whole_part : length (first_part s text) ≡ length text → first_part s text ≡ text
  whole_part whole = ap (λ ps. get_or ps 0 []) (one_part s text whole)

  part_none : number most (first_part s text) ≡ None → number most text ≡ None
  part_none e =
      ⊎_elim (λ whole. ap (number most) (sym (whole_part whole)) ∙ e) separator_in_number (eq-or-lt_of_le (first_length s text))

-- The first part by the digits that are read of it.
module _ (s most : ℕ) (other : is_digit s ≡ false) (fits : Fits w64 most) (text : List ℕ) (value count : ℕ)
    (read : Read 20 text value count) where
  -- It ends behind them.
  module _ (end : is_empty (first_part s (drop count text)) ≡ true) where
    nothing_left : first_part s (drop count text) ≡ []
    nothing_left = is_empty_lem (first_part s (drop count text)) end

    part_length : count ≡ length (first_part s text)
    part_length = omega (arith, read.begins.same_end s other, ap length nothing_left)

    part_number : number most (first_part s text) ≡ only (is_number text value count most) value
    unfolding number_after are_digits value_after
    part_number = go (has_numeral_start (take count text)) refl
      where
        start : has_numeral_start (first_part s text) ≡ has_numeral_start (take count text)
        start = ap has_numeral_start (first_take s text ∙ ap (λ k. take k text) (sym part_length))

        go : (t : Bool) → has_numeral_start (take count text) ≡ t
            → number most (first_part s text) ≡ only (is_number text value count most) value
        go false e =
            no_numeral most (first_part s text) (start ∙ e)
            ∙ sym (ap (λ t. only (leb value most && t) value) e ∙ ap (λ t. only t value) (and-false (leb value most)))
        go true e =
            numeral_number most (first_part s text) (start ∙ e)
            ∙ read.begins.same_number s other most
            ∙ ap (number_after most value) nothing_left
            ∙ sym (ap (λ t. only (leb value most && t) value) e ∙ ap (λ t. only t value) (and-true (leb value most)))

  -- It goes on.
  more_none : is_empty (first_part s (drop count text)) ≡ false → number most (first_part s text) ≡ None
  more_none more = by_count (ltb count 20) refl
    where
      inside : count < length text
      inside = by (ltb count (length text)) refl
        where
          by : (t : Bool) → ltb count (length text) ≡ t → count < length text
          by true e = ltb-true count (length text) e
          by false e = absurd (true≢false (text_end text count s (ltb-false count (length text) e) ∙ more))

      left : first_part s (drop count text) ≡ get_or text count 0 ∷ first_part s (drop (suc count) text)
      left =
          ap (first_part s) (drop-cons text count 0 inside)
          ∙ first_other s (get_or text count 0) (drop (suc count) text) (byte_end text count s inside ∙ more)

      by_start : is_next_digit value (get_or text count 0) ≡ false → (t : Bool) → has_numeral_start (first_part s text) ≡ t
          → number most (first_part s text) ≡ None
      by_start stop false e = no_numeral most (first_part s text) e
      by_start stop true e =
          numeral_number most (first_part s text) e
          ∙ read.begins.same_number s other most
          ∙ ap (number_after most value) left
          ∙ next_none most value (get_or text count 0) (first_part s (drop (suc count) text)) (omega (arith, fits.fits)) stop

      by_count : (t : Bool) → ltb count 20 ≡ t → number most (first_part s text) ≡ None
      by_count true e = by_start (read.stops (ltb-true count 20 e)) (has_numeral_start (first_part s text)) refl
      by_count false e =
          too_long most (first_part s text) (omega (arith, fits.fits))
          (omega (arith, ltb-false count 20 e, read.begins.same_end s other, ap length left))

  -- What the tests say of it.
  module _ (is : Bool) (told : is ≡ is_first_number text value count most s) where
    both : is ≡ true → (is_number text value count most ≡ true) × (is_empty (first_part s (drop count text)) ≡ true)
    both e = and_parts (is_number text value count most) _ (sym told ∙ e)

    pub first_read : is ≡ true → Some value ≡ number most (first_part s text)
    first_read e = sym (part_number (both e).1 ∙ ap (λ t. only t value) (both e).0)

    pub first_length_read : is ≡ true → count ≡ length (first_part s text)
    first_length_read e = part_length (both e).1

    pub first_refused : is ≡ false → None ≡ number most (first_part s text)
    first_refused e = sym (go (is_empty (first_part s (drop count text))) refl)
      where
        go : (t : Bool) → is_empty (first_part s (drop count text)) ≡ t → number most (first_part s text) ≡ None
        go true end =
            part_number end
            ∙ ap (λ t. only t value)
            (sym (ap (λ t. is_number text value count most && t) end ∙ and-true (is_number text value count most)) ∙ sym told ∙ e)
        go false more = more_none more

-- All of a text, as its part before the first tab: there is none in a number.
module _ (most : ℕ) (fits : Fits w64 most) (text : List ℕ) (value count : ℕ) (read : Read 20 text value count) where
  pub more_read : count < length text → None ≡ number most text
  more_read more = sym (go (is_empty (first_part tab (drop count text))) refl)
    where
      go : (t : Bool) → is_empty (first_part tab (drop count text)) ≡ t → number most text ≡ None
      go true end = separator_in_number tab most refl text (omega (arith, part_length tab most refl fits text value count read end))
      go false on = part_none tab most refl text (more_none tab most refl fits text value count read on)

  module _ (all : length text ≤ count) (is : Bool) (told : is ≡ is_number text value count most) where
    whole : number most text ≡ only is value
    whole =
        let end = sym (text_end text count tab all) in
        let place = part_length tab most refl fits text value count read end in
        ap (number most) (sym (whole_part tab most refl text (omega (arith, read.begins.within, place))))
        ∙ part_number tab most refl fits text value count read end
        ∙ ap (λ t. only t value) (sym told)

    pub whole_read : is ≡ true → Some value ≡ number most text
    whole_read e = sym (whole ∙ ap (λ t. only t value) e)

    pub whole_refused : is ≡ false → None ≡ number most text
    whole_refused e = sym (whole ∙ ap (λ t. only t value) e)

-- Each way that a function ends.
pub ruleset end_ends = (byte_end, text_end)

pub ruleset start_ends = (short_start, long_start)

pub ruleset number_ends = (too_large, small_enough)

pub ruleset first_ends = (no_first, first_if_end)

pub ruleset first_number_ends = (first_read, first_length_read, first_refused)

pub ruleset whole_ends = (more_read, whole_read, whole_refused)
