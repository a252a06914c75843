-- The digits that a text begins with, and the number that it stands for with more behind them.
use Rattle.std.specs.Prelude.{ℕ, ◌+◌, ◌-◌, ◌*◌, ◌^◌, ◌≤◌, ◌<◌, ◌≡◌, Bool, false, ◌&&◌, List, leb, length, get_or, drop, Option}
use Rattle.basis_lines.specs.Fields.{first_part, only}
use Rattle.basis_lines.specs.Numbers.{is_digit, are_digits, value_after, largest}

-- A value with a digit behind it; and whether a byte is a digit that keeps it within 64 bits.
abbrev pub appended : ℕ → ℕ → ℕ
appended value b = 10 * value + (b - 48)

abbrev pub is_next_digit : ℕ → ℕ → Bool
is_next_digit value b = is_digit b && leb (appended value b) largest

-- The number that digits stand for after those that stood for n, up to the largest allowed.
unfoldable pub number_after : ℕ → ℕ → List ℕ → Option ℕ
number_after most n text = only (are_digits text && leb (value_after n text) most) (value_after n text)

-- The first bytes of a text, `count` of them, are digits that stand for the value: whatever parts it, if that is no digit, its
-- first part goes on behind them.
pub record Begins (text : List ℕ) (value count : ℕ) : Type 0 where
  pub within : count ≤ length text
  pub small : value < 10 ^ count
  pub same_end : (separator : ℕ) → is_digit separator ≡ false →
      length (first_part separator text) ≡ count + length (first_part separator (drop count text))
  pub same_number : (separator : ℕ) → is_digit separator ≡ false → (most : ℕ) →
      number_after most 0 (first_part separator text) ≡ number_after most value (first_part separator (drop count text))

-- They are the most that are read, or the next byte is no digit that keeps the value within 64 bits.
pub record Read (limit : ℕ) (text : List ℕ) (value count : ℕ) : Type 0 where
  pub begins : Begins text value count
  pub at_most : count ≤ limit
  pub stops : count < limit → is_next_digit value (get_or text count 0) ≡ false
