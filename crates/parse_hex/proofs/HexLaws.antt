-- How what the inner functions promise makes up the definitions of the crate basis_lines: a law for each way that a function ends.
use Prim.Native.Nat.{ℕ, ◌+◌, ◌-◌, ◌*◌, ◌/◌, ◌%◌, ◌≤◌, ◌<◌}
use mathlib.Core.Path.{◌≡◌, refl, sym, ap, ap₂, ◌∙◌}
use mathlib.Core.List.{List, ◌++◌}
use mathlib.Core.Bool.{Bool, true, false, cond, and-false}
use Rattle.std.specs.Prelude.{None, Some, option_map}
use native.Mathlib.Omega.{arith}
use lib.ListN.{length, take, drop}
use lib.Seq.{take-take, take_all}
use Rattle.std.proofs.Common.{take-add}
use borrow.Author.Tests.{le-leb, lt-leb, eq-eqb, ne_eqb}
use Rattle.basis.specs.Bytes.{number_of}
use Rattle.basis.specs.Frame.{frame_length}
use Rattle.basis_lines.specs.Numbers.{hex_bytes, bytes, hardware}
use Rattle.parse_hex_digits.specs.HexText.{are_hex}
use Rattle.parse_hex.specs.HexValues.{pairs}
use Rattle.parse_hex.proofs.HexScan.{scanned, length_pairs, pair_at, pairs_from, pairs_first}

-- The loop has read each pair.
pub read_all : (text bytes : List ℕ) (i n : ℕ) → take i bytes ≡ take i (pairs text) → i ≡ n → n ≡ length text / 2 →
    take n bytes ≡ pairs text
read_all text bytes i n inv same e = rw same at inv ∙ take_all n (pairs text) (omega (arith, length_pairs text))

pub ruleset reads = (pair_at, read_all, length_pairs)

-- All bytes of a short text are its first 28.
pub short_done : (text head : List ℕ) (n : ℕ) → length text < 2 * frame_length → take n head ≡ pairs text →
    take n head ≡ take frame_length (pairs text)
short_done text head n short is = is ∙ sym (take_all frame_length (pairs text) (omega (arith, length_pairs text)))

-- Behind the bytes that were there, the 16 that were read of a part of the text and copied.
pub head_done : (text head bytes : List ℕ) (start end n : ℕ) → take start head ≡ take start (pairs text) → end ≡ 2 * (start + 16) →
    length bytes ≤ n → take n bytes ≡ pairs (take (end - 2 * start) (drop (2 * start) text)) →
    take start head ++ bytes ≡ take (start + 16) (pairs text)
head_done text head bytes start end n inv h all is =
    let part : end - 2 * start ≡ 2 * 16 = omega arith in
    ap₂ ◌++◌ inv
    (sym (take_all n bytes all)
    ∙ is
    ∙ rw (part, pairs_first 16 (drop (2 * start) text), pairs_from start text))
    ∙ sym (take-add start 16 (pairs text))

pub shorter : (head source : List ℕ) (n : ℕ) → take 16 head ≡ take 16 source → n ≤ 16 → take n head ≡ take n source
shorter head source n e h = sym (take-take n 16 head h) ∙ ap (take n) e ∙ take-take n 16 source h

-- Each way that `hardware` and `bytes` end. `all` is what the test of the whole text answered.
either : {A : Type 0} (a : A) (b : Bool) → cond b a a ≡ a
either a true = refl
either a false = refl

module _ (text : List ℕ) (e : hex_bytes text ≡ None) where
  no_hardware : None ≡ hardware text
  unfolding hardware
  no_hardware = rw (e, either)

  no_bytes : None ≡ option_map (take frame_length) (bytes text)
  unfolding bytes
  no_bytes = rw (e, either)

module _ (text : List ℕ) (all : Bool) (told : all ≡ are_hex text) where
  foreign : all ≡ false → hex_bytes text ≡ None
  foreign e = scanned text ∙ rw (sym told ∙ e)

  whole : length text % 2 ≡ 0 → all ≡ true → hex_bytes text ≡ Some (pairs text)
  whole even e = scanned text ∙ rw (sym told ∙ e, even)

  pub hardware_foreign : all ≡ false → None ≡ hardware text
  hardware_foreign e = no_hardware text (foreign e)

  pub hardware_read : length text ≡ 12 → all ≡ true → (n : ℕ) → n ≡ number_of (pairs text) →
      Some (record { 0 = n }) ≡ hardware text
  unfolding hardware
  hardware_read h e n is = rw (eq-eqb (length text) 12 h, whole (omega arith) e, is)

  pub bytes_foreign : all ≡ false → None ≡ option_map (take frame_length) (bytes text)
  bytes_foreign e = no_bytes text (foreign e)

  pub bytes_read : length text ≤ 3_000 → length text % 2 ≡ 0 → all ≡ true →
      (head : List ℕ) → head ≡ take frame_length (pairs text) → Some head ≡ option_map (take frame_length) (bytes text)
  unfolding bytes
  bytes_read h even e head is = rw (le-leb (length text) 3_000 h, whole even e, is)

module _ (text : List ℕ) where
  pub hardware_length : (length text ≡ 12 → ⊥) → None ≡ hardware text
  unfolding hardware
  hardware_length h = rw (ne_eqb (length text) 12 h)

  pub bytes_long : 3_000 < length text → None ≡ option_map (take frame_length) (bytes text)
  unfolding bytes
  bytes_long h = rw (lt-leb (length text) 3_000 h)

  pub bytes_odd : length text % 2 ≡ 1 → None ≡ option_map (take frame_length) (bytes text)
  bytes_odd h = no_bytes text (scanned text ∙ rw (h, and-false))

pub ruleset hardware_ends = (hardware_length, hardware_foreign, hardware_read)

pub ruleset bytes_ends = (bytes_long, bytes_odd, bytes_foreign, bytes_read)
