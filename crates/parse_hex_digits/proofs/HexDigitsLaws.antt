-- How what the inner functions promise makes up `are_hex`: a law for each way that a function ends.
use Rattle.std.proofs.Common.{◌≡◌, ℕ, ◌+◌, ◌-◌, ◌≤◌, Bool, true, false, ◌&&◌, List, [], ◌∷◌, ◌++◌, length, take, drop, fold, zero, suc, ◌*◌, ◌/◌, sym, refl, ap, ◌∙◌, ap₂, arith, take-append-drop, take-add}
use mathlib.Core.Bool.{and-true, and_assoc}
use Rattle.std.specs.Simd.{first_chunks}
use Rattle.parse_hex_digits.specs.HexText.{is_hex, are_hex}

-- Two runs of digits, one behind the other.
hex_both : (first second : List ℕ) → are_hex (first ++ second) ≡ (are_hex first && are_hex second)
unfolding are_hex
hex_both [] second = refl
hex_both (b ∷ first) second = rw (hex_both first second, and_assoc)

-- `run_is_hex`: a digit more.
pub fold_hex : (all : Bool) (run : List ℕ) → fold (λ (a : Bool) (b : ℕ). a && is_hex b) all run ≡ (all && are_hex run)
unfolding are_hex
fold_hex all [] = sym (and-true all)
fold_hex all (b ∷ run) = fold_hex (all && is_hex b) run ∙ and_assoc all (is_hex b) (are_hex run)

-- `are_hex`: a run of 32 more. The last run may begin within the one before.
fold_runs : (all : Bool) (k : ℕ) (text : List ℕ)
    → fold (λ (a : Bool) (run : List ℕ). a && are_hex run) all (first_chunks 32 k text) ≡ (all && are_hex (take (k * 32) text))
unfolding are_hex
fold_runs all zero text = sym (and-true all)
fold_runs all (suc k) text =
    let more : 32 + k * 32 ≡ suc k * 32 = omega arith in
    fold_runs (all && are_hex (take 32 text)) k (drop 32 text)
    ∙ and_assoc all (are_hex (take 32 text)) (are_hex (take (k * 32) (drop 32 text)))
    ∙ ap (λ t. all && t)
    (sym (hex_both (take 32 text) (take (k * 32) (drop 32 text)))
    ∙ ap are_hex (sym (take-add 32 (k * 32) text) ∙ ap (λ n. take n text) more))

overlap : (first second : List ℕ) (n : ℕ) → (are_hex (first ++ take n second) && are_hex second) ≡ are_hex (first ++ second)
overlap first second n =
    rw (hex_both first (take n second), hex_both first second)
    (twice (are_hex first) (are_hex (take n second)) (are_hex (drop n second)) (are_hex second)
    (ap are_hex (sym (take-append-drop n second)) ∙ hex_both (take n second) (drop n second)))
  where
    twice : (a b c bc : Bool) → bc ≡ (b && c) → ((a && b) && bc) ≡ (a && bc)
    twice true true c bc e = refl
    twice true false c bc e = sym e
    twice false b c bc e = refl

pub runs_whole : (text : List ℕ) (all seen : Bool) → 32 ≤ length text
    → all ≡ fold (λ (a : Bool) (run : List ℕ). a && are_hex run) true (first_chunks 32 (length text / 32) text)
    → seen ≡ are_hex (drop (length text - 32) text) → (all && seen) ≡ are_hex text
runs_whole text all seen long told is =
    let start : ℕ = length text - 32 in
    let more : length text / 32 * 32 ≡ start + (length text / 32 * 32 - start) = omega arith in
    ap₂ ◌&&◌
    (told
    ∙ fold_runs true (length text / 32) text
    ∙ ap are_hex (ap (λ n. take n text) more ∙ take-add start (length text / 32 * 32 - start) text))
    is
    ∙ overlap (take start text) (drop start text) (length text / 32 * 32 - start)
    ∙ ap are_hex (take-append-drop start text)
