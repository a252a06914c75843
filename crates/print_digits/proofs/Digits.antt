-- Laws of printed numbers: how many digits there are; and of hex, put byte by byte.
use Rattle.std.proofs.Common.{◌≡◌, ℕ, zero, suc, ◌+◌, ◌-◌, ◌*◌, ◌/◌, ◌^◌, ◌<◌, ◌≤◌, List, [], ◌∷◌, ◌++◌, length, get_or, take, drop, refl, sym, ap, ◌∙◌, arith, length-append, length-take}
use native.Mathlib.Nat.{pow-suc}
use borrow.Author.Tests.{lt-ltb, le-ltb}
use Rattle.std.specs.Fmt as Fmt
use Rattle.std.proofs.lemmas.Fmt.{decimal_digit, decimal_step, length-decimal-le, decimal_from_appends}
use Rattle.basis_lines.specs.Numbers.{last_digits, decimal, hex_text}
use Rattle.basis_lines.specs.Answers.{written}
use borrow.Rule.Slice.PartMut.{put_mid}
use Rattle.std.proofs.lemmas.Grind.{common_steps}
use Rattle.std.proofs.lemmas.List.{take_more}
use Rattle.basis_lines.proofs.HexLaws.{hex_length}

-- As many as the power of ten says.
pub power_digits : (k n : ℕ) → 10 ^ k ≤ n → n < 10 * 10 ^ k → n < 2 ^ 64 → k + 1 ≡ length (Fmt.decimal n)
power_digits zero n low high h = rw (decimal_digit n high)
power_digits (suc k) n low high h =
    let low : 10 ^ k * 10 ≤ n = rw pow-suc at low in
    let high : n < 10 * (10 ^ k * 10) = rw pow-suc at high in
    let tenth = power_digits k (n / 10) (omega arith) (omega arith) (omega arith) in
    omega (arith, ap length (decimal_step n (omega arith) h), length-append {A = ℕ})

-- The library prints the same digits.
pub same_decimal : (n : ℕ) → n < 2 ^ 64 → Fmt.decimal n ≡ decimal n
unfolding last_digits
same_decimal n h =
    sym
    (decimal_from_appends
    last_digits
    (record { one = λ k m e. rw (lt-ltb m 10 e); more = λ k m e. rw (le-ltb m 10 e) })
    20
    n
    h
    (length-decimal-le 20 n (omega arith) (omega arith) h))

-- Put so that they end where they are as many as the bytes before.
pub decimal_written : (n start end : ℕ) (old new : List ℕ) → n < 2 ^ 64 → end ≡ length (Fmt.decimal n) →
    start + length (Fmt.decimal n) ≡ end → drop start new ≡ Fmt.decimal n ++ drop end old → new ≡ written (decimal n) old
decimal_written n start end old new h e f told =
    let none : start ≡ 0 = omega arith in
    ap (λ (k : ℕ). drop k new) (sym none)
    ∙ told
    ∙ ap (λ (k : ℕ). Fmt.decimal n ++ drop k old) e
    ∙ ap (λ (t : List ℕ). written t old) (same_decimal n h)

-- The text of bytes behind others.
hex_append : (xs ys : List ℕ) → hex_text (xs ++ ys) ≡ hex_text xs ++ hex_text ys
unfolding hex_text
hex_append [] ys = refl
hex_append (x ∷ xs) ys = rw (hex_append xs ys) refl

-- A text put behind another.
pub part_written : (a b old : List ℕ) → length a + length b ≤ length old → let before = written a old in let room = length before - length a in
    put_mid (length a) room before (written b (take room (drop (length a) before))) ≡ written (a ++ b) old
part_written a b old fits = grind (arith, common_steps)

-- Put behind those of the bytes before it.
pub byte_put : (bytes old mid part : List ℕ) (i len : ℕ) → i < length bytes → 2 * length bytes ≤ length old → len ≡ 2 * i →
    mid ≡ written (hex_text (take i bytes)) old →
    part ≡ written (hex_text (get_or bytes i 0 ∷ [])) (take (length mid - len) (drop len mid)) →
    put_mid len (length mid - len) mid part ≡ written (hex_text (take (i + 1) bytes)) old
byte_put bytes old mid part i len h room at before put =
    let byte = get_or bytes i 0 ∷ [] in
    let long = hex_length (take i bytes) in
    let is : len ≡ length (hex_text (take i bytes)) = omega (arith, length-take i bytes) in
    rw (put, before, is, take_more bytes i 0 h, hex_append (take i bytes) byte)
    (part_written (hex_text (take i bytes)) (hex_text byte) old (omega (arith, hex_length byte, length-take i bytes)))

pub ruleset hex_ends = (hex_length, byte_put)
