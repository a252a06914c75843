-- Addresses as text.
use Prim.Native.Nat.{ℕ, ◌<◌, ◌≤◌, ◌^◌}
use mathlib.Core.Path.{◌≡◌, refl, sym, ap, ap₂, subst, ◌∙◌}
use mathlib.Core.Bool.{true, false, true≢false}
use mathlib.Core.List.{List, [], ◌∷◌, ◌++◌, map}
use Rattle.std.specs.Prelude.{None, Some}
use native.Mathlib.Omega.{arith}
use lib.Dec.{eqb, ltb, lit<, lit≤}
use lib.ListN.{length}
use lib.Pow.{are_bytes}
use borrow.Author.Tests.{lt-ltb, ltb-true, ne_eqb, eq-eqb, eqb-true}
use Rattle.basis.specs.Bytes.{bytes_of, number_of}
use Rattle.basis.specs.declared.Ipv4Address.{Ipv4Address}
use Rattle.std.proofs.lemmas.Bool.{and_parts}
use Rattle.basis.proofs.BytesLaws.{number_bytes_fits}
use Rattle.basis_lines.specs.Fields.{dot, parts}
use Rattle.basis_lines.specs.Numbers.{is_digit, are_digits, number, each, address, decimal}
use Rattle.basis_lines.proofs.ReadingLaws.{then_none, then_some, only_some}
use Rattle.basis_lines.proofs.PartLaws.{OneHas, first, later, byte_in_parts, joined, lacks, all_lack, joined_parts, parts_joined}
use Rattle.basis_lines.proofs.NumberLaws.{foreign_in_number, decimal_digits, number_printed, number_exact, number_at_most}
use Rattle.basis_lines.proofs.HexLaws.{bytes_of_small, number_as_bytes}

-- One number that has a foreign byte makes all of them none.
foreign_in_each : (b : ℕ) → is_digit b ≡ false → {ps : List (List ℕ)} → OneHas b ps → (most : ℕ) → each (number most) ps ≡ None
unfolding each
foreign_in_each b foreign (first front back ps) most = rw (foreign_in_number most front b back foreign)
foreign_in_each b foreign (later {p = p} has) most =
    then_none (number most p) _ (λ n. rw (foreign_in_each b foreign has most))

-- A byte that is neither a digit nor a dot, at any place, makes the text none.
pub foreign_in_address : (front : List ℕ) (b : ℕ) (back : List ℕ) → is_digit b ≡ false → eqb b dot ≡ false →
    address (front ++ (b ∷ back)) ≡ None
unfolding address
foreign_in_address front b back foreign other = rw (foreign_in_each b foreign (byte_in_parts dot front b back other))

-- Bytes as numbers parted by dots.
abbrev pub dotted : List ℕ → List ℕ
dotted bs = joined dot (map decimal bs)

-- Digits have no separator among them.
digits_lack : (separator : ℕ) → is_digit separator ≡ false → (text : List ℕ) → are_digits text ≡ true → lacks separator text ≡ true
unfolding are_digits
digits_lack separator other [] e = refl
digits_lack separator other (b ∷ text) e =
    let (digit, digits) = and_parts (is_digit b) (are_digits text) e in
    rw (
      ne_eqb b separator (λ same. true≢false (sym digit ∙ ap (λ (c : ℕ). is_digit c) same ∙ other)),
      digits_lack separator other text digits,
    )

pub all_lack_lem : (bs : List ℕ) → all_lack dot (map decimal bs) ≡ true
all_lack_lem [] = refl
all_lack_lem (b ∷ bs) = rw (digits_lack dot refl (decimal b) (decimal_digits b), all_lack_lem bs)

each_printed : (most : ℕ) → 255 ≤ most → most < 2 ^ 64 → (bs : List ℕ) → are_bytes bs ≡ true →
    each (number most) (map decimal bs) ≡ Some bs
unfolding each
each_printed most all fit [] small = refl
each_printed most all fit (b ∷ bs) small =
    let (fits, rest) = and_parts (ltb b 256) (are_bytes bs) small in
    rw (number_printed most b (omega (arith, ltb-true b 256 fits)) (omega arith), each_printed most all fit bs rest)

abbrev ArePrinted : List (List ℕ) → List ℕ → Type 0
ArePrinted ps bs = (ps ≡ map decimal bs) × (are_bytes bs ≡ true)

each_exact : (most : ℕ) → most < 256 → (ps : List (List ℕ)) (bs : List ℕ) → each (number most) ps ≡ Some bs → ArePrinted ps bs
unfolding each
each_exact most byte [] bs e = let is : [] ≡ bs = cc in subst (ArePrinted []) is (refl, refl)
each_exact most byte (p ∷ ps) bs e =
    let (b, read, e') = then_some (number most p) _ bs e in
    let (rest, read_rest, made) = then_some (each (number most) ps) _ bs e' in
    let is : b ∷ rest ≡ bs = cc in
    let (printed, small) = each_exact most byte ps rest read_rest in
    let fits = number_at_most most p b read in
    subst (ArePrinted (p ∷ ps)) is
    (ap₂ ◌∷◌ (number_exact most p b (omega arith) read) printed, rw (lt-ltb b 256 (omega arith)) small)

-- "Four such numbers up to 255, parted by dots."
pub address_of_four : (four : List ℕ) → are_bytes four ≡ true → length four ≡ 4 →
    address (dotted four) ≡ Some (record { 0 = number_of four })
unfolding address
address_of_four [] small count = absurd (omega arith)
address_of_four (b ∷ bs) small count =
    rw (
      parts_joined dot (decimal b) (map decimal bs) (all_lack_lem (b ∷ bs)),
      each_printed _ (lit≤ tt) (lit< tt) (b ∷ bs) small,
      eq-eqb (length (b ∷ bs)) 4 count,
    )

-- An address is read from its four bytes so printed, and from nothing else.
pub address_printed : (ip : Ipv4Address) → ip.0 < 2 ^ 32 → address (dotted (bytes_of 4 ip.0)) ≡ Some ip
address_printed ip fits =
    address_of_four (bytes_of 4 ip.0) (bytes_of_small 4 ip.0) refl
    ∙ ap (λ (n : ℕ). Some (record { 0 = n })) (number_bytes_fits 4 ip.0 fits)

pub address_exact : (text : List ℕ) (ip : Ipv4Address) → address text ≡ Some ip →
    (text ≡ dotted (bytes_of 4 ip.0)) × (ip.0 < 2 ^ 32)
unfolding address
address_exact text ip e =
    let (four, read, made) = then_some (each (number _) (parts dot text)) _ ip e in
    let (count, is) = only_some (eqb (length four) 4) (record { 0 = number_of four }) ip made in
    let same = ap (λ (address : Ipv4Address). address.0) is in
    let (printed, small) = each_exact _ (lit< tt) (parts dot text) four read in
    let (again, fits) = number_as_bytes 4 four small (eqb-true (length four) 4 count) in (
      sym (joined_parts dot text) ∙ ap (joined dot) printed ∙ ap dotted (sym again) ∙ ap (λ (n : ℕ). dotted (bytes_of 4 n)) same,
      omega arith,
    )
