-- The octets of an address read one after the other: a law for each way that `address` goes on or ends.
use Prim.Native.Nat.{ℕ, suc, ◌+◌, ◌<◌, ◌≤◌}
use mathlib.Core.Path.{◌≡◌, refl, ap, ap₂, sym, ◌∙◌}
use mathlib.Core.Bool.{Bool, true, false}
use mathlib.Core.List.{List, [], ◌∷◌, ◌++◌, append_assoc}
use Rattle.std.specs.Prelude.{Option, None, Some, option_map}
use Rattle.std.specs.Int.{from_be_bytes}
use Rattle.std.proofs.Common.{append-nil, length-append}
use Rattle.std.proofs.Math.Seq.{take_all}
use Rattle.std.proofs.lemmas.List.{set-append_right}
use native.Mathlib.Omega.{arith}
use mir.Syntax.{w8, w32}
use mir.Val.{Fits}
use lib.Dec.{ltb}
use lib.ListN.{length, take, drop, set}
use borrow.Author.Tests.{ne_eqb, ltb-true, ltb-false}
use Rattle.basis.specs.Bytes.{number_of}
use Rattle.basis.proofs.BytesLaws.{elements, part_elements}
use Rattle.basis_lines.specs.Fields.{dot, parts, first_part, ◌then◌}
use Rattle.basis_lines.specs.Numbers.{number, each, address, decimal}
use Rattle.basis_lines.proofs.FieldLaws.{first_of_parts, first_length, one_part, more_parts}
use Rattle.basis_lines.proofs.PartLaws.{joined, parts_joined}
use Rattle.basis_lines.proofs.NumberLaws.{number_exact, number_at_most}
use Rattle.basis_lines.proofs.AddressLaws.{all_lack_lem}
use Rattle.parse_numbers.specs.declared.Digits.{Digits}
use Rattle.parse_addresses.specs.Dotted.{completed, address_after}

-- Before the first octet.
pub begins : (text : List ℕ) → address text ≡ address_after [] (parts dot text)
unfolding address address_after
begins text = refl

-- An octet more.
module _ (octets text : List ℕ) (texts : List (List ℕ)) where
  refused : number 255 text ≡ None → address_after octets (text ∷ texts) ≡ None
  unfolding address_after each
  refused e = rw e

  taken : (n : ℕ) → number 255 text ≡ Some n → address_after octets (text ∷ texts) ≡ address_after (octets ++ (n ∷ [])) texts
  unfolding address_after each
  taken n e = rw e (go (each (number 255) texts))
    where
      go : (read : Option (List ℕ))
          → ((read then λ ns. Some (n ∷ ns)) then completed octets) ≡ (read then completed (octets ++ (n ∷ [])))
      go None = refl
      go (Some bytes) = rw (append_assoc octets (n ∷ []) bytes) refl

-- Texts that are not four in all make no address; four octets do.
not_four : (octets : List ℕ) (texts : List (List ℕ)) → (length octets + length texts ≡ 4 → ⊥) → address_after octets texts ≡ None
unfolding address_after each
not_four octets [] h = rw (append-nil octets, ne_eqb (length octets) 4 (λ k. h (omega (arith, k))))
not_four octets (text ∷ texts) h = go (number 255 text) refl (λ v k. not_four (octets ++ (v ∷ [])) texts k)
  where
    go : (read : Option ℕ) → number 255 text ≡ read
        → ((v : ℕ) → (length (octets ++ (v ∷ [])) + length texts ≡ 4 → ⊥) → address_after (octets ++ (v ∷ [])) texts ≡ None)
        → address_after octets (text ∷ texts) ≡ None
    go None e rest = refused octets text texts e
    go (Some n) e rest = taken octets text texts n e ∙ rest n (λ k. h (omega (arith, k, length-append octets (n ∷ []))))

four : (octets : List ℕ) → length octets ≡ 4 → {value : ℕ} → number_of octets ≡ value
    → address_after octets [] ≡ Some (record { 0 = value })
unfolding address_after each
four octets h is = rw (append-nil octets, h, is)

-- A number read has no dot.
number_one_part : (n : ℕ) (text : List ℕ) → number 255 text ≡ Some n → parts dot text ≡ text ∷ []
unfolding joined
number_one_part n text read = rw (number_exact 255 text n (omega arith) read) (parts_joined dot (decimal n) [] (all_lack_lem (n ∷ [])))

-- What the readers read is a byte.
pub number_fits : (reading : Option ℕ) (text : List ℕ) → reading ≡ number 255 text → (n : ℕ) → reading ≡ Some n → Fits w8 n
number_fits reading text read n is = record { fits = omega (arith, number_at_most 255 text n (sym read ∙ is)) }

-- The loop: the octets before the index are read, and `rest` is what is not read yet.
module _ (text octets rest : List ℕ) (left : address text ≡ address_after octets (parts dot rest)) where
  -- Before the last octet: its first part, and behind its dot what is left.
  module _ (first : Option Digits) (read : option_map (λ f. f.value) first ≡ number 255 (first_part dot rest)) where
    pub part_malformed : first ≡ None → None ≡ address text
    part_malformed e =
        sym
        (left
        ∙ ap (address_after octets) (first_of_parts dot rest)
        ∙ refused octets (first_part dot rest) (drop 1 (parts dot rest)) (sym read ∙ ap (option_map (λ f. f.value)) e))

    module _ (f : Digits) (is : first ≡ Some f) where
      is_read : number 255 (first_part dot rest) ≡ Some f.value
      is_read = sym read ∙ ap (option_map (λ f. f.value)) is

      pub part_fits : Fits w8 f.value
      part_fits = number_fits (Some f.value) (first_part dot rest) (sym is_read) f.value refl

      module _ (ends : f.count ≡ length (first_part dot rest)) where
        pub part_last : length rest ≤ f.count → length octets < 3 → None ≡ address text
        part_last all h =
            sym
            (left
            ∙ ap (address_after octets) (one_part dot rest (omega (arith, first_length dot rest, ends, all)))
            ∙ not_four octets (rest ∷ []) (λ k. omega (arith, k)))

        pub part_number : f.count < length rest → (behind : List ℕ) → behind ≡ drop (suc f.count) rest
            → (new : List ℕ) → new ≡ octets ++ (f.value ∷ []) → address text ≡ address_after new (parts dot behind)
        part_number more behind cut new made =
            left
            ∙ ap (address_after octets) (more_parts dot rest (omega (arith, ends, more)))
            ∙ taken octets (first_part dot rest) _ f.value is_read
            ∙ ap₂ (λ bs t. address_after bs (parts dot t)) (sym made) (ap (λ k. drop (suc k) rest) (sym ends) ∙ sym cut)

  -- The last octet.
  module _ (last : length octets ≡ 3) (reading : Option ℕ) (read : reading ≡ number 255 rest) where
    pub last_malformed : reading ≡ None → None ≡ address text
    last_malformed e = sym (left ∙ go (ltb (length (first_part dot rest)) (length rest)) refl)
      where
        go : (more : Bool) → ltb (length (first_part dot rest)) (length rest) ≡ more → address_after octets (parts dot rest) ≡ None
        go true k =
            let after : List ℕ = drop (suc (length (first_part dot rest))) rest in
            ap (address_after octets)
            (more_parts dot rest (ltb-true (length (first_part dot rest)) (length rest) k)
            ∙ ap (λ l. first_part dot rest ∷ l) (first_of_parts dot after))
            ∙ not_four octets (first_part dot rest ∷ first_part dot after ∷ drop 1 (parts dot after)) (λ l. omega (arith, l))
        go false k =
            ap (address_after octets)
            (one_part dot rest (omega (arith, first_length dot rest, ltb-false (length (first_part dot rest)) (length rest) k)))
            ∙ refused octets rest [] (sym read ∙ e)

    pub last_number : (n : ℕ) → reading ≡ Some n → (value : ℕ) → value ≡ number_of (octets ++ (n ∷ []))
        → Some (record { 0 = value }) ≡ address text
    last_number n e value made =
        let is : number 255 rest ≡ Some n = sym read ∙ e in
        sym
        (left
        ∙ ap (address_after octets) (number_one_part n rest is)
        ∙ taken octets rest [] n is
        ∙ four (octets ++ (n ∷ [])) (omega (arith, length-append octets (n ∷ []))) (sym made))

-- Four octets, the last behind the others, as std's `from_be_bytes` reads them.
number_of_four : (octets : List ℕ) → length octets ≡ 4 → from_be_bytes w32 octets ≡ number_of octets
number_of_four octets h =
    let bytes : take 4 octets ≡ elements 4 0 octets = part_elements 4 0 octets (omega arith) in
    let whole : take 4 octets ≡ octets = take_all 4 octets (omega arith) in
    let numbers : from_be_bytes w32 octets ≡ number_of (elements 4 0 octets) = omega arith in
    numbers ∙ ap number_of (sym bytes ∙ whole)

pub last_behind : (octets : List ℕ) → length octets ≡ 3 → (i : ℕ) → 3 ≤ i → (n : ℕ)
    → from_be_bytes w32 (set (octets ++ (0 ∷ [])) 3 n) ≡ number_of (take i octets ++ (n ∷ []))
last_behind octets h i all n =
    rw (set-append_right octets (0 ∷ []) 3 3 n h (omega arith), take_all i octets (omega arith))
    (number_of_four (octets ++ (n ∷ [])) (omega (arith, length-append octets (n ∷ []))))

pub ruleset read_ends = (begins, part_malformed, last_malformed)
