-- The number that bytes stand for, as std's `from_be_bytes` reads it behind zeros.
use Rattle.std.proofs.Common.{◌≡◌, ℕ, zero, suc, ◌-◌, ◌^◌, ◌<◌, ◌≤◌, List, [], ◌∷◌, ◌++◌, length, take, drop, append-nil, ◌+◌, sym, ap, ◌∙◌, refl, arith, Fits, w8, w64, length-append, get_or}
use Rattle.std.proofs.Math.ListN.{replicate, length-replicate}
use Rattle.std.proofs.Math.Arith.{digits_lt}
use Rattle.std.proofs.Math.Nat.{pow-succ'}
use Rattle.std.proofs.Math.Seq.{take_all, drop-drop}
use Rattle.std.proofs.lemmas.List.{take-replicate}
use Rattle.std.specs.Int.{from_be_bytes}
use Rattle.basis.specs.Bytes.{number_of}
use Rattle.basis.proofs.BytesLaws.{elements, part_elements}

pub number_below : (bytes : List ℕ) → ((i : ℕ) → Fits w8 (get_or bytes i 0)) → number_of bytes < 256 ^ length bytes
number_below [] small = omega arith
number_below (b ∷ bytes) small =
    let first = small 0 in rw pow-succ' (digits_lt (omega arith) (number_below bytes (λ i. small (suc i))))

number_behind_zeros : (n : ℕ) (bytes : List ℕ) → number_of (replicate n 0 ++ bytes) ≡ number_of bytes
number_behind_zeros zero bytes = refl
number_behind_zeros (suc n) bytes = omega (arith, number_behind_zeros n bytes)

number_of_eight : (bytes : List ℕ) → length bytes ≡ 8 → from_be_bytes w64 bytes ≡ number_of bytes
number_of_eight bytes h =
    let parts : take 8 bytes ≡ elements 8 0 bytes = part_elements 8 0 bytes (omega arith) in
    let whole : take 8 bytes ≡ bytes = take_all 8 bytes (omega arith) in
    let numbers : from_be_bytes w64 bytes ≡ number_of (elements 8 0 bytes) = omega arith in
    numbers ∙ ap number_of (sym parts ∙ whole)

-- Eight zeros, with these bytes in the place of the last ones.
abbrev pub zeros : List ℕ
zeros = replicate 8 0

pub number_of_last : (bytes : List ℕ) → length bytes ≤ 8 → (k : ℕ) → k ≡ 8 - length bytes → (last : List ℕ) → last ≡ bytes →
    from_be_bytes w64 (take k zeros ++ (last ++ drop (8 - k) (drop k zeros))) ≡ number_of bytes
number_of_last bytes h k kᵉ last e =
    let full : k + (8 - k) ≡ 8 = omega arith in
    rw (e, drop-drop, full, append-nil bytes, take-replicate {X = ℕ} k 8 0 (omega arith))
    (number_of_eight (replicate k 0 ++ bytes) (simp (length-append, length-replicate) (omega arith))
    ∙ number_behind_zeros k bytes)
