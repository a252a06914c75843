-- The records of an input, line by line: its first line is its first part, as byte 10 parts them.
use Prim.Native.Nat.{ℕ, suc, ◌<◌}
use mathlib.Core.Path.{◌≡◌, refl, ap, ◌∙◌}
use mathlib.Core.Bool.{Bool, true, false}
use mathlib.Core.List.{List, [], ◌∷◌, ◌++◌, append-nil}
use native.Mathlib.Omega.{arith}
use lib.Dec.{eqb}
use borrow.Author.Tests.{eqb-true, lt-leb}
use lib.ListN.{length, drop}
use lib.Seq.{append_snoc}
use Rattle.basis.specs.declared.Interface.{Interface}
use Rattle.basis_lines.specs.Fields.{newline, first_part}
use Rattle.basis_lines.specs.Forms.{longest_line, call_of}
use Rattle.basis_lines.specs.Answers.{malformed, line_answer}
use Rattle.basis_lines.specs.Records.{records_after, records, answers}
use Rattle.basis_lines.proofs.FieldLaws.{first_separator, first_other}

-- What reads an input after the bytes of a line begun, and counts as begun every byte but byte 10, reads line by line.
module _
    {A : Type 0} (read : List ℕ → List ℕ → A)
    (on : (begun : List ℕ) (b : ℕ) (input : List ℕ) → eqb b newline ≡ false
    → read begun (b ∷ input) ≡ read (begun ++ (b ∷ [])) input)
  where
    Line : List ℕ → List ℕ → Type 0
    Line begun input =
        length (first_part newline input) < length input →
        read begun input ≡ read (begun ++ first_part newline input) (newline ∷ drop (suc (length (first_part newline input))) input)

    line_after : (begun input : List ℕ) → Line begun input
    unfolding Line
    line_after begun [] h = absurd (omega arith)
    line_after begun (b ∷ input) h = cases (eqb b newline) refl (line_after (begun ++ (b ∷ [])) input)
      where
        cases : (t : Bool) → eqb b newline ≡ t → Line (begun ++ (b ∷ [])) input →
            read begun (b ∷ input)
            ≡ read (begun ++ first_part newline (b ∷ input)) (newline ∷ drop (length (first_part newline (b ∷ input))) input)
        cases true e later = rw (first_separator newline b input e, append-nil begun, eqb-true b newline e)
        cases false e later =
            rw (first_other newline b input e, ← append_snoc begun b (first_part newline input))
            (on begun b input e ∙ later (omega (arith, ap length (first_other newline b input e))))

    Last : List ℕ → List ℕ → Type 0
    Last begun input = length (first_part newline input) ≡ length input → read begun input ≡ read (begun ++ input) []

    last_after : (begun input : List ℕ) → Last begun input
    unfolding Last
    last_after begun [] h = rw append-nil
    last_after begun (b ∷ input) h = cases (eqb b newline) refl (last_after (begun ++ (b ∷ [])) input)
      where
        cases : (t : Bool) → eqb b newline ≡ t → Last (begun ++ (b ∷ [])) input →
            read begun (b ∷ input) ≡ read (begun ++ b ∷ input) []
        cases true e later = absurd (omega (arith, ap length (first_separator newline b input e)))
        cases false e later =
            rw (← append_snoc begun b input)
            (on begun b input e ∙ later (omega (arith, ap length (first_other newline b input e))))

    pub by_line : (input : List ℕ) → length (first_part newline input) < length input →
        read [] input ≡ read (first_part newline input) (newline ∷ drop (suc (length (first_part newline input))) input)
    unfolding Line
    by_line input h = line_after [] input h

    pub by_end : (input : List ℕ) → length (first_part newline input) ≡ length input → read [] input ≡ read input []
    unfolding Last
    by_end input h = last_after [] input h

records_on : (begun : List ℕ) (b : ℕ) (input : List ℕ) → eqb b newline ≡ false →
    records_after begun (b ∷ input) ≡ records_after (begun ++ (b ∷ [])) input
unfolding records_after
records_on begun b input e = rw e

-- "One record a line, ended by byte 10."
pub answers_line : (s : Interface) (input : List ℕ) → length (first_part newline input) < length input →
    answers s (records input)
    ≡ (line_answer s (first_part newline input)).text
    ++ answers (line_answer s (first_part newline input)).state (records (drop (suc (length (first_part newline input))) input))
unfolding records_after answers
answers_line s input h = ap (answers s) (by_line records_after records_on input h)

-- "An unended last line" is 14.
pub answers_unended : (s : Interface) (b : ℕ) (input : List ℕ) → length (first_part newline (b ∷ input)) ≡ length (b ∷ input) →
    answers s (records (b ∷ input)) ≡ (malformed s).text
unfolding records_after answers
answers_unended s b input h =
    ap (answers s) (by_end records_after records_on (b ∷ input) h) ∙ append-nil (malformed s).text

-- "Empty input gives empty output", and so nothing follows a last byte 10.
pub answers_empty : (s : Interface) → answers s (records []) ≡ []
unfolding records_after answers
answers_empty s = refl

-- "A line that is too long" gives one refusal.
pub too_long_refused : (s : Interface) (line : List ℕ) → 4_096 < length line → line_answer s line ≡ malformed s
unfolding line_answer call_of
too_long_refused s line h = rw (lt-leb (length line) longest_line (omega arith))
