-- The records of an input and the whole output: "One record a line, ended by byte 10." "Anything else, [..] an unended last line
-- included, is 14; a line that is too long is one record up to its byte 10 and gives one refusal." "Empty input gives empty
-- output."
use Rattle.std.specs.Prelude.{ℕ, cond, List, [], ◌∷◌, ◌++◌, eqb}
use Rattle.basis.specs.declared.Interface.{Interface}
use Rattle.basis_engine.specs.Interface.{zeros}
use Rattle.basis_lines.specs.Fields.{newline}
use Rattle.basis_lines.specs.Numbers.{is_empty}
use Rattle.basis_lines.specs.Answers.{Answered, malformed, line_answer}

-- A line that byte 10 ended, and what follows the last byte 10 if it is not empty (reading unended-line).
pub data Entry : Type 0 where
  ended : List ℕ → Entry
  unended : List ℕ → Entry

-- The records of an input, after the bytes of a line begun.
unfoldable pub records_after : List ℕ → List ℕ → List Entry
records_after begun [] = cond (is_empty begun) [] (unended begun ∷ [])
records_after begun (b ∷ input) =
    cond (eqb b newline) (ended begun ∷ records_after [] input) (records_after (begun ++ (b ∷ [])) input)

abbrev pub records : List ℕ → List Entry
records input = records_after [] input

abbrev pub entry_answer : Interface → Entry → Answered
entry_answer s (ended line) = line_answer s line
entry_answer s (unended line) = malformed s

-- The answers to records, in order, each with the state that the one before it left.
unfoldable pub answers : Interface → List Entry → List ℕ
answers s [] = []
answers s (entry ∷ later) = (entry_answer s entry).text ++ answers (entry_answer s entry).state later

-- The whole output for the whole input. "Before the first `fresh` is accepted the state is all zeros, so calls meet refusal 1."
unfoldable pub replay : List ℕ → List ℕ
replay input = answers zeros (records input)
