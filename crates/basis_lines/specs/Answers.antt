-- "Output per line: `refused` and the number, or `ok`, kind, slot, next deadline, frame in hex, with `-` for none."
use Rattle.std.specs.Prelude.{ℕ, Bool, List, [], ◌∷◌, ◌++◌, leb, length, drop, Option, None, Some}
use Rattle.basis.specs.Answers.{Report, refused, accepted, Accepted, kind_word, refusal_number}
use Rattle.basis.specs.Frame.{frame_bytes}
use Rattle.basis.specs.declared.Frame.{Frame}
use Rattle.basis.specs.declared.Refusal.TheVariants.{LineMalformed}
use Rattle.basis.specs.declared.Interface.{Interface}
use Rattle.basis_engine.specs.Machine.{outcome_of, result_of, Invocation}
use Rattle.basis_lines.specs.Fields.{tab, newline}
use Rattle.basis_lines.specs.Numbers.{decimal, hex_text}
use Rattle.basis_lines.specs.Forms.{call_of}

abbrev pub refused_word : List ℕ
refused_word = 114 ∷ 101 ∷ 102 ∷ 117 ∷ 115 ∷ 101 ∷ 100 ∷ []

abbrev pub ok_word : List ℕ
ok_word = 111 ∷ 107 ∷ []

-- `-` for none.
abbrev pub dash : List ℕ
dash = 45 ∷ []

abbrev pub number_text : Option ℕ → List ℕ
number_text None = dash
number_text (Some n) = decimal n

abbrev pub frame_text : Option Frame → List ℕ
frame_text None = dash
frame_text (Some frame) = hex_text (frame_bytes frame)

unfoldable pub refused_text : ℕ → List ℕ
refused_text n = refused_word ++ (tab ∷ decimal n) ++ (newline ∷ [])

unfoldable pub accepted_text : Accepted → Option Frame → List ℕ
accepted_text answer frame =
    ok_word
    ++ (tab ∷ kind_word answer.kind)
    ++ (tab ∷ number_text answer.slot)
    ++ (tab ∷ number_text answer.next)
    ++ (tab ∷ frame_text frame)
    ++ (newline ∷ [])

-- The text of a call's report, with the frame that an accepted call hands out.
abbrev pub report_text : Report Accepted → Option Frame → List ℕ
report_text (refused n) frame = refused_text n
report_text (accepted answer) frame = accepted_text answer frame

-- What a line comes to: the answer's text, its byte 10 included, and the state afterwards.
pub record Answered : Type 0 where
  pub text : List ℕ
  pub state : Interface

-- "Anything else, an empty line [..] included, is 14": no call is made (reading malformed-makes-no-call).
abbrev pub malformed : Interface → Answered
malformed s = record { text = refused_text (refusal_number LineMalformed); state = s }

-- What a call of a line, or none, comes to.
abbrev pub answer_to : Interface → Option Invocation → Answered
answer_to s None = malformed s
answer_to s (Some i) =
    record {
      text = report_text (result_of s i.call i.bytes i.lent).report (outcome_of s i.call i.bytes).frame;
      state = (result_of s i.call i.bytes i.lent).state;
    }

-- A line answered, for any bytes and any state.
unfoldable pub line_answer : Interface → List ℕ → Answered
line_answer s line = answer_to s (call_of line)

-- A line is answered only where the longest answer would have room (`longest_answer_lem` in proofs/AnswerLaws.antt), so that none
-- is cut; else nothing is done.
abbrev pub longest_answer : ℕ
longest_answer = 111

abbrev pub has_room : List ℕ → Bool
has_room out = leb longest_answer (length out)

-- A text written at the start of an out buffer, the rest untouched.
abbrev pub written : List ℕ → List ℕ → List ℕ
written text out = text ++ drop (length text) out
