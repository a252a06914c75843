-- A replay whose input arrives in pieces and whose output goes to buffers of any length: what one call answers of the input at
-- hand, and what is left at the end. That it does not matter how the input is cut is `Theorem` below, proved in
-- proofs/StreamLaws.antt.
use Rattle.std.specs.Prelude.{ℕ, suc, ◌+◌, ◌-◌, ◌≤◌, ◌≡◌, Bool, true, false, not, cond, ◌&&◌, ◌||◌, List, [], ◌∷◌, ◌++◌, eqb, leb, ltb, length, take, drop}
use Rattle.basis.specs.declared.Interface.{Interface}
use Rattle.basis_engine.specs.Interface.{zeros}
use Rattle.basis_lines.specs.declared.Stream.{Stream}
use Rattle.basis_lines.specs.Fields.{newline}
use Rattle.basis_lines.specs.Numbers.{is_empty}
use Rattle.basis_lines.specs.Forms.{longest_line}
use Rattle.basis_lines.specs.Answers.{Answered, malformed, line_answer, longest_answer, written}
use Rattle.basis_lines.specs.Records.{replay}

-- What a call on the input at hand comes to: the stream afterwards, how many bytes of the input are used up, the text written,
-- and whether it waits for more input (else the out buffer was too short to go on).
pub record Work : Type 0 where
  pub stream : Stream
  pub used : ℕ
  pub text : List ℕ
  pub waiting : Bool

-- A whole line answered. "A line that is too long is one record up to its byte 10 and gives one refusal."
abbrev pub ended_answer : Stream → List ℕ → Answered
ended_answer st line = cond st.skipping (malformed st.state) (line_answer st.state line)

abbrev pub at_line_start : Interface → Stream
at_line_start s = record { state = s; skipping = false }

-- Behind a line's byte 10: the stream, and the room that the answer leaves.
abbrev pub after_line : Stream → List ℕ → Stream
after_line st line = at_line_start (ended_answer st line).state

abbrev pub room_after : Stream → List ℕ → ℕ → ℕ
room_after st line room = room - length (ended_answer st line).text

-- Whether so much room may be too short for an answer.
abbrev pub is_full : ℕ → Bool
is_full room = ltb room longest_answer

-- No byte 10 is left. A line that is too long already is used up, so that no more than 4,096 bytes are ever kept; any other is
-- left for the next call.
abbrev pub wait : Stream → List ℕ → Work
wait st begun =
    cond (st.skipping || ltb longest_line (length begun))
    (record { stream = record { state = st.state; skipping = true }; used = length begun; text = []; waiting = true })
    (record { stream = st; used = 0; text = []; waiting = true })

-- The out buffer is too short for the next answer.
abbrev pub stop : Stream → Work
stop st = record { stream = st; used = 0; text = []; waiting = false }

-- What was done before the rest of the work.
abbrev pub afterwards : ℕ → List ℕ → Work → Work
afterwards used text rest =
    record {
      stream = rest.stream;
      used = used + rest.used;
      text = text ++ rest.text;
      waiting = rest.waiting;
    }

-- The work on an input after the bytes of a line begun, with so much room for answers.
unfoldable pub work_after : Stream → List ℕ → List ℕ → ℕ → Work
work_after st begun [] room = wait st begun
work_after st begun (b ∷ input) room =
    cond (eqb b newline)
    (cond (is_full room) (stop st)
    (afterwards (suc (length begun)) (ended_answer st begun).text
    (work_after (after_line st begun) [] input (room_after st begun room))))
    (work_after st (begun ++ (b ∷ [])) input room)

abbrev pub work : Stream → List ℕ → ℕ → Work
work st input room = work_after st [] input room

-- The end of the input, with the bytes that are left: "an unended last line" is 14, and nothing after the last byte 10 is no
-- record (reading unended-line).
abbrev pub finish : Stream → List ℕ → List ℕ
finish st left = cond (st.skipping || not (is_empty left)) (malformed st.state).text []

-- The bytes from one place up to another moved to the start of a buffer, the rest untouched; all of it where they are no places
-- of the buffer. And how many they are.
abbrev pub is_part : ℕ → ℕ → List ℕ → Bool
is_part from to buffer = leb from to && leb to (length buffer)

abbrev pub kept : ℕ → ℕ → List ℕ → List ℕ
kept from to buffer = cond (is_part from to buffer) (written (take (to - from) (drop from buffer)) buffer) buffer

abbrev pub kept_length : ℕ → ℕ → List ℕ → ℕ
kept_length from to buffer = cond (is_part from to buffer) (to - from) 0

-- A replay as it goes: input arrives, or there is work with an out buffer of some length. What is used up is gone.
pub data Action : Type 0 where
  arrives : List ℕ → Action
  works : ℕ → Action

pub record Going : Type 0 where
  pub stream : Stream
  pub unread : List ℕ
  pub output : List ℕ

abbrev pub worked : Going → Work → Going
worked g w = record { stream = w.stream; unread = drop w.used g.unread; output = g.output ++ w.text }

abbrev pub acted : Going → Action → Going
acted g (arrives chunk) = record { stream = g.stream; unread = g.unread ++ chunk; output = g.output }
acted g (works room) = worked g (work g.stream g.unread room)

unfoldable pub after : Going → List Action → Going
after g [] = g
after g (action ∷ actions) = after (acted g action) actions

abbrev pub begin : Going
begin = record { stream = at_line_start zeros; unread = []; output = [] }

-- All that arrived.
unfoldable pub arrived : List Action → List ℕ
arrived [] = []
arrived (arrives chunk ∷ actions) = chunk ++ arrived actions
arrived (works room ∷ actions) = arrived actions

-- Whether the next work would leave nothing to do but to wait; and the output if the input ends here.
abbrev pub is_waiting : Going → ℕ → Bool
is_waiting g room = (work g.stream g.unread room).waiting

abbrev pub output_at_end : Going → List ℕ
output_at_end g = g.output ++ finish g.stream g.unread

-- The law of streams. However the input was cut and whatever room there was for answers, once a work waits, the output and what
-- the end adds are those of the whole input. No more than 4,096 bytes are kept for the next call. With room for an answer a
-- work that does not wait uses something up.
pub record Theorem : Type 0 where
  pub whole : (actions : List Action) (room : ℕ)
      → is_waiting (after begin actions) room ≡ true
      → output_at_end (acted (after begin actions) (works room)) ≡ replay (arrived actions)
  pub memory : (st : Stream) (input : List ℕ) (room : ℕ)
      → (work st input room).waiting ≡ true
      → length (drop (work st input room).used input) ≤ longest_line
  pub progress : (st : Stream) (input : List ℕ) (room : ℕ)
      → longest_answer ≤ room
      → (work st input room).waiting ≡ false
      → 1 ≤ (work st input room).used
