-- What the functions here promise one another and the line.
use Rattle.std.specs.Prelude.{ℕ, ◌≡◌, Option, List, length, Ok, Err}
use Rattle.basis.specs.Answers.{Answer, accepted_of, refusal_number}
use Rattle.basis.specs.declared.Interface.{Interface}
use Rattle.basis_lines.specs.Answers as Answers
use Rattle.basis_lines.specs.Answers.{refused_text, written}
use Rattle.print_answer.specs.AcceptedText.{shown, accepted_with}

-- The text of an answer, with the bytes of the frame that was sent, if one was.
unfoldable pub answer_text : Answer → Option (List ℕ) → List ℕ
answer_text (Ok success) frame = accepted_with (accepted_of success) (shown frame)
answer_text (Err refusal) frame = refused_text (refusal_number refusal)

-- A state, a count of bytes and an out buffer, before and after, as what a line comes to has them.
pub record Gives (answered : Answers.Answered) (state : Interface) (count : ℕ) (old new : List ℕ) : Type 0 where
  pub state_after : state ≡ answered.state
  pub counted : count ≡ length answered.text
  pub bytes : new ≡ written answered.text old
