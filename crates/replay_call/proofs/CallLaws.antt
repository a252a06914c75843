-- A call's answer as text.
use Prim.Native.Nat.{ℕ}
use mathlib.Core.Path.{◌≡◌, refl, ap, ◌∙◌}
use mathlib.Core.Bool.{Bool, true, false}
use mathlib.Core.List.{List, ◌++◌, append-nil}
use Rattle.std.specs.Prelude.{Option, None, Some, Ok, Err, is_some}
use Rattle.std.specs.Bool.{then_some}
use Rattle.std.specs.Borrow.{Bor}
use native.Mathlib.Omega.{arith}
use lib.ListN.{length, drop_of_length-le}
use Rattle.basis.specs.Answers.{Answer, leaves, accepted_of, answer_report}
use Rattle.basis.proofs.AnswersLaws.{accepted_none}
use Rattle.basis.specs.Frame.{frame_length, frame_bytes, frame_put}
use Rattle.basis.specs.declared.Frame.{Frame}
use Rattle.basis.specs.declared.Call.{Call}
use Rattle.basis.specs.declared.Interface.{Interface}
use Rattle.basis_engine.specs.Machine.{Promised, outcome_of, result_of, refusal_of, handed_out}
use Rattle.basis_lines.specs.Forms.{lent_buffer, made}
use Rattle.basis_lines.specs.Numbers.{hex_text}
use Rattle.basis_lines.specs.Answers.{written, frame_text, accepted_text, report_text, answer_to}
use Rattle.print_answer.specs.AcceptedText.{bytes_of, shown, accepted_with}
use Rattle.replay_call.specs.AnswerText.{answer_text, Gives}

-- The last field of an accepted call: the lent bytes hold the frame if there is one.
frame_shown : (frame : Option Frame) (room : List ℕ) → length room ≡ frame_length → shown (then_some (is_some frame) (handed_out frame room)) ≡ frame_text frame
unfolding frame_put
frame_shown None room full = refl
frame_shown (Some frame) room full =
    ap hex_text (ap (λ l. frame_bytes frame ++ l) (drop_of_length-le room {i = frame_length} (omega (arith, full))) ∙ append-nil (frame_bytes frame))

-- What a call's promise says of its answer's text.
module _ (s : Interface) (call : Call) (bytes : List ℕ) (sent : Bool) (left : List ℕ)
    (told : sent ≡ leaves (refusal_of s call bytes frame_length) false (is_some (outcome_of s call bytes).frame))
    (lent : left ≡ leaves (refusal_of s call bytes frame_length) lent_buffer (handed_out (outcome_of s call bytes).frame lent_buffer)) where
  shows : refusal_of s call bytes frame_length ≡ None → shown (then_some sent left) ≡ frame_text (outcome_of s call bytes).frame
  shows accepts = rw (told, lent, accepts) (frame_shown (outcome_of s call bytes).frame lent_buffer refl)

  promised_text : (answer : Answer) → answer_report answer ≡ (result_of s call bytes lent_buffer).report
      → answer_text answer (then_some sent left) ≡ (answer_to s (Some (made call bytes))).text
  unfolding answer_report answer_text accepted_with accepted_text result_of
  promised_text (Ok success) e =
      ap (accepted_with (accepted_of success)) (shows (accepted_none _ _ _ e))
      ∙ ap (λ r. report_text r (outcome_of s call bytes).frame) e
  promised_text (Err refusal) e = ap (λ r. report_text r (outcome_of s call bytes).frame) e

-- The bytes of a frame that is lent where one was sent.
sent_bytes : (sent : Bool) (frame : Bor (List ℕ)) → bytes_of (then_some sent frame) ≡ then_some sent frame.now
sent_bytes true frame = refl
sent_bytes false frame = refl

-- A call made and its answer written.
pub call_gives : (s : Interface) (call : Call) (bytes : List ℕ) (answer : Answer) (state : Interface) (sent : Bool) (left : List ℕ)
    → Promised s call bytes lent_buffer answer state left
    → sent ≡ leaves (refusal_of s call bytes frame_length) false (is_some (outcome_of s call bytes).frame)
    → (frame : Bor (List ℕ)) → frame.now ≡ left → (lent : Option (Bor (List ℕ))) → lent ≡ then_some sent frame
    → (n : ℕ) (old new : List ℕ) → n ≡ length (answer_text answer (bytes_of lent)) → new ≡ written (answer_text answer (bytes_of lent)) old
    → Gives (answer_to s (Some (made call bytes))) state n old new
unfolding result_of
call_gives s call bytes answer state sent left kept told frame frame_is lent lent_is n old new counted put =
    let shown_is : bytes_of lent ≡ then_some sent left = ap bytes_of lent_is ∙ sent_bytes sent frame ∙ ap (then_some sent) frame_is in
    let text_is = ap (answer_text answer) shown_is ∙ promised_text s call bytes sent left told kept.written answer kept.answered in
    record { state_after = kept.handed_back; counted = counted ∙ ap length text_is; bytes = put ∙ ap (λ text. written text old) text_is }
