-- The text of an answer.
use Prim.Native.Nat.{ℕ, ◌≤◌}
use mathlib.Core.Path.{◌≡◌, refl}
use mathlib.Core.Bool.{true}
use mathlib.Core.List.{List}
use Rattle.std.specs.Prelude.{Option, None, Some}
use native.Mathlib.Omega.{arith}
use lib.ListN.{length, length-append}
use lib.Pow.{are_bytes}
use Rattle.basis.specs.Answers.{Report, refused, accepted, Accepted}
use Rattle.basis.specs.Frame.{frame_bytes}
use Rattle.basis.specs.declared.Frame.{Frame}
use Rattle.basis.specs.declared.Interface.{Interface}
use Rattle.basis.proofs.AnswersLaws.{kind_at_most}
use Rattle.basis.proofs.FrameLaws.{frame_length_lem}
use Rattle.basis_engine.specs.Interface.{is_sound}
use Rattle.basis_engine.specs.Machine.{outcome_of, result_of, Invocation}
use Rattle.basis_engine.proofs.AlwaysSound.{stays_sound}
use Rattle.basis_lines.specs.Numbers.{are_digits, number, largest, hex_bytes, bytes}
use Rattle.basis_lines.specs.Answers.{refused_text, accepted_text, report_text, number_text, frame_text, answer_to, line_answer, longest_answer}
use Rattle.basis_lines.specs.Forms.{call_of}
use Rattle.basis_lines.proofs.NumberLaws.{number_printed, decimal_at_most}
use Rattle.basis_lines.proofs.HexLaws.{remainder_small, hex_length, bytes_printed}

-- "`-` for none": a number printed reads back, and so does a frame; what stands for none reads as none.
pub number_text_reads : (n : ℕ) → n ≤ largest → number largest (number_text (Some n)) ≡ Some n
number_text_reads n fits = number_printed largest n fits (omega arith)

pub no_number_reads : number largest (number_text None) ≡ None
unfolding number are_digits
no_number_reads = refl

frame_small : (f : Frame) → are_bytes (frame_bytes f) ≡ true
unfolding frame_bytes
frame_small f = simp remainder_small

pub frame_text_reads : (f : Frame) → bytes (frame_text (Some f)) ≡ Some (frame_bytes f)
frame_text_reads f = bytes_printed (frame_bytes f) (frame_small f) (rw (frame_length_lem f) (omega arith))

pub no_frame_reads : bytes (frame_text None) ≡ None
unfolding bytes hex_bytes
no_frame_reads = refl

-- No answer is longer than `longest_answer`, for any bytes and any state.
number_at_most : (n : Option ℕ) → length (number_text n) ≤ 20
number_at_most None = omega arith
number_at_most (Some n) = decimal_at_most n

frame_at_most : (frame : Option Frame) → length (frame_text frame) ≤ 56
frame_at_most None = omega arith
frame_at_most (Some frame) = rw (hex_length, frame_length_lem frame) (omega arith)

pub refused_at_most : (n : ℕ) → length (refused_text n) ≤ longest_answer
unfolding refused_text
refused_at_most n = simp length-append (omega (arith, decimal_at_most n))

accepted_at_most : (answer : Accepted) (frame : Option Frame) → length (accepted_text answer frame) ≤ longest_answer
unfolding accepted_text
accepted_at_most answer frame =
    simp length-append
    (omega (
      arith,
      kind_at_most answer.kind,
      number_at_most answer.slot,
      number_at_most answer.next,
      frame_at_most frame,
    ))

report_at_most : (report : Report Accepted) (frame : Option Frame) → length (report_text report frame) ≤ longest_answer
report_at_most (refused n) frame = refused_at_most n
report_at_most (accepted answer) frame = accepted_at_most answer frame

pub longest_answer_lem : (s : Interface) (line : List ℕ) → length (line_answer s line).text ≤ longest_answer
unfolding line_answer
longest_answer_lem s line = go (call_of line)
  where
    go : (call : Option Invocation) → length (answer_to s call).text ≤ longest_answer
    go None = refused_at_most 14
    go (Some i) = report_at_most (result_of s i.call i.bytes i.lent).report (outcome_of s i.call i.bytes).frame

-- A line leaves a sound state sound.
pub line_stays_sound : (s : Interface) (line : List ℕ) → is_sound s ≡ true → is_sound (line_answer s line).state ≡ true
unfolding line_answer
line_stays_sound s line sound = go (call_of line)
  where
    go : (call : Option Invocation) → is_sound (answer_to s call).state ≡ true
    go None = sound
    go (Some i) = stays_sound s i.call i.bytes i.lent sound
