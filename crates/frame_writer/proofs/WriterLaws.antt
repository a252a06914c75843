-- A frame that is refused for what it says, with the out buffer's start taken.
use Prim.Native.Nat.{ℕ, ◌≤◌}
use mathlib.Core.Path.{◌≡◌}
use mathlib.Core.List.{List, ◌++◌}
use mathlib.Core.Bool.{true, not}
use lib.ListN.{length, take, drop}
use borrow.Author.Tests.{le-ltb}
use Rattle.std.specs.Prelude.{Some}
use Rattle.std.proofs.lemmas.List.{take-append-drop}
use Rattle.basis.specs.Answers.{refused}
use Rattle.basis.specs.Frame.{frame_length, is_writable, write_refusal, write_of, write_out}
use Rattle.basis.specs.declared.Frame.{Frame}

module _ (f : Frame) (out : List ℕ) (room : frame_length ≤ length out) (e : not (is_writable f) ≡ true) where
  row_7 : write_refusal f (length out) ≡ Some 7
  unfolding write_refusal
  row_7 = rw (le-ltb (length out) frame_length room, e)

  pub unwritable_told : refused 7 ≡ write_of f (length out)
  unfolding write_of
  unwritable_told = rw row_7

  pub unwritable_left : (start : List ℕ) → start ≡ take frame_length out → start ++ drop frame_length out ≡ write_out f out
  unfolding write_out
  unwritable_left start e = rw (row_7, e) (take-append-drop frame_length out)

pub ruleset unwritable = (unwritable_told, unwritable_left)
