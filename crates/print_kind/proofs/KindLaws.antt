-- No kind, with `ok` and a tab before it, is longer than 11 bytes.
use Prim.Native.Nat.{◌≤◌}
use mathlib.Core.List.{◌∷◌, ◌++◌}
use lib.ListN.{length, length-append}
use native.Mathlib.Omega.{arith}
use Rattle.basis.proofs.AnswersLaws.{kind_at_most}
use Rattle.basis.specs.Answers.{kind_word}
use Rattle.basis.specs.declared.Kind.{Kind}
use Rattle.basis_lines.specs.Fields.{tab}
use Rattle.basis_lines.specs.Answers.{ok_word}

pub kind_within : (kind : Kind) → length (ok_word ++ (tab ∷ kind_word kind)) ≤ 11
kind_within kind = simp length-append (omega (arith, kind_at_most kind))
