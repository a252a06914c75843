-- `parse_hex::read_sixteen`: the copy.
use Rattle.std.proofs.Common.{◌∙◌, ◌+◌, ◌-◌, arith, ℕ, length-take, length-drop}
use Rattle.std.proofs.lemmas.Slice.{take-put_mid}
use Rattle.parse_hex.proofs.HexLaws.{head_done}
use Rattle.parse_hex.proofs.read_sixteen.Goals as goal

pub returns : goal.returns
returns c =
    take-put_mid c.args.start (c.args.start + 16 - c.args.start) c.args.head.now c.copy_from_slice.new.self (c.args.start + 16)
    (omega (arith, c.copy_from_slice.ensures.len, length-take {A = ℕ}, length-drop {A = ℕ})) (omega arith)
    ∙ rw c.copy_from_slice.ensures.after (head_done _ _ _ _ _ _ c.requires.head_value (omega arith)
    (omega (arith, c.read.ensures.count, length-take {A = ℕ}, length-drop {A = ℕ})) c.read.ensures.value)
