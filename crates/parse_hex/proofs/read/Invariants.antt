-- `parse_hex::read`: the first `i` bytes.
use Rattle.std.proofs.Common.{◌≡◌, take}
use Rattle.parse_hex.specs.HexValues.{pairs}
use Rattle.parse_hex.proofs.read.Given as goal

abbrev pub invariant-loop-i : goal.invariant-loop-i
invariant-loop-i l = take l.i l.bytes ≡ take l.i (pairs l.text)
