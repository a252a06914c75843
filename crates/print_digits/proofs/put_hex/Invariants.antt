-- `print_digits::put_hex`: the text of the bytes so far has been put.
use Rattle.std.proofs.Common.{◌≡◌, ◌*◌, take}
use Rattle.basis_lines.specs.Numbers.{hex_text}
use Rattle.basis_lines.specs.Answers.{written}
use Rattle.print_digits.proofs.put_hex.Given as goal

abbrev pub invariant-loop-byte : goal.invariant-loop-byte
invariant-loop-byte l = (l.len ≡ 2 * l.byte-index) × (l.out ≡ written (hex_text (take l.byte-index l.bytes)) l.fn.out)
