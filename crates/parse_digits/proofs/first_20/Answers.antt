-- `parse_digits::first_20`: with a twentieth digit.
use Rattle.std.proofs.Common.{arith}
use Rattle.parse_digits.proofs.Scan.{read_20}
use Rattle.parse_digits.proofs.first_20.Goals as goal

pub returns-in-Some-with_next : goal.returns-in-Some-with_next
returns-in-Some-with_next c =
    read_20 _ _ _ _ c.first_19-found.ensures (omega arith) _ c.in-Some.ensures.lookup.0 c.in-Some.ensures.lookup.1
    c.in-Some-with_next.ensures
