-- `parse_digits::first_19`: the bytes so far are digits that stand for the value.
use Rattle.parse_digits.specs.LeadingDigits.{Begins}
use Rattle.parse_digits.proofs.first_19.Given as goal

abbrev pub invariant-loop-count : goal.invariant-loop-count
invariant-loop-count l = Begins l.text l.value l.count
