-- `parse_digits::first_19`: behind less than 19 digits there is room for another.
use Rattle.std.proofs.Common.{rules, arith}
use Rattle.parse_digits.proofs.Scan.{room, goes_on_19}
use Rattle.parse_digits.proofs.first_19.Goals as goal

pub overflow_mul-value : goal.overflow_mul-value
overflow_mul-value c =
    record { fits = omega (arith, room _ _ _ _ c.min-most.ensures c.loop-count.invariant c.loop-count-test.true) }

pub overflow_add-value : goal.overflow_add-value
overflow_add-value c =
    record { fits = omega (arith, room _ _ _ _ c.min-most.ensures c.loop-count.invariant c.loop-count-test.true) }

pub loop-count-preserved : goal.loop-count-preserved
loop-count-preserved c =
    goes_on_19 _ _ _ _ c.min-most.ensures c.loop-count.invariant c.loop-count-test.true (search rules) _ c.from.ensures
