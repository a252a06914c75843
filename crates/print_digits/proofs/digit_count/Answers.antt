-- `print_digits::digit_count`: by the power of ten.
use Rattle.std.proofs.Common.{arith, rules}
use Rattle.std.proofs.lemmas.Fmt.{decimal_digit}
use Rattle.print_digits.proofs.Digits.{power_digits}
use Rattle.print_digits.proofs.digit_count.Goals as goal

pub returns-in-0-to-9 : goal.returns-in-0-to-9
returns-in-0-to-9 c = search (rules, decimal_digit)

pub returns-in-10-to-99 : goal.returns-in-10-to-99
returns-in-10-to-99 c = power_digits 1 _ (omega arith) (omega arith) (search rules)

pub returns-in_default : goal.returns-in_default
returns-in_default c = search (rules, power_digits)
