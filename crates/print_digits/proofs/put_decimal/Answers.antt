-- `print_digits::put_decimal`: the digits end where the count says.
use Rattle.std.proofs.Common.{arith, rules, ap, length}
use Rattle.basis_lines.proofs.NumberLaws.{decimal_at_most}
use Rattle.print_digits.proofs.Digits.{same_decimal, decimal_written}
use Rattle.print_digits.proofs.put_decimal.Goals as goal

pub write_digits-requires : goal.write_digits-requires
write_digits-requires c =
    let same = ap length (same_decimal c.args.n (search rules)) in
    (omega arith, omega (arith, decimal_at_most c.args.n))

pub returns : goal.returns
returns c = let same = ap length (same_decimal c.args.n (search rules)) in record {
  value = omega arith;
  most = omega (arith, decimal_at_most c.args.n);
  out_after = search (rules, decimal_written);
}
