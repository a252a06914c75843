-- `parse_command::parse`: `fresh`.
use Rattle.parse_command.proofs.CommandLaws.{fresh_line}
use Rattle.parse_command.proofs.parse.Goals as goal

pub returns : goal.returns
returns c =
    fresh_line _ _ c.if-line-gt-LONGEST_LINE.false c.in_default.ensures c.in_ok-rest.ensures.cases.0 _ c.in_ok-rest.ensures.cases.1 _
    c.fresh.ensures _ c.map.ensures.cases
