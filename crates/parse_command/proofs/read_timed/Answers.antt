-- `parse_command::read_timed`: the time, and what is left of the line.
use Rattle.parse_command.proofs.CommandLaws.{time_alone, time_read}
use Rattle.parse_command.proofs.read_timed.Goals as goal

pub returns-in_err-fields : goal.returns-in_err-fields
returns-in_err-fields c =
    rw c.from_residual-in_err-fields.ensures
    (time_alone _ _ _ _ c.first_number.ensures.number _ c.in_ok-time.was c.in_ok-time.ensures.ends c.in_err-fields.ensures)

pub returns : goal.returns
returns c =
    time_read _ _ _ _ c.first_number.ensures.number _ c.in_ok-time.was c.in_ok-time.ensures.ends c.in_ok-fields.ensures.0 _
    c.in_ok-fields.ensures.1 _ c.read_fields.ensures
