-- `parse_command::timed_form`: the four words, and any other.
use Rattle.parse_command.specs.declared.Form.TheVariants as Form
use Rattle.parse_command.proofs.CommandLaws.{timed_word, no_timed_word}
use Rattle.parse_command.proofs.timed_form.Goals as goal

pub returns-in-Some : goal.returns-in-Some
returns-in-Some c = timed_word Form.Tick _ c.in-Some.ensures.cases.0 _ c.in-Some.ensures.cases.1

pub returns-in-Some-strip_prefix : goal.returns-in-Some-strip_prefix
returns-in-Some-strip_prefix c = timed_word Form.Packet _ c.in-Some-strip_prefix.ensures.cases.0 _ c.in-Some-strip_prefix.ensures.cases.1

pub returns-in-Some-strip_prefix-2 : goal.returns-in-Some-strip_prefix-2
returns-in-Some-strip_prefix-2 c = timed_word Form.Ask _ c.in-Some-strip_prefix-2.ensures.cases.0 _ c.in-Some-strip_prefix-2.ensures.cases.1

pub returns-in_err-rest : goal.returns-in_err-rest
returns-in_err-rest c =
    rw c.from_residual.ensures
    (no_timed_word _ c.in_default.ensures.cases c.in_default-strip_prefix.ensures.cases c.in_default-strip_prefix-2.ensures.cases
    c.in_err-rest.ensures.cases)

pub returns : goal.returns
returns c = timed_word Form.Drop _ c.in_ok-rest.ensures.cases.0 _ c.in_ok-rest.ensures.cases.1
