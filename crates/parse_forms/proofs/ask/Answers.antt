-- `parse_forms::ask`: no tab behind the policy.
use mathlib.Core.Path.{ap, ◌∙◌}
use Rattle.parse_forms.specs.Commands.{asked}
use Rattle.parse_forms.proofs.FormsLaws.{policy_alone}
use Rattle.parse_forms.proofs.ask.Goals as goal

pub returns-in_err-last : goal.returns-in_err-last
returns-in_err-last c =
    ap asked c.from_residual-in_err-last.ensures
    ∙ policy_alone _ _ _ c.part-second.ensures _ c.address.ensures _ c.in_ok-address.was c.in_ok-rest.ensures.0 _ c.in_ok-rest.ensures.1 _
    c.first_number.ensures.number _ c.in_ok-policy.was c.in_ok-policy.ensures.ends c.in_err-last.ensures
