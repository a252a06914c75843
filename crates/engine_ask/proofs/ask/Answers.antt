-- `engine_ask::ask`: no row refuses it, and the lowest free slot is taken.
use Rattle.engine_ask.proofs.AskLaws.{no_row, ask_takes}
use Rattle.engine_ask.proofs.ask.Goals as goal

pub returns : goal.returns
returns c =
    let none_refuses = no_row _ _ _ _ _ c.in_ok-admitted.ensures.refusal
    _ c.is_allowed.ensures _ c.is_policy.ensures c.if-not-is_allowed.false _ c.is_held.ensures c.if-not-is_policy.false
    _ c.free_slot.ensures c.if-is_held.false _ c.in-Some.is _ c.is_too_soon.ensures c.if-is_too_soon.false in
    let taken = ask_takes _ _ _ _ _ _ c.free_slot.ensures _ c.in-Some.is _ c.in_ok-admitted.ensures.admitted.1
    _ c.new_claim-claim.ensures _ c.at.ensures _ c.asking.ensures in
    (none_refuses, taken)
