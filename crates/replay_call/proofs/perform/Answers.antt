-- `replay_call::perform`: a call and its answer.
use Rattle.replay_call.proofs.CallLaws.{call_gives}
use Rattle.replay_call.proofs.perform.Goals as goal

pub returns : goal.returns
returns c = search call_gives
