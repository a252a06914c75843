-- `engine_due::stage_after`: a probe, or the first announcement.
use Rattle.engine_due.proofs.DueLaws.{after_probe, after_first}
use Rattle.engine_due.proofs.stage_after.Goals as goal

pub returns-in-Probing : goal.returns-in-Probing
returns-in-Probing c = search after_probe

pub returns-in-Probing-2 : goal.returns-in-Probing-2
returns-in-Probing-2 c = search after_first
