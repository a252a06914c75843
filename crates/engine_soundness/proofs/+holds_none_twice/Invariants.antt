-- `engine_soundness::holds_none_twice` goes on with fewer records.
use Rattle.std.proofs.Common.{length}
use Rattle.engine_soundness.proofs.+holds_none_twice.Given as goal

abbrev pub decreases-holds_none_twice : goal.decreases-holds_none_twice
decreases-holds_none_twice l = length l.records.now
