-- What the inner functions of src/ promise one another.
use Rattle.std.specs.Prelude.{Bool, false, Result, Ok, Err, is_some}
use Rattle.basis.specs.declared.Refusal.{Refusal}
use Rattle.engine_decisions.specs.declared.Decision.{Decision}

-- Whether a frame goes out.
abbrev pub is_sent : Result Decision Refusal → Bool
is_sent (Ok d) = is_some d.frame
is_sent (Err refusal) = false
