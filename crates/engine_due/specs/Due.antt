-- What the inner functions of src/ promise one another.
use Rattle.basis_engine.specs.Calls.{DueFrame}
use Rattle.engine_due.specs.declared.Due.{Due}

-- The frame that is due, as the machine says it.
abbrev pub due_of : Due → DueFrame
due_of due = record { kind = due.kind; frame = due.frame }
