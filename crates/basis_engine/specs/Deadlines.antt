-- Deadlines: the smallest one left, and the slot that is due.
use Rattle.std.specs.Prelude.{ℕ, min, Bool, cond, List, [], ◌∷◌, leb, Option, None, Some}
use Rattle.basis.specs.declared.Time.{Time}
use Rattle.basis.specs.declared.Stage.{Stage}
use Rattle.basis.specs.declared.Stage.TheVariants.{Free, Probing, Announced, Settled}
use Rattle.basis.specs.declared.Record.{Record}
use Rattle.basis_engine.specs.Slots.{lowest, is_just}

-- A stage's deadline, if it has one.
abbrev pub deadline_of : Stage → Option ℕ
deadline_of Free = None
deadline_of (Probing sent deadline) = Some deadline.0
deadline_of (Announced deadline conflict) = Some deadline.0
deadline_of (Settled conflict) = None

abbrev pub has_deadline : ℕ → Record → Bool
has_deadline deadline r = is_just deadline (deadline_of r.stage)

-- "The smallest deadline left or none" (readings next-of-all-slots, deadline-above-range).
abbrev pub smaller : Option ℕ → Option ℕ → Option ℕ
smaller None d = d
smaller (Some c) None = Some c
smaller (Some c) (Some d) = Some (min c d)

unfoldable pub smallest_deadline : List Record → Option ℕ
smallest_deadline [] = None
smallest_deadline (r ∷ records) = smaller (deadline_of r.stage) (smallest_deadline records)

-- "Among deadlines not later than the time, serve the earliest, the lowest slot on a tie": the earliest of those is the
-- smallest of all, unless that one is later than the time.
abbrev pub due_at : Time → List Record → Option ℕ → Option ℕ
due_at time records None = None
due_at time records (Some d) = cond (leb d time.0) (lowest (has_deadline d) records) None

unfoldable pub due_slot : Time → List Record → Option ℕ
due_slot time records = due_at time records (smallest_deadline records)
