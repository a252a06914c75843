-- `engine_deadlines::smallest_deadline`: one record more at each step.
use Rattle.std.proofs.Common.{◌≡◌, Option, List, refl, rules}
use Rattle.std.proofs.lemmas.Fn.{fold_over, slice_gives, fronts}
use Rattle.basis.specs.Answers.{time_of}
use Rattle.basis.specs.declared.Record.{Record}
use Rattle.basis.specs.declared.Time.{Time}
use Rattle.basis_engine.specs.Deadlines.{smallest_deadline}
use Rattle.engine_deadlines.proofs.Scans.{smallest_push}
use Rattle.engine_deadlines.proofs.smallest_deadline.Goals as goal

pub returns : goal.returns
unfolding smallest_deadline
returns c =
    rw (← c.iter.ensures.rest) (
    fold_over fronts (λ y. y.now) _ (λ (seen : List Record) (best : Option Time). time_of best ≡ smallest_deadline seen) _
    (λ seen best x more f' j k. let told = smallest_push seen x.now in search rules)
    _ _ _ _ (slice_gives c.iter.result) refl c.fold.ensures.ran
    )
