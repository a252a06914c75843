-- The smallest deadline of records that end in this one.
use Rattle.std.proofs.Common.{◌≡◌, ℕ, Option, None, Some, List, [], ◌∷◌, ◌++◌, refl, ap, sym, ◌∙◌, arith}
use Rattle.basis.specs.declared.Record.{Record}
use Rattle.basis_engine.specs.Deadlines.{deadline_of, smaller, smallest_deadline}

smaller_none : (d : Option ℕ) → smaller d None ≡ d
smaller_none None = refl
smaller_none (Some c) = refl

smaller_assoc : (c d e : Option ℕ) → smaller (smaller c d) e ≡ smaller c (smaller d e)
smaller_assoc None d e = refl
smaller_assoc (Some c) None e = refl
smaller_assoc (Some c) (Some d) None = refl
smaller_assoc (Some c) (Some d) (Some e) = ap Some (omega arith)

pub smallest_push : (records : List Record) (r : Record) →
    smallest_deadline (records ++ (r ∷ [])) ≡ smaller (smallest_deadline records) (deadline_of r.stage)
unfolding smallest_deadline
smallest_push [] r = smaller_none (deadline_of r.stage)
smallest_push (first ∷ records) r =
    ap (smaller (deadline_of first.stage)) (smallest_push records r)
    ∙ sym (smaller_assoc (deadline_of first.stage) (smallest_deadline records) (deadline_of r.stage))
