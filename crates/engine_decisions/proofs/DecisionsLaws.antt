-- How what the functions promise makes up a decision carried out.
use Rattle.std.specs.Prelude.{Option, Result, Ok}
use Prim.Native.Nat.{ℕ}
use mathlib.Core.Path.{◌≡◌}
use mathlib.Core.List.{List}
use Rattle.basis.specs.Answers.{time_of, answer_report}
use Rattle.basis.specs.declared.Interface.{Interface}
use Rattle.basis.specs.declared.Refusal.{Refusal}
use Rattle.basis.specs.declared.Time.{Time}
use Rattle.basis_engine.specs.Deadlines.{smallest_deadline}
use Rattle.engine_state.specs.Changes.{changed_by, slot_in}
use Rattle.engine_decisions.specs.declared.Decision.{Decision}
use Rattle.engine_decisions.specs.Decisions.{sent_out, CarriedOut}

-- `new` is the state with the change, and `next` the smallest deadline that is told of it.
pub carried_out : (s : Interface) (decided : Result Decision Refusal) (d : Decision) → decided ≡ Ok d →
    (new : Interface) → new ≡ changed_by s d.change →
    (slot : Option ℕ) → slot ≡ slot_in d.change.put →
    (next : Option Time) → time_of next ≡ smallest_deadline new.records →
    (lent left : List ℕ) → left ≡ sent_out d.frame lent →
    CarriedOut s decided lent (record { answer = Ok (record { kind = d.kind; slot = slot; next = next }); state = new }) left
unfolding answer_report
carried_out s decided d is new n slot told next e lent left w = rw is (record { reports = rw (told, e); leaves = n; written = w })
