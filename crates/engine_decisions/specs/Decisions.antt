-- What the functions of src/ promise the calls.
use Rattle.std.specs.Prelude.{ℕ, ◌≡◌, List, Option, None, Some, Result, Ok, Err}
use Rattle.basis.specs.Answers.{Accepted, accepted, refusal_number, answer_report}
use Rattle.basis.specs.Frame.{write_out}
use Rattle.basis.specs.declared.Called.{Called}
use Rattle.basis.specs.declared.Frame.{Frame}
use Rattle.basis.specs.declared.Interface.{Interface}
use Rattle.basis.specs.declared.Record.{Record}
use Rattle.basis.specs.declared.Refusal.{Refusal}
use Rattle.basis_engine.specs.Calls.{Outcome}
use Rattle.basis_engine.specs.Deadlines.{smallest_deadline}
use Rattle.engine_state.specs.Changes.{changed_by, slot_in}
use Rattle.engine_decisions.specs.declared.Decision.{Decision}

-- The out buffer after the write of the frame that goes out, if there is one.
abbrev pub sent_out : Option Frame → List ℕ → List ℕ
sent_out None out = out
sent_out (Some frame) out = write_out frame out

-- A decision to do what this outcome says.
pub record Decides (s : Interface) (outcome : Outcome) (d : Decision) : Type 0 where
  pub accepts : d.kind ≡ outcome.kind
  pub concerns : slot_in d.change.put ≡ outcome.slot
  pub changes : changed_by s d.change ≡ outcome.state
  pub sends : d.frame ≡ outcome.frame

-- What is decided on a call with this refusal, or none, and this outcome.
abbrev pub Decided : Interface → Option ℕ → Outcome → Result Decision Refusal → Type 0
Decided s refusal outcome (Err r) = Some (refusal_number r) ≡ refusal
Decided s refusal outcome (Ok d) = (None ≡ refusal) × Decides s outcome d

-- What an accepted call reports that leaves these records.
abbrev pub reported_of : Decision → List Record → Accepted
reported_of d records = record { kind = d.kind; slot = slot_in d.change.put; next = smallest_deadline records }

-- A decision carried out: what is handed back, and what is left of the out buffer that was lent.
pub record Done (d : Decision) (s : Interface) (lent : List ℕ) (r : Called) (left : List ℕ) : Type 0 where
  pub reports : answer_report r.answer ≡ accepted (reported_of d r.state.records)
  pub leaves : r.state ≡ changed_by s d.change
  pub written : left ≡ sent_out d.frame lent

abbrev pub CarriedOut : Interface → Result Decision Refusal → List ℕ → Called → List ℕ → Type 0
CarriedOut s (Err refusal) lent r left = (r.answer ≡ Err refusal) × (r.state ≡ s) × (left ≡ lent)
CarriedOut s (Ok d) lent r left = Done d s lent r left
