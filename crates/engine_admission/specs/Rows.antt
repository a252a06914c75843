-- What the functions promise the calls.
use Rattle.std.specs.Prelude.{ℕ, Bool, not, ltb, Option, None, Some, Result, Ok, Err}
use Rattle.basis.specs.Times.{last_time}
use Rattle.basis.specs.Answers.{refusal_number, ◌if◌else◌}
use Rattle.basis.specs.declared.Time.{Time}
use Rattle.basis.specs.declared.Refusal.{Refusal}

-- The number of the refusal in a result, or none.
abbrev pub refusal_in : {A : Type 0} → Result A Refusal → Option ℕ
refusal_in (Ok a) = None
refusal_in (Err refusal) = Some (refusal_number refusal)

-- The rows 1, 3 and 4, of a state that is sound or not and has this latest time.
abbrev pub first_rows : Bool → Time → Time → Option ℕ
first_rows sound latest time =
    1 if not sound else
    3 if ltb last_time time.0 else
    4 if ltb time.0 latest.0 else None
