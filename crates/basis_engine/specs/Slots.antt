-- Slots: lists of records, the first being slot 0. That there are "four slots numbered 0 to 3" is said by the program's type of
-- an interface's records, `[Record; 4]`; these definitions are total over any list.
use Rattle.std.specs.Prelude.{ℕ, suc, Bool, true, false, cond, ◌&&◌, ◌||◌, List, [], ◌∷◌, eqb, get_or, set, Option, None, Some}
use Rattle.basis.specs.declared.Record.{Record}
use Rattle.basis.specs.declared.Stage.{Stage}
use Rattle.basis.specs.declared.Stage.TheVariants.{Free}

-- A free slot's record. A call that frees a slot leaves this (reading free-is-a-stage).
abbrev pub free_record : Record
free_record = record { address = record { 0 = 0 }; policy = 0; stage = Free }

-- A record at another stage.
abbrev pub with_stage : Record → Stage → Record
with_stage r stage = record { address = r.address; policy = r.policy; stage = stage }

-- The record in a slot.
abbrev pub record_at : List Record → ℕ → Record
record_at records slot = get_or records slot free_record

-- The records with this one in a slot, where one is named.
abbrev pub put_at : List Record → Option ℕ → Record → List Record
put_at records None new = records
put_at records (Some slot) new = set records slot new

-- Whether a test holds of one of the records, or of all.
unfoldable pub any : (Record → Bool) → List Record → Bool
any test [] = false
any test (r ∷ records) = test r || any test records

unfoldable pub all : (Record → Bool) → List Record → Bool
all test [] = true
all test (r ∷ records) = test r && all test records

-- The lowest slot of which a test holds, where the first of the records is slot n.
unfoldable pub lowest_from : ℕ → (Record → Bool) → List Record → Option ℕ
lowest_from n test [] = None
lowest_from n test (r ∷ records) = cond (test r) (Some n) (lowest_from (suc n) test records)

abbrev pub lowest : (Record → Bool) → List Record → Option ℕ
lowest test records = lowest_from 0 test records

-- Whether a number that may be missing is missing, or is this one.
abbrev pub is_none : Option ℕ → Bool
is_none None = true
is_none (Some n) = false

abbrev pub is_just : ℕ → Option ℕ → Bool
is_just m None = false
is_just m (Some n) = eqb n m
