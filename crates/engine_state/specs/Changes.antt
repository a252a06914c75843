-- What a change leaves of a state, and how one is made.
use Rattle.std.specs.Prelude.{ℕ, List, Option, None, Some}
use Rattle.basis.specs.declared.Interface.{Interface}
use Rattle.basis.specs.declared.Record.{Record}
use Rattle.basis.specs.declared.Time.{Time}
use Rattle.basis_engine.specs.Slots.{put_at}
use Rattle.basis_engine.specs.Interface.{changed}
use Rattle.engine_state.specs.declared.Change.{Change}

-- The slot of what is put, and the records with it.
abbrev pub slot_in : Option (ℕ × Record) → Option ℕ
slot_in None = None
slot_in (Some put) = Some put.0

abbrev pub put_in : List Record → Option (ℕ × Record) → List Record
put_in records None = records
put_in records (Some put) = put_at records (Some put.0) put.1

-- The state that a change leaves.
abbrev pub changed_by : Interface → Change → Interface
changed_by s change =
    changed s change.latest change.asked change.conflicts (put_in s.records change.put)

-- Another latest time, and what is put in a slot; the rest is kept.
abbrev pub change_at : Interface → Time → Option (ℕ × Record) → Change
change_at s time put = record { latest = time; asked = s.asked; conflicts = s.conflicts; put = put }

-- And another count; or its time is that of the latest ask.
abbrev pub counting : Change → ℕ → Change
counting change count = record { latest = change.latest; asked = change.asked; conflicts = count; put = change.put }

abbrev pub asking : Change → Change
asking change = record { latest = change.latest; asked = Some change.latest; conflicts = change.conflicts; put = change.put }
