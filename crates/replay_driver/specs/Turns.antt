-- What a turn of the loop leaves: the stream, how many bytes are held, whether it waits and goes on, and the input buffer.
-- By its fields: `Replay` has a ghost field, so it imports what its file does, this one too, and cannot be named here.
use Rattle.std.specs.Prelude.{ℕ, ◌≤◌, ◌≡◌, Bool, true, false, List, length, take, Result, Ok, Err, nat_eq}
use Rattle.basis_lines.specs.declared.Stream.{Stream}
use Rattle.basis_lines.specs.Stream.{work, kept, kept_length}

-- Whether the replay goes on after a turn.
abbrev pub goes_on : {E : Type 0} → Result Bool E → Bool
goes_on (Ok going) = going
goes_on (Err why) = false

-- Whether the replay still waits after a read: one that brings nothing, or fails, leaves nothing to work on.
abbrev pub still_waits : {E : Type 0} → Result ℕ E → Bool
still_waits (Ok count) = nat_eq count 0
still_waits (Err why) = true

-- A turn that waits for more: the stream and what is held stay. If it goes on, it has at least as much, within the buffer, and no
-- longer waits.
pub record Waited (st : Stream) (held : ℕ) (input : List ℕ) (after : Stream) (count : ℕ) (waiting going : Bool) (left : List ℕ) : Type 0 where
  pub stream_stays : after ≡ st
  pub held_stays : take held left ≡ take held input
  pub goes_on : going ≡ true → (waiting ≡ false) × (held ≤ count) × (count ≤ length input)

-- A turn that does not: the work on what is held, with so much room for answers, and what it does not use up is kept.
pub record Worked (st : Stream) (held room : ℕ) (input : List ℕ) (after : Stream) (count : ℕ) (waiting : Bool) (left : List ℕ) : Type 0 where
  pub stream_after : after ≡ (work st (take held input) room).stream
  pub waits : waiting ≡ (work st (take held input) room).waiting
  pub counted : count ≡ kept_length (work st (take held input) room).used held input
  pub keeps : left ≡ kept (work st (take held input) room).used held input
