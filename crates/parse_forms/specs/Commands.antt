-- What the readers promise: a call as what a line asks for, and what the fields of a line make.
use Rattle.std.specs.Prelude.{ℕ, ◌≡◌, cond, List, [], eqb, length, take, Option, None, option_map}
use Rattle.basis.specs.Frame.{frame_length}
use Rattle.basis_engine.specs.Machine.{Invocation}
use Rattle.basis_lines.specs.Forms.{made}
use Rattle.parse_forms.specs.declared.Parsed.{Parsed}
use Rattle.basis.specs.declared.Call.{Call}

-- What a call without bytes asks for, if there is one.
abbrev pub asked : Option Call → Option Invocation
asked call = option_map (λ c. made c []) call

-- What was read of a line asks for, with the bytes of a packet at the start of a buffer.
abbrev pub made_of : Option Parsed → List ℕ → Option Invocation
made_of parsed head = option_map (λ p. made p.call (take p.count head)) parsed

-- The same with no more than the first 28 bytes of a packet: the engine reads no more.
abbrev pub headed : Invocation → Invocation
headed i = record { call = i.call; bytes = take frame_length i.bytes; lent = i.lent }

-- What was read makes this call, or none, with a packet's bytes at the start of a buffer.
pub record Makes (parsed : Option Parsed) (head : List ℕ) (call : Option Invocation) : Type 0 where
  pub makes : made_of parsed head ≡ option_map headed call

-- A form's call if there are so many fields.
abbrev pub if_count : ℕ → (List (List ℕ) → Option Invocation) → List (List ℕ) → Option Invocation
if_count count call fields = cond (eqb (length fields) count) (call fields) None
