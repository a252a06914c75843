-- The first word of a line, and the forms whose word a time follows.
use Rattle.std.specs.Prelude.{ℕ, List, [], ◌∷◌, Option}
use Rattle.basis.specs.declared.Time.{Time}
use Rattle.basis_engine.specs.Machine.{Invocation}
use Rattle.basis_lines.specs.Fields.{tab, parts, ◌then◌}
use Rattle.basis_lines.specs.Forms.{field, time, call_by, fresh_word, ask_word, tick_word, packet_word, drop_word, fresh_call, ask_at, tick_at, packet_at, drop_at}
use Rattle.parse_forms.specs.Commands.{if_count}
use Rattle.parse_command.specs.declared.Form.{Form}

-- A form's word, how many fields it has with the word, and what they make once the time is read.
pub record Row : Type 0 where
  pub word : List ℕ
  pub count : ℕ
  pub call : Time → List (List ℕ) → Option Invocation

abbrev pub row_of : Form → Row
row_of Form.Tick = record { word = tick_word; count = 3; call = tick_at }
row_of Form.Packet = record { word = packet_word; count = 3; call = packet_at }
row_of Form.Ask = record { word = ask_word; count = 5; call = ask_at }
row_of Form.Drop = record { word = drop_word; count = 3; call = drop_at }

-- What all fields make.
abbrev pub timed_call : Row → List (List ℕ) → Option Invocation
timed_call row fields = time (field 1 fields) then λ t. row.call t fields

-- What stands behind a form's word makes.
abbrev pub behind_word : Form → List ℕ → Option Invocation
behind_word form rest = if_count (row_of form).count (timed_call (row_of form)) ([] ∷ parts tab rest)

-- What fields make by the one form whose word no time follows.
abbrev pub untimed_call : List (List ℕ) → Option Invocation
untimed_call fields = call_by (record { word = fresh_word; more = 1; call = fresh_call } ∷ []) fields
