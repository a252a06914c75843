-- "Forms: `fresh` hardware; `ask` time address policy draw; `tick` time draw; `packet` time bytes; `drop` time slot."
use Rattle.std.specs.Prelude.{ℕ, suc, Bool, cond, ◌&&◌, List, [], ◌∷◌, eqb, leb, length, get_or, replicate, Option, None, Some}
use Rattle.basis.specs.Bytes.{same_bytes}
use Rattle.basis.specs.Frame.{frame_length}
use Rattle.basis.specs.declared.Time.{Time}
use Rattle.basis.specs.declared.Call.{Call}
use Rattle.basis_engine.specs.Machine.{Invocation}
use Rattle.basis_lines.specs.Fields.{tab, parts, ◌then◌}
use Rattle.basis_lines.specs.Numbers.{number, largest, largest_draw, address, bytes, hardware}

-- The first word of each form, as its letters' codes.
abbrev pub fresh_word : List ℕ
fresh_word = 102 ∷ 114 ∷ 101 ∷ 115 ∷ 104 ∷ []

abbrev pub ask_word : List ℕ
ask_word = 97 ∷ 115 ∷ 107 ∷ []

abbrev pub tick_word : List ℕ
tick_word = 116 ∷ 105 ∷ 99 ∷ 107 ∷ []

abbrev pub packet_word : List ℕ
packet_word = 112 ∷ 97 ∷ 99 ∷ 107 ∷ 101 ∷ 116 ∷ []

abbrev pub drop_word : List ℕ
drop_word = 100 ∷ 114 ∷ 111 ∷ 112 ∷ []

abbrev pub field : ℕ → List (List ℕ) → List ℕ
field i fields = get_or fields i []

-- Whether the fields are this word and so many more.
abbrev pub is_form : List ℕ → ℕ → List (List ℕ) → Bool
is_form word more fields = same_bytes (field 0 fields) word && eqb (length fields) (suc more)

abbrev pub time : List ℕ → Option Time
time text = number largest text then λ ms. Some (record { 0 = ms })

-- A call as a replay makes it, with the bytes of a packet: it lends 28 bytes as the out buffer
-- (reading replay-lends-28).
abbrev pub lent_buffer : List ℕ
lent_buffer = replicate frame_length 0

abbrev pub made : Call → List ℕ → Invocation
made call bytes = record { call = call; bytes = bytes; lent = lent_buffer }

-- A form: its word, how many fields follow it, and the call that all its fields make, or none.
pub record Form : Type 0 where
  pub word : List ℕ
  pub more : ℕ
  pub call : List (List ℕ) → Option Invocation

-- A form whose word a time follows, by the call that the time and all its fields make.
abbrev pub timed : List ℕ → ℕ → (Time → List (List ℕ) → Option Invocation) → Form
timed word more call = record { word = word; more = more; call = λ fields. time (field 1 fields) then λ t. call t fields }

abbrev pub fresh_call : List (List ℕ) → Option Invocation
fresh_call fields = hardware (field 1 fields) then λ own. Some (made (Call.Fresh (record { hardware = own })) [])

abbrev pub ask_at : Time → List (List ℕ) → Option Invocation
ask_at t fields =
    address (field 2 fields) then λ wanted.
    number largest (field 3 fields) then λ policy.
    number largest_draw (field 4 fields) then λ draw.
    Some (made (Call.Ask t wanted policy draw) [])

abbrev pub tick_at : Time → List (List ℕ) → Option Invocation
tick_at t fields = number largest_draw (field 2 fields) then λ draw. Some (made (Call.Tick t draw) [])

abbrev pub packet_at : Time → List (List ℕ) → Option Invocation
packet_at t fields = bytes (field 2 fields) then λ frame. Some (made (Call.Packet t) frame)

abbrev pub drop_at : Time → List (List ℕ) → Option Invocation
drop_at t fields = number largest (field 2 fields) then λ slot. Some (made (Call.Drop t slot) [])

abbrev pub forms : List Form
forms =
    record { word = fresh_word; more = 1; call = fresh_call }
    ∷ timed ask_word 4 ask_at
    ∷ timed tick_word 2 tick_at
    ∷ timed packet_word 2 packet_at
    ∷ timed drop_word 2 drop_at
    ∷ []

-- The call that fields make, or none (readings empty-packet-field, unused-draw).
abbrev pub call_by : List Form → List (List ℕ) → Option Invocation
call_by [] fields = None
call_by (form ∷ others) fields = cond (is_form form.word form.more fields) (form.call fields) (call_by others fields)

unfoldable pub call_in : List (List ℕ) → Option Invocation
call_in fields = call_by forms fields

-- "One record a line, ended by byte 10, at most 4,096 bytes before it." (reading line-limit)
abbrev pub longest_line : ℕ
longest_line = 4_096

-- The call that a line makes, or none: "fields parted by one tab".
unfoldable pub call_of : List ℕ → Option Invocation
call_of line = cond (leb (length line) longest_line) (call_in (parts tab line)) None
