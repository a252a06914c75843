-- Document 01's numbers and values for each case of an answer.
use Rattle.std.specs.Prelude.{ℕ, Bool, true, false, List, [], ◌∷◌, Option, None, Some, Result, Ok, Err}
use Rattle.basis.specs.declared.Refusal.{Refusal}
use Rattle.basis.specs.declared.Refusal.TheVariants.{StateNotSound, HardwareNotAllowed, TimeAboveRange, TimeBelowLatest, BufferTooShort, PacketTooShort, FrameUnknown, AddressNotAllowed, PolicyUnknown, AddressHeld, NoSlotFree, AskedTooSoon, SlotNotHeld, LineMalformed}
use Rattle.basis.specs.declared.Kind.{Kind}
use Rattle.basis.specs.declared.Kind.TheVariants.{Fresh, Taken, Nothing, Probe, Announce, Defend, Lost, Kept, Dropped}
use Rattle.basis.specs.declared.Success.{Success}
use Rattle.basis.specs.declared.Time.{Time}

-- "Refusal numbers".
abbrev pub refusal_number : Refusal → ℕ
refusal_number StateNotSound = 1
refusal_number HardwareNotAllowed = 2
refusal_number TimeAboveRange = 3
refusal_number TimeBelowLatest = 4
refusal_number BufferTooShort = 5
refusal_number PacketTooShort = 6
refusal_number FrameUnknown = 7
refusal_number AddressNotAllowed = 8
refusal_number PolicyUnknown = 9
refusal_number AddressHeld = 10
refusal_number NoSlotFree = 11
refusal_number AskedTooSoon = 12
refusal_number SlotNotHeld = 13
refusal_number LineMalformed = 14

-- "The lowest number that applies is given, and none is given otherwise": `5 if a else 7 if b else none` is the first that
-- applies, and its rows stand in rising order, but for the clock's, whose section has its own (reading lowest-number).
infixr 20 ◌if◌else◌
abbrev pub ◌if◌else◌ : ℕ → Bool → Option ℕ → Option ℕ
n if true else rest = Some n
n if false else rest = rest

-- What a call reports: "its number alone", or what an accepted call has to say.
pub data Report (A : Type 0) : Type 0 where
  refused : ℕ → Report A
  accepted : A → Report A

-- What the code answers as a report: a refusal by its number, else what this tells of the rest.
abbrev pub report_of : {A B : Type 0} → (A → B) → Result A Refusal → Report B
report_of told (Err refusal) = refused (refusal_number refusal)
report_of told (Ok a) = accepted (told a)

-- The report of a call with this refusal, or none.
abbrev pub reported : {A : Type 0} → Option ℕ → A → Report A
reported None a = accepted a
reported (Some n) a = refused n

-- What a call with this refusal, or none, leaves of a state or a lent buffer: refused, the old; accepted, the new.
abbrev pub leaves : {A : Type 0} → Option ℕ → A → A → A
leaves None old new = new
leaves (Some n) old new = old

-- "Kinds: fresh, taken, none, probe, announce, defend, lost, kept, dropped", in this order, as their letters' codes.
unfoldable pub kind_word : Kind → List ℕ
kind_word Fresh = 102 ∷ 114 ∷ 101 ∷ 115 ∷ 104 ∷ []
kind_word Taken = 116 ∷ 97 ∷ 107 ∷ 101 ∷ 110 ∷ []
kind_word Nothing = 110 ∷ 111 ∷ 110 ∷ 101 ∷ []
kind_word Probe = 112 ∷ 114 ∷ 111 ∷ 98 ∷ 101 ∷ []
kind_word Announce = 97 ∷ 110 ∷ 110 ∷ 111 ∷ 117 ∷ 110 ∷ 99 ∷ 101 ∷ []
kind_word Defend = 100 ∷ 101 ∷ 102 ∷ 101 ∷ 110 ∷ 100 ∷ []
kind_word Lost = 108 ∷ 111 ∷ 115 ∷ 116 ∷ []
kind_word Kept = 107 ∷ 101 ∷ 112 ∷ 116 ∷ []
kind_word Dropped = 100 ∷ 114 ∷ 111 ∷ 112 ∷ 112 ∷ 101 ∷ 100 ∷ []

-- What a call of each kind hands out, in the out buffer: nothing, a frame that was due, or a defence.
pub data HandedOut : Type 0 where
  hands_nothing : HandedOut
  hands_due : HandedOut
  hands_defence : HandedOut

abbrev pub handed_out_by : Kind → HandedOut
handed_out_by Fresh = hands_nothing
handed_out_by Taken = hands_nothing
handed_out_by Nothing = hands_nothing
handed_out_by Probe = hands_due
handed_out_by Announce = hands_due
handed_out_by Defend = hands_defence
handed_out_by Lost = hands_nothing
handed_out_by Kept = hands_nothing
handed_out_by Dropped = hands_nothing

-- A time that may be missing, as a number.
abbrev pub time_of : Option Time → Option ℕ
time_of None = None
time_of (Some time) = Some time.0

-- "Every accepted call reports a kind, the slot concerned or none, and the smallest deadline left or none."
pub record Accepted : Type 0 where
  pub kind : Kind
  pub slot : Option ℕ
  pub next : Option ℕ

-- The answer of fresh, ask, tick, packet and drop, and its report in document 01's numbers and values.
abbrev pub Answer : Type 0
Answer = Result Success Refusal

abbrev pub accepted_of : Success → Accepted
accepted_of success = record { kind = success.kind; slot = success.slot; next = time_of success.next }

unfoldable pub answer_report : Answer → Report Accepted
answer_report answer = report_of accepted_of answer
