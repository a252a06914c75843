-- A report says which answer was given: no two answers have the same numbers and values.
use Prim.Native.Nat.{ℕ, ◌-◌, ◌≤◌}
use mathlib.Core.Path.{◌≡◌, refl, sym, subst, ap, ◌∙◌}
use mathlib.Core.List.{List, [], ◌∷◌}
use mathlib.Core.Bool.{Bool, true, false, cond, ◌&&◌}
use Rattle.std.specs.Prelude.{Option, None, Some, Result, Ok, Err}
use lib.Dec.{leb}
use lib.ListN.{length, get_or}
use borrow.Author.Tests.{leb-true}
use Rattle.basis.specs.Bytes.{same_bytes}
use Rattle.basis.specs.Answers.{kind_word, time_of, Accepted, accepted_of, Answer, answer_report, report_of, refusal_number, refused, accepted, reported, leaves}
use Rattle.basis.specs.Frame.{read_report, write_report}
use Rattle.basis.specs.Clock.{ClockReport, clock_report}
use Rattle.std.proofs.lemmas.Bool.{and_parts}
use Rattle.basis.specs.declared.Refusal.{Refusal}
use Rattle.basis.specs.declared.Refusal.TheVariants.{StateNotSound, HardwareNotAllowed, TimeAboveRange, TimeBelowLatest, BufferTooShort, PacketTooShort, FrameUnknown, AddressNotAllowed, PolicyUnknown, AddressHeld, NoSlotFree, AskedTooSoon, SlotNotHeld, LineMalformed}
use Rattle.basis.specs.declared.Kind.{Kind}
use Rattle.basis.specs.declared.Kind.TheVariants.{Fresh, Taken, Nothing, Probe, Announce, Defend, Lost, Kept, Dropped}
use Rattle.basis.specs.declared.Success.{Success}
use Rattle.basis.specs.declared.ClockAnswer.{ClockAnswer}
use Rattle.basis.specs.declared.Time.{Time}
use Rattle.basis.specs.declared.Frame.{Frame}

-- The refusals in the order of their numbers, and the one with a number.
refusals : List Refusal
refusals =
    StateNotSound ∷ HardwareNotAllowed ∷ TimeAboveRange ∷ TimeBelowLatest ∷ BufferTooShort ∷ PacketTooShort ∷ FrameUnknown
    ∷ AddressNotAllowed ∷ PolicyUnknown ∷ AddressHeld ∷ NoSlotFree ∷ AskedTooSoon ∷ SlotNotHeld ∷ LineMalformed ∷ []

numbered : ℕ → Refusal
numbered n = get_or refusals (n - 1) StateNotSound

numbered_number : (r : Refusal) → numbered (refusal_number r) ≡ r
unfolding refusals numbered
numbered_number StateNotSound = refl
numbered_number HardwareNotAllowed = refl
numbered_number TimeAboveRange = refl
numbered_number TimeBelowLatest = refl
numbered_number BufferTooShort = refl
numbered_number PacketTooShort = refl
numbered_number FrameUnknown = refl
numbered_number AddressNotAllowed = refl
numbered_number PolicyUnknown = refl
numbered_number AddressHeld = refl
numbered_number NoSlotFree = refl
numbered_number AskedTooSoon = refl
numbered_number SlotNotHeld = refl
numbered_number LineMalformed = refl

pub number_tells : (r s : Refusal) → refusal_number r ≡ refusal_number s → r ≡ s
number_tells r s e = sym (numbered_number r) ∙ ap numbered e ∙ numbered_number s

-- Two answers of one report are one, where what is told of the rest says which it was.
report_tells : {A B : Type 0} (told : A → B) → ((a b : A) → told a ≡ told b → a ≡ b) →
    (r s : Result A Refusal) → report_of told r ≡ report_of told s → r ≡ s
report_tells told tells (Err r) (Err s) e = ap Err (number_tells r s (cc))
report_tells told tells (Err r) (Ok b) e = cc
report_tells told tells (Ok a) (Err s) e = cc
report_tells told tells (Ok a) (Ok b) e = ap Ok (tells a b (cc))

time_tells : (s t : Time) → s.0 ≡ t.0 → s ≡ t
time_tells s t e = λ i. record { 0 = e i }

pub read_tells : (r s : Result Frame Refusal) → read_report r ≡ read_report s → r ≡ s
read_tells r s e = report_tells (λ frame. frame) (λ f g h. h) r s e

pub write_tells : (r s : Result (Unit {0}) Refusal) → write_report r ≡ write_report s → r ≡ s
write_tells r s e = report_tells (λ done. done) (λ f g h. h) r s e

pub clock_tells : (r s : ClockAnswer) → clock_report r ≡ clock_report s → r ≡ s
clock_tells r s e =
    let steps = ap (λ (c : ClockReport). c.step) e in
    let times = report_tells (λ (time : Time). time.0) time_tells r.time s.time (ap (λ (c : ClockReport). c.time) e) in
    λ i. record { step = steps i; time = times i }

-- The kind with a word.
kinds : List Kind
kinds = Fresh ∷ Taken ∷ Nothing ∷ Probe ∷ Announce ∷ Defend ∷ Lost ∷ Kept ∷ Dropped ∷ []

worded : List Kind → List ℕ → Kind
worded [] word = Fresh
worded (kind ∷ rest) word = cond (same_bytes word (kind_word kind)) kind (worded rest word)

all_of : (Kind → Bool) → List Kind → Bool
all_of test [] = true
all_of test (kind ∷ rest) = test kind && all_of test rest

worded_word : (k : Kind) → worded kinds (kind_word k) ≡ k
unfolding kinds worded kind_word
worded_word Fresh = refl
worded_word Taken = refl
worded_word Nothing = refl
worded_word Probe = refl
worded_word Announce = refl
worded_word Defend = refl
worded_word Lost = refl
worded_word Kept = refl
worded_word Dropped = refl

-- A test that holds of each kind in the list holds of every kind.
worded_holds : (test : Kind → Bool) → test Fresh ≡ true → (some_kinds : List Kind) → all_of test some_kinds ≡ true → (word : List ℕ) →
    test (worded some_kinds word) ≡ true
unfolding worded all_of
worded_holds test first [] each word = first
worded_holds test first (kind ∷ rest) each word =
    let w = and_parts (test kind) (all_of test rest) each in
    go (same_bytes word (kind_word kind)) w.0 (worded_holds test first rest w.1 word)
  where
    go : (b : Bool) → test kind ≡ true → test (worded rest word) ≡ true → test (cond b kind (worded rest word)) ≡ true
    go true here later = here
    go false here later = later

-- No kind's word is longer.
abbrev pub longest_kind : ℕ
longest_kind = 8

pub kind_at_most : (kind : Kind) → length (kind_word kind) ≤ longest_kind
unfolding kinds all_of kind_word
kind_at_most kind =
    leb-true (length (kind_word kind)) longest_kind
    (subst (λ (k : Kind). leb (length (kind_word k)) longest_kind ≡ true) (worded_word kind)
    (worded_holds (λ (k : Kind). leb (length (kind_word k)) longest_kind) refl kinds refl (kind_word kind)))

pub word_tells : (j k : Kind) → kind_word j ≡ kind_word k → j ≡ k
word_tells j k e = sym (worded_word j) ∙ ap (worded kinds) e ∙ worded_word k

moment_tells : (s t : Option Time) → time_of s ≡ time_of t → s ≡ t
moment_tells None None e = refl
moment_tells None (Some t) e = cc
moment_tells (Some s) None e = cc
moment_tells (Some s) (Some t) e = ap Some (time_tells s t (cc))

success_tells : (a b : Success) → accepted_of a ≡ accepted_of b → a ≡ b
success_tells a b e =
    let kinds = ap (λ (c : Accepted). c.kind) e in
    let slots = ap (λ (c : Accepted). c.slot) e in
    let nexts = moment_tells a.next b.next (ap (λ (c : Accepted). c.next) e) in
    λ i. record { kind = kinds i; slot = slots i; next = nexts i }

pub answer_tells : (r s : Answer) → answer_report r ≡ answer_report s → r ≡ s
unfolding answer_report
answer_tells r s e = report_tells accepted_of success_tells r s e

-- What a report says of the refusal, and so of what the call leaves.
module _ {A : Type 0} where
  pub accepted_none : (refusal : Option ℕ) (a b : A) → accepted a ≡ reported refusal b → refusal ≡ None
  accepted_none None a b e = refl
  accepted_none (Some n) a b e = cc

  pub accepted_same : (refusal : Option ℕ) (a b : A) → accepted a ≡ reported refusal b → a ≡ b
  accepted_same None a b e = cc
  accepted_same (Some n) a b e = cc

  pub refused_some : (refusal : Option ℕ) (n : ℕ) (a : A) → refused n ≡ reported refusal a → refusal ≡ Some n
  refused_some None n a e = cc
  refused_some (Some m) n a e = cc

  pub refused_leaves : {B : Type 0} (refusal : Option ℕ) (n : ℕ) (a : A) (old new : B) → refused n ≡ reported refusal a →
      leaves refusal old new ≡ old
  refused_leaves None n a old new e = cc
  refused_leaves (Some m) n a old new e = refl
