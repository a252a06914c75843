-- How the parts of a line make up its call.
use Prim.Native.Nat.{ℕ, suc, ◌<◌, ◌≤◌}
use mathlib.Core.Path.{◌≡◌, refl, ap, ap₂, sym, subst, ◌∙◌}
use mathlib.Core.Bool.{Bool, true, false, cond, and-false, true≢false}
use mathlib.Core.List.{List, [], ◌∷◌, ◌++◌, append_assoc}
use mathlib.Core.Logic.{◌⊎◌, inl, inr, ⊎_elim}
use Rattle.std.specs.Prelude.{Option, None, Some, option_map, nat_eq, MatchOption, IsSomeAnd}
use Rattle.std.specs.Cmp.Lexicographic.{pointwise}
use Rattle.std.proofs.Common.{take-append-drop}
use Rattle.std.proofs.lemmas.Slice.Eq.{bytes_eq-Decides}
use native.Mathlib.Nat.{eq-or-lt_of_le}
use native.Mathlib.Omega.{arith}
use lib.ListN.{length, take, drop}
use lib.Seq.{take-append_seam}
use borrow.Author.Tests.{le-leb, lt-leb}
use Rattle.basis.specs.Bytes.{same_bytes}
use Rattle.basis.proofs.BytesLaws.{same_equal}
use Rattle.basis.specs.declared.Call.{Call}
use Rattle.basis.specs.declared.Time.{Time}
use Rattle.basis_engine.specs.Machine.{Invocation}
use Rattle.basis_lines.specs.Fields.{tab, parts, first_part, ◌then◌}
use Rattle.basis_lines.specs.Numbers.{number, largest}
use Rattle.basis_lines.specs.Forms.{longest_line, call_of, call_in, fresh_word, ask_word, tick_word, packet_word, drop_word, fresh_call}
use Rattle.basis_lines.proofs.FieldLaws.{first_length, one_part, more_parts, separated}
use Rattle.parse_numbers.specs.declared.Digits.{Digits}
use Rattle.parse_forms.specs.declared.Parsed.{Parsed}
use Rattle.parse_forms.specs.Commands.{asked, made_of, headed, Makes, if_count}
use Rattle.parse_forms.proofs.Counts.{ReadNext, alone, unread, goes_on}
use Rattle.parse_command.specs.declared.Form.{Form}
use Rattle.parse_command.specs.Words.{row_of, timed_call, behind_word, untimed_call}

-- A call without bytes.
whole_call : (call : Option Call) → asked call ≡ option_map headed (asked call)
whole_call None = refl
whole_call (Some call) = refl

abbrev Plain : Option Call → Option Parsed → Type 0
Plain call r = MatchOption call (r ≡ None) (λ c. IsSomeAnd r (λ p. (p.call ≡ c) × (p.count ≡ 0)))

plain_made : (call : Option Call) (r : Option Parsed) (head : List ℕ) → Plain call r → made_of r head ≡ asked call
plain_made None r head e = rw e refl
plain_made (Some call) None head e = absurd e
plain_made (Some call) (Some p) head e = rw (e.0, e.1)

pub plain_makes : (call : Option Call) (r : Option Parsed) (head : List ℕ) (line : Option Invocation)
    → Plain call r → asked call ≡ line → Makes r head line
plain_makes call r head line e f = record { makes = plain_made call r head e ∙ whole_call call ∙ ap (option_map headed) f }

none_makes : (head : List ℕ) (line : Option Invocation) → None ≡ line → Makes None head line
none_makes head line e = record { makes = ap (option_map headed) e }

-- The time.
time_then : {A : Type 0} (o : Option ℕ) (next : Time → Option A)
    → ((o then λ ms. Some (record { 0 = ms })) then next) ≡ (o then λ ms. next (record { 0 = ms }))
time_then None next = refl
time_then (Some ms) next = refl

pub time_next : (form : Form)
    → ReadNext (row_of form).count ([] ∷ []) (timed_call (row_of form)) (number largest) (λ ms. (row_of form).call (record { 0 = ms }))
time_next Form.Tick = record { not_last = omega arith; reads = λ x ys. time_then (number largest x) _ }
time_next Form.Packet = record { not_last = omega arith; reads = λ x ys. time_then (number largest x) _ }
time_next Form.Ask = record { not_last = omega arith; reads = λ x ys. time_then (number largest x) _ }
time_next Form.Drop = record { not_last = omega arith; reads = λ x ys. time_then (number largest x) _ }

module _ (form : Form) (rest head : List ℕ) (first : Option Digits)
    (read : option_map (λ f. f.value) first ≡ number largest (first_part tab rest)) where
  pub no_time : first ≡ None → Makes None head (behind_word form rest)
  no_time none = none_makes head _ (sym (unread (time_next form) rest (sym read ∙ ap (option_map (λ f. f.value)) none)))

  module _ (f : Digits) (some : first ≡ Some f) (ends : f.count ≡ length (first_part tab rest)) where
    pub time_alone : length rest ≤ f.count → Makes None head (behind_word form rest)
    time_alone all = none_makes head _ (sym (alone (time_next form) rest (omega (arith, all, ends))))

    pub time_read : f.count < length rest → (fields : List ℕ) → fields ≡ drop (suc f.count) rest → (r : Option Parsed)
        → Makes r head (if_count (row_of form).count ((row_of form).call (record { 0 = f.value })) ([] ∷ [] ∷ parts tab fields))
        → Makes r head (behind_word form rest)
    time_read more fields behind r =
        subst (Makes r head)
        (goes_on (time_next form) rest f.value f.count fields (sym read ∙ ap (option_map (λ f. f.value)) some) ends more behind)

pub ruleset time_ends = (no_time, time_alone, time_read)

-- A line that is a form's word, a tab and more makes that form's call.
word_line : (form : Form) (rest : List ℕ)
    → call_in (parts tab ((row_of form).word ++ (tab ∷ rest))) ≡ behind_word form rest
unfolding call_in parts
word_line Form.Tick rest = refl
word_line Form.Packet rest = refl
word_line Form.Ask rest = refl
word_line Form.Drop rest = refl

-- `fresh` makes the one form whose word no time follows.
fresh_form : (rest : List ℕ) → untimed_call (parts tab (fresh_word ++ (tab ∷ rest))) ≡ if_count 2 fresh_call ([] ∷ parts tab rest)
unfolding parts
fresh_form rest = refl

-- Any other word makes none.
no_timed_form : (word : List ℕ) (fields : List (List ℕ))
    → same_bytes word tick_word ≡ false
    → same_bytes word packet_word ≡ false
    → same_bytes word ask_word ≡ false
    → same_bytes word drop_word ≡ false
    → call_in (word ∷ fields) ≡ untimed_call (word ∷ fields)
unfolding call_in
no_timed_form word fields a b c d = rw (a, b, c, d) refl

-- One field alone makes none.
no_fields : (word : List ℕ) → call_in (word ∷ []) ≡ untimed_call (word ∷ [])
unfolding call_in
no_fields word =
    rw (
      and-false (same_bytes word ask_word),
      and-false (same_bytes word tick_word),
      and-false (same_bytes word packet_word),
      and-false (same_bytes word drop_word),
    )
    refl

-- A word and the tab behind it.
abbrev with_tab : List ℕ → List ℕ
with_tab word = word ++ (tab ∷ [])

-- The test whether a line begins with them.
abbrev begins : List ℕ → List ℕ → Bool
begins word line = pointwise nat_eq (take (length (with_tab word)) line) (with_tab word)

module _ (word line : List ℕ) where
  -- A line that begins with them is the word, a tab and what is behind it.
  begun_parts : begins word line ≡ true → (rest : List ℕ) → rest ≡ drop (length (with_tab word)) line → line ≡ word ++ (tab ∷ rest)
  begun_parts e rest behind =
      sym (take-append-drop (length (with_tab word)) line)
      ∙ ap₂ (λ front l. front ++ l) ((bytes_eq-Decides (take (length (with_tab word)) line) (with_tab word)).0 e) (sym behind)
      ∙ append_assoc word (tab ∷ []) rest

  -- The first part of any other line is not the word, unless it is all of the line.
  other_word : begins word line ≡ false → length (first_part tab line) < length line → same_bytes (first_part tab line) word ≡ false
  other_word e more = cases (same_bytes (first_part tab line) word) refl
    where
      rest : List ℕ
      rest = drop (suc (length (first_part tab line))) line

      whole : same_bytes (first_part tab line) word ≡ true → line ≡ with_tab word ++ rest
      whole t =
          separated tab line more
          ∙ ap (λ p. p ++ (tab ∷ rest)) (same_equal (first_part tab line) word t)
          ∙ sym (append_assoc word (tab ∷ []) rest)

      front : same_bytes (first_part tab line) word ≡ true → take (length (with_tab word)) line ≡ with_tab word
      front t = ap (take (length (with_tab word))) (whole t) ∙ take-append_seam (with_tab word) rest

      cases : (t : Bool) → same_bytes (first_part tab line) word ≡ t → same_bytes (first_part tab line) word ≡ false
      cases true t =
          absurd (true≢false (sym ((bytes_eq-Decides (take (length (with_tab word)) line) (with_tab word)).1 (front t)) ∙ e))
      cases false t = t

-- The first word.
pub timed_word : (form : Form) (line : List ℕ) → begins (row_of form).word line ≡ true
    → (rest : List ℕ) → rest ≡ drop (length (with_tab (row_of form).word)) line → call_in (parts tab line) ≡ behind_word form rest
timed_word form line e rest behind = ap (λ l. call_in (parts tab l)) (begun_parts (row_of form).word line e rest behind) ∙ word_line form rest

abbrev Untimed : List (List ℕ) → Type 0
Untimed fields = call_in fields ≡ untimed_call fields

pub no_timed_word : (line : List ℕ)
    → begins tick_word line ≡ false
    → begins packet_word line ≡ false
    → begins ask_word line ≡ false
    → begins drop_word line ≡ false
    → Untimed (parts tab line)
no_timed_word line a b c d = ⊎_elim alone more (eq-or-lt_of_le (first_length tab line))
  where
    alone : length (first_part tab line) ≡ length line → Untimed (parts tab line)
    alone h = subst Untimed (sym (one_part tab line h)) (no_fields line)

    more : length (first_part tab line) < length line → Untimed (parts tab line)
    more h =
        subst Untimed (sym (more_parts tab line h))
        (no_timed_form (first_part tab line) _
        (other_word tick_word line a h)
        (other_word packet_word line b h)
        (other_word ask_word line c h)
        (other_word drop_word line d h))

-- A whole line.
pub too_long : (line head : List ℕ) → longest_line < length line → Makes None head (call_of line)
unfolding call_of
too_long line head h = none_makes head _ (rw (lt-leb (length line) longest_line h))

module _ (line head : List ℕ) (short : length line ≤ longest_line) where
  whole_line : call_in (parts tab line) ≡ call_of line
  unfolding call_of
  whole_line = sym (ap (λ t. cond t (call_in (parts tab line)) None) (le-leb (length line) longest_line short))

  pub timed_line : (form : Form) (rest : List ℕ) → call_in (parts tab line) ≡ behind_word form rest
      → (r : Option Parsed) → Makes r head (behind_word form rest) → Makes r head (call_of line)
  timed_line form rest told r = subst (Makes r head) (sym told ∙ whole_line)

  module _ (told : call_in (parts tab line) ≡ untimed_call (parts tab line)) where
    pub fresh_line : begins fresh_word line ≡ true → (rest : List ℕ) → rest ≡ drop (length (with_tab fresh_word)) line
        → (call : Option Call) → asked call ≡ if_count 2 fresh_call ([] ∷ parts tab rest)
        → (r : Option Parsed) → Plain call r → Makes r head (call_of line)
    fresh_line e rest behind call is r plain =
        plain_makes call r head (call_of line) plain
        (is
        ∙ sym (ap (λ l. untimed_call (parts tab l)) (begun_parts fresh_word line e rest behind) ∙ fresh_form rest)
        ∙ sym told
        ∙ whole_line)

    pub other_line : begins fresh_word line ≡ false → Makes None head (call_of line)
    other_line e = none_makes head _ (sym (untimed_none (eq-or-lt_of_le (first_length tab line))) ∙ sym told ∙ whole_line)
      where
        untimed_none : (length (first_part tab line) ≡ length line) ⊎ (length (first_part tab line) < length line)
            → untimed_call (parts tab line) ≡ None
        untimed_none (inl h) = rw (one_part tab line h, and-false (same_bytes line fresh_word))
        untimed_none (inr h) = rw (more_parts tab line h, other_word fresh_word line e h)

pub ruleset line_ends = (too_long, timed_line, fresh_line, other_line)
