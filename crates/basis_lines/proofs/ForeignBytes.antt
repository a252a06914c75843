-- "Anything else [..] is 14": one foreign byte, at any place of a line, is enough.
use Prim.Native.Nat.{ℕ, suc}
use mathlib.Core.Path.{◌≡◌, refl, sym, ap, ◌∙◌}
use mathlib.Core.Bool.{Bool, true, false, not, cond, ◌&&◌, ◌||◌, and-false, true≢false}
use mathlib.Core.List.{List, [], ◌∷◌, ◌++◌, map}
use Rattle.std.specs.Prelude.{Option, None}
use native.Mathlib.Omega.{arith}
use lib.Dec.{eqb, leb}
use lib.ListN.{length}
use borrow.Author.Tests.{lt-leb, leb-false, eqb-true, not-true}
use Rattle.basis.specs.Bytes.{same_bytes}
use Rattle.basis.specs.declared.Interface.{Interface}
use Rattle.basis.proofs.BytesLaws.{same_equal}
use Rattle.basis_engine.specs.Machine.{Invocation}
use Rattle.std.proofs.lemmas.Bool.{or_parts}
use Rattle.basis_lines.specs.Fields.{tab, dot, parts, ◌then◌}
use Rattle.basis_lines.specs.Numbers.{is_digit, hex_digit, address, largest, largest_draw}
use Rattle.basis_lines.specs.Forms.{call_in, call_of, fresh_word, ask_word, tick_word, packet_word, drop_word}
use Rattle.basis_lines.specs.Answers.{line_answer, malformed}
use Rattle.basis_lines.proofs.ReadingLaws.{then_none, cond_none}
use Rattle.basis_lines.proofs.PartLaws.{OneHas, first, later, byte_in_parts}
use Rattle.basis_lines.proofs.NumberLaws.{foreign_in_number}
use Rattle.basis_lines.proofs.HexLaws.{foreign_in_bytes, foreign_in_hardware}
use Rattle.basis_lines.proofs.AddressLaws.{foreign_in_address}

-- The bytes that a field may have: those of a number, of an address, of bytes or hardware.
pub data Alphabet : Type 0 where
  digits dotted hex : Alphabet

abbrev pub is_in : Alphabet → ℕ → Bool
is_in digits b = is_digit b
is_in dotted b = is_digit b || eqb b dot
is_in hex b = is_digit b || (leb 97 b && leb b 102)

-- A form: its word and the alphabet of each field after it.
pub data Form : List ℕ → List Alphabet → Type 0 where
  fresh : Form fresh_word (hex ∷ [])
  ask : Form ask_word (digits ∷ dotted ∷ digits ∷ digits ∷ [])
  tick : Form tick_word (digits ∷ digits ∷ [])
  packet : Form packet_word (digits ∷ hex ∷ [])
  drop : Form drop_word (digits ∷ digits ∷ [])

-- Fields of which one has a byte outside its alphabet, at any place.
pub data OneStray : List Alphabet → List (List ℕ) → Type 0 where
  here : {alphabet : Alphabet} {more : List Alphabet} {fields : List (List ℕ)} (front : List ℕ) (b : ℕ) (back : List ℕ) →
      is_in alphabet b ≡ false → OneStray (alphabet ∷ more) ((front ++ (b ∷ back)) ∷ fields)
  there : {alphabet : Alphabet} {more : List Alphabet} {field : List ℕ} {fields : List (List ℕ)} →
      OneStray more fields → OneStray (alphabet ∷ more) (field ∷ fields)

-- What such a field is read as.
no_address : (front : List ℕ) (b : ℕ) (back : List ℕ) → is_in dotted b ≡ false → address (front ++ (b ∷ back)) ≡ None
no_address front b back e =
    let (digit, other) = or_parts (is_digit b) (eqb b dot) e in foreign_in_address front b back digit other

no_hex : (b : ℕ) → is_in hex b ≡ false → hex_digit b ≡ None
no_hex b e = let (digit, letter) = or_parts (is_digit b) (leb 97 b && leb b 102) e in rw (digit, letter)

-- A reading whose next one is none.
unread_next : {A B : Type 0} (o : Option A) → ◌≡◌ {A = Option B} (o then λ a. None) None
unread_next o = then_none o _ (λ a. refl)

-- Such fields after the form's word make no call, whatever the others are and however many.
pub stray_in_form : {word : List ℕ} {alphabets : List Alphabet} {fields : List (List ℕ)} → Form word alphabets →
    OneStray alphabets fields → call_in (word ∷ fields) ≡ None
unfolding call_in
stray_in_form fresh (here front b back e) = simp (foreign_in_hardware front b back (no_hex b e), cond_none)
stray_in_form ask (here front b back e) = simp (foreign_in_number largest front b back e, cond_none)
stray_in_form ask (there (here front b back e)) = simp (no_address front b back e, unread_next, cond_none)
stray_in_form ask (there (there (here front b back e))) = simp (foreign_in_number largest front b back e, unread_next, cond_none)
stray_in_form ask (there (there (there (here front b back e)))) =
    simp (foreign_in_number largest_draw front b back e, unread_next, cond_none)
stray_in_form tick (here front b back e) = simp (foreign_in_number largest front b back e, cond_none)
stray_in_form tick (there (here front b back e)) = simp (foreign_in_number largest_draw front b back e, unread_next, cond_none)
stray_in_form packet (here front b back e) = simp (foreign_in_number largest front b back e, cond_none)
stray_in_form packet (there (here front b back e)) =
    simp (foreign_in_bytes front b back (no_hex b e), unread_next, cond_none)
stray_in_form drop (here front b back e) = simp (foreign_in_number largest front b back e, cond_none)
stray_in_form drop (there (here front b back e)) = simp (foreign_in_number largest front b back e, unread_next, cond_none)
stray_in_form fresh (there {field = field} {fields = fields} none_left) = elim none_left [ ]
stray_in_form ask (there {field = field} (there (there (there {field = last} {fields = fields} none_left)))) = elim none_left [ ]
stray_in_form tick (there {field = field} (there {fields = fields} none_left)) = elim none_left [ ]
stray_in_form packet (there {field = field} (there {fields = fields} none_left)) = elim none_left [ ]
stray_in_form drop (there {field = field} (there {fields = fields} none_left)) = elim none_left [ ]

unread_line : (s : Interface) (line : List ℕ) → call_in (parts tab line) ≡ None → line_answer s line ≡ malformed s
unfolding line_answer call_of
unread_line s line e = rw (e, cond_none)

-- A byte outside its field's alphabet: the line is 14.
pub stray_byte : (s : Interface) (line : List ℕ) {word : List ℕ} {fields : List (List ℕ)} {alphabets : List Alphabet} →
    parts tab line ≡ word ∷ fields → Form word alphabets → OneStray alphabets fields → line_answer s line ≡ malformed s
stray_byte s line is form stray = unread_line s line (ap call_in is ∙ stray_in_form form stray)

abbrev pub is_letter : ℕ → Bool
is_letter b = leb 97 b && leb b 122

-- A byte that no line with a call has: neither a digit, nor a tab, nor a dot, nor a lower-case letter.
abbrev pub is_foreign : ℕ → Bool
is_foreign b = not (is_digit b || eqb b tab || eqb b dot || is_letter b)

record Foreign (b : ℕ) : Type 0 where
  no_digit : is_digit b ≡ false
  no_tab : eqb b tab ≡ false
  no_dot : eqb b dot ≡ false
  no_letter : is_letter b ≡ false

foreign_facts : (b : ℕ) → is_foreign b ≡ true → Foreign b
foreign_facts b e =
    let (others, letter) = or_parts (is_digit b || eqb b tab || eqb b dot) (is_letter b) (not-true _ e) in
    let (fewer, dots) = or_parts (is_digit b || eqb b tab) (eqb b dot) others in
    let (digit, tabs) = or_parts (is_digit b) (eqb b tab) fewer in
    record { no_digit = digit; no_tab = tabs; no_dot = dots; no_letter = letter }

outside : (b : ℕ) → Foreign b → (alphabet : Alphabet) → is_in alphabet b ≡ false
outside b foreign digits = foreign.no_digit
outside b foreign dotted = rw (foreign.no_digit, foreign.no_dot)
outside b foreign hex = rw foreign.no_digit (fewer (leb 97 b) foreign.no_letter)
  where
    fewer : (low : Bool) → (low && leb b 122) ≡ false → (low && leb b 102) ≡ false
    fewer true e = lt-leb b 102 (omega (arith, leb-false b 122 e))
    fewer false e = refl

-- No word has such a byte.
are_letters : List ℕ → Bool
are_letters [] = true
are_letters (b ∷ text) = is_letter b && are_letters text

foreign_in_letters : (front : List ℕ) (b : ℕ) (back : List ℕ) → is_letter b ≡ false → are_letters (front ++ (b ∷ back)) ≡ false
unfolding are_letters
foreign_in_letters [] b back e = rw e
foreign_in_letters (x ∷ front) b back e = rw (foreign_in_letters front b back e) (and-false (is_letter x))

word_letters : {word : List ℕ} {alphabets : List Alphabet} → Form word alphabets → are_letters word ≡ true
unfolding are_letters
word_letters fresh = refl
word_letters ask = refl
word_letters tick = refl
word_letters packet = refl
word_letters drop = refl

foreign_is_stray : (b : ℕ) → Foreign b → {fields : List (List ℕ)} → OneHas b fields → (alphabets : List Alphabet) →
    length fields ≡ length alphabets → OneStray alphabets fields
foreign_is_stray b foreign (first front back fields) [] e = absurd (omega arith)
foreign_is_stray b foreign (first front back fields) (alphabet ∷ more) e = here front b back (outside b foreign alphabet)
foreign_is_stray b foreign (later has) [] e = absurd (omega arith)
foreign_is_stray b foreign (later has) (alphabet ∷ more) e = there (foreign_is_stray b foreign has more (omega arith))

-- Fields of which one has a foreign byte, if they are a form's word and its count of others: one of those has the byte.
no_call_of : {b : ℕ} {word w : List ℕ} {fields : List (List ℕ)} {alphabets : List Alphabet} → Foreign b →
    OneHas b (word ∷ fields) → Form w alphabets → same_bytes word w ≡ true →
    eqb (suc (length fields)) (suc (length alphabets)) ≡ true → call_in (w ∷ fields) ≡ None
no_call_of {b = b} {w = w} foreign (first front back fields) form same count =
    let letters = ap are_letters (same_equal (front ++ (b ∷ back)) w same) ∙ word_letters form in
    absurd (true≢false (sym letters ∙ foreign_in_letters front b back foreign.no_letter))
no_call_of {b = b} {fields = fields} {alphabets = alphabets} foreign (later has) form same count =
    stray_in_form form
    (foreign_is_stray b foreign has alphabets (omega (arith, eqb-true (suc (length fields)) (suc (length alphabets)) count)))

-- A form passed over: its word is not there, or not its count of fields, or it makes no call.
pass : (same counted : Bool) (call rest : Option Invocation) → (same ≡ true → counted ≡ true → cond counted call None ≡ None) →
    rest ≡ None → cond (same && counted) call rest ≡ None
pass true true call rest unread none_left = unread refl refl
pass true false call rest unread none_left = none_left
pass false counted call rest unread none_left = none_left

no_call : {b : ℕ} → Foreign b → (fields : List (List ℕ)) → OneHas b fields → call_in fields ≡ None
unfolding call_in
no_call {b = b} foreign [] has = elim has [ ]
no_call foreign (word ∷ fields) has =
    pass (same_bytes word fresh_word) (eqb (suc (length fields)) 2) _ _ (no_call_of foreign has fresh)
    (pass (same_bytes word ask_word) (eqb (suc (length fields)) 5) _ _ (no_call_of foreign has ask)
    (pass (same_bytes word tick_word) (eqb (suc (length fields)) 3) _ _ (no_call_of foreign has tick)
    (pass (same_bytes word packet_word) (eqb (suc (length fields)) 3) _ _ (no_call_of foreign has packet)
    (pass (same_bytes word drop_word) (eqb (suc (length fields)) 3) _ _ (no_call_of foreign has drop)
    refl))))

-- One foreign byte, at any place of any line: 14.
pub foreign_byte : (s : Interface) (front : List ℕ) (b : ℕ) (back : List ℕ) → is_foreign b ≡ true →
    line_answer s (front ++ (b ∷ back)) ≡ malformed s
foreign_byte s front b back e =
    let foreign = foreign_facts b e in
    unread_line s (front ++ (b ∷ back)) (no_call foreign _ (byte_in_parts tab front b back foreign.no_tab))

-- Such are NUL, CR, a space, a plus, a minus, a capital, and the bytes C2 and A0 of a wide gap.
foreign_examples :
    map (λ (b : ℕ). is_foreign b) (0 ∷ 13 ∷ 32 ∷ 43 ∷ 45 ∷ 65 ∷ 0xc2 ∷ 0xa0 ∷ [])
    ≡ true ∷ true ∷ true ∷ true ∷ true ∷ true ∷ true ∷ true ∷ []
foreign_examples = refl
