-- The work on a stream, line by line as the code does it, and the law of streams: `streams`.
use Prim.Native.Nat.{ℕ, zero, suc, ◌+◌, ◌-◌, ◌<◌, ◌≤◌}
use mathlib.Core.Path.{◌≡◌, refl, sym, ap, ap₂, ◌∙◌}
use mathlib.Core.Bool.{Bool, true, false, true≢false, false≢true, cond, ◌||◌}
use mathlib.Core.List.{List, [], ◌∷◌, ◌++◌, append-nil, append_assoc}
use native.Mathlib.Nat.{zero-add, add_assoc}
use native.Mathlib.Omega.{arith}
use lib.Dec.{eqb, ltb}
use borrow.Author.Tests.{ltb-true, ltb-false, lt-ltb, le-ltb, le-leb}
use lib.ListN.{length, take, drop, replicate, length-append, length-drop}
use lib.Seq.{append_snoc, length-take-le, take_at, drop_at, take-add, drop-append_seam, drop-append-add}
use Rattle.std.proofs.lemmas.Bool.{or_parts}
use Rattle.basis.specs.declared.Interface.{Interface}
use Rattle.basis_engine.specs.Interface.{zeros}
use Rattle.basis_lines.specs.declared.Stream.{Stream}
use Rattle.basis_lines.specs.Fields.{newline, first_part}
use Rattle.basis_lines.specs.Numbers.{last_digits}
use Rattle.basis_lines.specs.Answers.{refused_text, Answered, malformed, line_answer, longest_answer}
use Rattle.basis_lines.specs.Records.{records_after, answers, replay}
use Rattle.basis_lines.specs.Forms.{longest_line}
use Rattle.basis_lines.specs.Stream.{Work, ended_answer, at_line_start, after_line, room_after, is_full, wait, stop, afterwards, work_after, work, finish, Action, arrives, works, Going, after, arrived, acted, begin, is_waiting, output_at_end, kept, kept_length, Theorem}
use Rattle.basis_lines.proofs.RecordLaws.{by_line, by_end, too_long_refused}

-- What comes before work in two steps comes before it in one.
pub afterwards_nothing : (w : Work) → afterwards 0 [] w ≡ w
afterwards_nothing w =
    ap (λ (n : ℕ). record { stream = w.stream; used = n; text = w.text; waiting = w.waiting }) (zero-add w.used)

pub afterwards_twice : (a b : ℕ) (x y : List ℕ) (w : Work) → afterwards a x (afterwards b y w) ≡ afterwards (a + b) (x ++ y) w
afterwards_twice a b x y w =
    ap₂ (λ (n : ℕ) (text : List ℕ). record { stream = w.stream; used = n; text = text; waiting = w.waiting })
    (sym (add_assoc a b w.used))
    (sym (append_assoc x y w.text))

-- A stream by its two parts.
abbrev pub stream : Interface → Bool → Stream
stream s skipping = record { state = s; skipping = skipping }

-- The work where a line has ended.
abbrev pub line_done : Stream → List ℕ → List ℕ → ℕ → Work
line_done st line rest room =
    cond (is_full room) (stop st)
    (afterwards (suc (length line)) (ended_answer st line).text (work (after_line st line) rest (room_after st line room)))

module _ (st : Stream) (input : List ℕ) (room : ℕ) where
  work_on : (begun : List ℕ) (b : ℕ) (rest : List ℕ) → eqb b newline ≡ false →
      work_after st begun (b ∷ rest) room ≡ work_after st (begun ++ (b ∷ [])) rest room
  unfolding work_after
  work_on begun b rest e = rw e

  -- A line that byte 10 ends is answered where there is room, and the work goes on after it.
  pub work_line : length (first_part newline input) < length input →
      work st input room ≡ line_done st (first_part newline input) (drop (suc (length (first_part newline input))) input) room
  unfolding work_after
  work_line h = by_line (λ begun rest. work_after st begun rest room) work_on input h

  -- Without a byte 10 the work waits.
  pub work_wait : length (first_part newline input) ≡ length input → work st input room ≡ wait st input
  unfolding work_after
  work_wait h = by_end (λ begun rest. work_after st begun rest room) work_on input h

-- "At most 4,096 bytes": so much of a line that has not ended is left for the next call,
pub work_keeps : (s : Interface) (input : List ℕ) (room : ℕ) → length (first_part newline input) ≡ length input →
    length input ≤ 4_096 →
    work (at_line_start s) input room ≡ record { stream = at_line_start s; used = 0; text = []; waiting = true }
work_keeps s input room h few = work_wait (at_line_start s) input room h ∙ search (le-ltb longest_line (length input) (omega arith))

-- and with one byte more the line is too long already and is used up, without an answer yet.
pub work_skips : (s : Interface) (input : List ℕ) (room : ℕ) → length (first_part newline input) ≡ length input →
    4_096 < length input →
    work (at_line_start s) input room ≡ record { stream = stream s true; used = length input; text = []; waiting = true }
work_skips s input room h many = work_wait (at_line_start s) input room h ∙ search (lt-ltb longest_line (length input) (omega arith))

-- The output still to come, of a stream and the rest of its input after the bytes of a line begun.
to_come : Stream → List ℕ → List ℕ → List ℕ
to_come st begun [] = finish st begun
to_come st begun (b ∷ input) =
    cond (eqb b newline)
    ((ended_answer st begun).text ++ to_come (at_line_start (ended_answer st begun).state) [] input)
    (to_come st (begun ++ (b ∷ [])) input)

module _ (st : Stream) (begun : List ℕ) (b : ℕ) (input : List ℕ) where
  to_come_end : eqb b newline ≡ true →
      to_come st begun (b ∷ input) ≡ (ended_answer st begun).text ++ to_come (at_line_start (ended_answer st begun).state) [] input
  unfolding to_come
  to_come_end e = rw e

  to_come_more : eqb b newline ≡ false → to_come st begun (b ∷ input) ≡ to_come st (begun ++ (b ∷ [])) input
  unfolding to_come
  to_come_more e = rw e

-- At a line's start it is what the records give.
to_come_records : (s : Interface) (begun input : List ℕ) →
    to_come (at_line_start s) begun input ≡ answers s (records_after begun input)
unfolding to_come records_after answers
to_come_records s [] [] = refl
to_come_records s (c ∷ begun) [] = sym (append-nil (malformed s).text)
to_come_records s begun (b ∷ input) =
    cases (eqb b newline) refl
    (to_come_records (line_answer s begun).state [] input)
    (to_come_records s (begun ++ (b ∷ [])) input)
  where
    cases : (t : Bool) → eqb b newline ≡ t →
        to_come (at_line_start (line_answer s begun).state) [] input ≡ answers (line_answer s begun).state (records_after [] input) →
        to_come (at_line_start s) (begun ++ (b ∷ [])) input ≡ answers s (records_after (begun ++ (b ∷ [])) input) →
        to_come (at_line_start s) begun (b ∷ input) ≡ answers s (records_after begun (b ∷ input))
    cases true e next later = rw e (ap (λ (text : List ℕ). (line_answer s begun).text ++ text) next)
    cases false e next later = rw e later

-- A line that is too long already gives one refusal, whatever its bytes and wherever the input ends.
abbrev is_too_long : Bool → List ℕ → Bool
is_too_long skipping line = skipping || ltb longest_line (length line)

module _ (s : Interface) where
  too_long_end : (skipping : Bool) (line : List ℕ) → is_too_long skipping line ≡ true →
      ended_answer (stream s skipping) line ≡ malformed s
  too_long_end true line h = refl
  too_long_end false line h = too_long_refused s line (omega (arith, ltb-true longest_line (length line) h))

  too_long_unended : (skipping : Bool) (line : List ℕ) → is_too_long skipping line ≡ true →
      finish (stream s skipping) line ≡ (malformed s).text
  too_long_unended true line h = refl
  too_long_unended false [] h = cc
  too_long_unended false (b ∷ line) h = refl

  too_long_more : (skipping : Bool) (line : List ℕ) (b : ℕ) → is_too_long skipping line ≡ true →
      is_too_long skipping (line ++ (b ∷ [])) ≡ true
  too_long_more true line b h = refl
  too_long_more false line b h =
      lt-ltb longest_line (length (line ++ (b ∷ [])))
      (rw length-append (omega (arith, ltb-true longest_line (length line) h)))

  too_long : (skipping : Bool) (line other input : List ℕ) → is_too_long skipping line ≡ true →
      to_come (stream s skipping) line input ≡ to_come (stream s true) other input
  unfolding to_come
  too_long skipping line other [] h = too_long_unended skipping line h
  too_long skipping line other (b ∷ input) h =
      ap₂ (cond (eqb b newline))
      (ap (λ (a : Answered). a.text ++ to_come (at_line_start a.state) [] input) (too_long_end skipping line h))
      (too_long skipping (line ++ (b ∷ [])) (other ++ (b ∷ [])) input (too_long_more skipping line b h))

-- The bytes of a line may be counted as begun: what is still to come is the same.
Begun : Stream → List ℕ → Type 0
Begun st begun = (more : List ℕ) → to_come st [] (begun ++ more) ≡ to_come st begun more

begun_more : (st : Stream) (begun : List ℕ) (b : ℕ) → eqb b newline ≡ false → Begun st begun → Begun st (begun ++ (b ∷ []))
unfolding Begun
begun_more st begun b e h more = rw append_snoc (h (b ∷ more) ∙ to_come_more st begun b more e)

-- No answer is longer than the longest one.
abbrev pub LongestAnswer : Type 0
LongestAnswer = (s : Interface) (line : List ℕ) → length (line_answer s line).text ≤ longest_answer

ended_at_most : LongestAnswer → (s : Interface) (skipping : Bool) (line : List ℕ) →
    length (ended_answer (stream s skipping) line).text ≤ longest_answer
unfolding refused_text last_digits
ended_at_most longest s true line = omega arith
ended_at_most longest s false line = longest s line

-- What holds of a work on an input after the bytes of a line begun, and of the bytes that it leaves. Whatever follows, nothing of
-- the output is lost or doubled; then the claims of the law of streams; no more is used up than there is, and no more written
-- than there is room for.
record Fair (st : Stream) (begun input : List ℕ) (room : ℕ) (w : Work) (left : List ℕ) : Type 0 where
  goes : (more : List ℕ) → to_come st begun (input ++ more) ≡ w.text ++ to_come w.stream [] (left ++ more)
  ends : w.waiting ≡ true → to_come w.stream [] left ≡ finish w.stream left
  small : w.waiting ≡ true → length left ≤ longest_line
  goes_on : longest_answer ≤ room → w.waiting ≡ false → 1 ≤ w.used
  within : w.used ≤ length begun + length input
  fits : LongestAnswer → length w.text ≤ room

abbrev FairWork : Stream → List ℕ → List ℕ → ℕ → Work → Type 0
FairWork st begun input room w = Fair st begun input room w (drop w.used (begun ++ input))

module _ (st : Stream) (begun : List ℕ) (room : ℕ) (told : Begun st begun) where
  fair_wait : (t : Bool) → is_too_long st.skipping begun ≡ t → FairWork st begun [] room (wait st begun)
  unfolding Begun to_come
  fair_wait true e =
      rw (e, drop-append_seam)
      (record {
        goes = λ more. too_long st.state st.skipping begun [] more e;
        ends = λ h. refl;
        small = λ h. omega arith;
        goes_on = λ h k. absurd (true≢false k);
        within = omega arith;
        fits = λ longest. omega arith;
      })
  fair_wait false e =
      rw (e, append-nil)
      (record {
        goes = λ more. sym (told more);
        ends = λ h. rw append-nil at (told []);
        small = λ h. ltb-false longest_line (length begun) (or_parts st.skipping (ltb longest_line (length begun)) e).1;
        goes_on = λ h k. absurd (true≢false k);
        within = omega arith;
        fits = λ longest. omega arith;
      })

module _ (st : Stream) (begun : List ℕ) (b : ℕ) (input : List ℕ) (room : ℕ) where
  fair_stop : is_full room ≡ true → Begun st begun → FairWork st begun (b ∷ input) room (stop st)
  unfolding Begun
  fair_stop full told =
      record {
        goes = λ more. sym (told (b ∷ input ++ more)) ∙ ap (to_come st []) (sym (append_assoc begun (b ∷ input) more));
        ends = λ h. absurd (false≢true h);
        small = λ h. absurd (false≢true h);
        goes_on = λ h k. absurd (omega (arith, ltb-true room _ full));
        within = omega arith;
        fits = λ longest. omega arith;
      }

  fair_more : eqb b newline ≡ false → (w : Work) → FairWork st (begun ++ (b ∷ [])) input room w →
      FairWork st begun (b ∷ input) room w
  fair_more e w later =
      rw (← append_snoc begun b input)
      (record {
        goes = λ more. to_come_more st begun b (input ++ more) e ∙ later.goes more;
        ends = later.ends;
        small = later.small;
        goes_on = later.goes_on;
        within = omega (arith, length-append begun (b ∷ []), later.within);
        fits = later.fits;
      })

  fair_line : eqb b newline ≡ true → is_full room ≡ false → (w : Work) →
      FairWork (after_line st begun) [] input (room_after st begun room) w →
      FairWork st begun (b ∷ input) room (afterwards (suc (length begun)) (ended_answer st begun).text w)
  fair_line e spare w next =
      rw left
      (record {
        goes =
            λ more.
            to_come_end st begun b (input ++ more) e
            ∙ ap (λ (text : List ℕ). (ended_answer st begun).text ++ text) (next.goes more)
            ∙ sym (append_assoc (ended_answer st begun).text w.text (to_come w.stream [] (drop w.used input ++ more)));
        ends = next.ends;
        small = next.small;
        goes_on = λ h k. omega arith;
        within = omega (arith, next.within);
        fits =
            λ longest.
            rw length-append
            (omega (
              arith,
              next.fits longest,
              ltb-false room _ spare,
              ended_at_most longest st.state st.skipping begun,
            ));
      })
    where
      left : drop (suc (length begun) + w.used) (begun ++ b ∷ input) ≡ drop w.used input
      left =
          let n : suc (length begun) + w.used ≡ length begun + suc w.used = omega arith in
          rw n (drop-append-add begun (b ∷ input) (suc w.used))

FairAfter : Stream → List ℕ → List ℕ → ℕ → Type 0
FairAfter st begun input room = Begun st begun → FairWork st begun input room (work_after st begun input room)

fair : (st : Stream) (begun input : List ℕ) (room : ℕ) → FairAfter st begun input room
unfolding FairAfter work_after Begun
fair st begun [] room told = fair_wait st begun room told (is_too_long st.skipping begun) refl
fair st begun (b ∷ input) room told =
    cases (eqb b newline) refl (is_full room) refl
    (fair (after_line st begun) [] input (room_after st begun room))
    (fair st (begun ++ (b ∷ [])) input room)
  where
    cases : (ended : Bool) → eqb b newline ≡ ended → (full : Bool) → is_full room ≡ full →
        FairAfter (after_line st begun) [] input (room_after st begun room) →
        FairAfter st (begun ++ (b ∷ [])) input room →
        FairWork st begun (b ∷ input) room (work_after st begun (b ∷ input) room)
    cases true e true full next later = rw (e, full) (fair_stop st begun b input room full told)
    cases true e false full next later =
        rw (e, full)
        (fair_line st begun b input room e full
        (work (after_line st begun) input (room_after st begun room))
        (next (λ more. refl)))
    cases false e full f next later =
        rw e
        (fair_more st begun b input room e
        (work_after st (begun ++ (b ∷ [])) input room)
        (later (begun_more st begun b e told)))

work_fair : (st : Stream) (input : List ℕ) (room : ℕ) → FairWork st [] input room (work st input room)
unfolding FairAfter Begun
work_fair st input room = fair st [] input room (λ more. refl)

-- No more is used up than there is.
pub work_within : (st : Stream) (input : List ℕ) (room : ℕ) → (work st input room).used ≤ length input
work_within st input room = omega (arith, (work_fair st input room).within)

-- The answers have room.
pub work_fits : LongestAnswer → (st : Stream) (input : List ℕ) (room : ℕ) → length (work st input room).text ≤ room
work_fits longest st input room = (work_fair st input room).fits longest

-- The output and what is still to come of the input that is unread and of more.
abbrev in_all : Going → List ℕ → List ℕ
in_all g more = g.output ++ to_come g.stream [] (g.unread ++ more)

worked_whole : (g : Going) (room : ℕ) (more : List ℕ) → in_all g more ≡ in_all (acted g (works room)) more
worked_whole g room more =
    let w = work g.stream g.unread room in
    ap (λ (text : List ℕ). g.output ++ text) ((work_fair g.stream g.unread room).goes more)
    ∙ sym (append_assoc g.output w.text (to_come w.stream [] (drop w.used g.unread ++ more)))

actions_whole : (g : Going) (actions : List Action) → in_all g (arrived actions) ≡ in_all (after g actions) []
unfolding after arrived
actions_whole g [] = refl
actions_whole g (arrives chunk ∷ actions) =
    ap (λ (input : List ℕ). g.output ++ to_come g.stream [] input) (sym (append_assoc g.unread chunk (arrived actions)))
    ∙ actions_whole (acted g (arrives chunk)) actions
actions_whole g (works room ∷ actions) = worked_whole g room (arrived actions) ∙ actions_whole (acted g (works room)) actions

-- Once a work waits, what is still to come is what the end adds.
waiting_end : (g : Going) (room : ℕ) → is_waiting g room ≡ true → output_at_end (acted g (works room)) ≡ in_all g []
waiting_end g room h =
    let w = work g.stream g.unread room in
    let left = drop w.used g.unread in
    ap (λ (text : List ℕ). g.output ++ w.text ++ text)
    (sym ((work_fair g.stream g.unread room).ends h) ∙ ap (to_come w.stream []) (sym (append-nil left)))
    ∙ sym (worked_whole g room [])

pub streams : Theorem
unfolding replay
streams =
    record {
      whole =
          λ actions room h.
          waiting_end (after begin actions) room h ∙ sym (actions_whole begin actions) ∙ to_come_records zeros [] (arrived actions);
      memory = λ st input room. (work_fair st input room).small;
      progress = λ st input room. (work_fair st input room).goes_on;
    }

-- With room for an answer, works bring every replay to where it waits: so `whole` speaks of every list of actions.
CatchesUp : Going → ℕ → Type 0
CatchesUp g room = (n : ℕ) × (is_waiting (after g (replicate n (works room))) room ≡ true)

catches_up_in : (most : ℕ) (g : Going) (room : ℕ) → longest_answer ≤ room → length g.unread < most → CatchesUp g room
unfolding CatchesUp after
catches_up_in zero g room enough few = absurd (omega arith)
catches_up_in (suc most) g room enough few =
    cases (is_waiting g room) refl (catches_up_in most (acted g (works room)) room enough)
  where
    cases : (t : Bool) → is_waiting g room ≡ t →
        (length (acted g (works room)).unread < most → CatchesUp (acted g (works room)) room) → CatchesUp g room
    cases true e later = (0, e)
    cases false e later =
        let w = work_fair g.stream g.unread room in
        let n = later (rw length-drop (omega (arith, w.goes_on enough e, w.within))) in
        (suc n.0, n.1)

pub catches_up : (g : Going) (room : ℕ) → longest_answer ≤ room →
    (n : ℕ) × (is_waiting (after g (replicate n (works room))) room ≡ true)
unfolding CatchesUp
catches_up g room enough = catches_up_in (suc (length g.unread)) g room enough (omega arith)

-- What a buffer keeps of the input in its first bytes is what is unread after so many are used up.
pub kept_unread : (used to : ℕ) (buffer : List ℕ) → used ≤ to → to ≤ length buffer →
    take (kept_length used to buffer) (kept used to buffer) ≡ drop used (take to buffer)
kept_unread used to buffer h k =
    let n : used + (to - used) ≡ to = omega arith in
    let part = take (to - used) (drop used buffer) in
    rw (le-leb used to h, le-leb to (length buffer) k)
    (take_at part (drop (length part) buffer) (to - used)
    (length-take-le (to - used) (drop used buffer) (rw length-drop (omega arith)))
    ∙ sym (drop_at (take used buffer) part used (length-take-le used buffer (omega arith)))
    ∙ ap (drop used) (sym (take-add used (to - used) buffer) ∙ ap (λ (m : ℕ). take m buffer) n))
