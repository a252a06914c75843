-- The turns of `work`'s loop, a line each, and its ends.
use Prim.Native.Nat.{ℕ, suc, ◌+◌, ◌-◌, ◌<◌, ◌≤◌}
use mathlib.Core.Path.{◌≡◌, refl, ap, sym, subst, ◌∙◌}
use mathlib.Core.Bool.{Bool, true, false, cond, ◌||◌}
use mathlib.Core.List.{List, [], ◌++◌, append-nil}
use borrow.Author.Tests.{lt-ltb, le-ltb}
use borrow.Rule.Slice.PartMut.{put_mid}
use native.Mathlib.Nat.{sub-zero}
use native.Mathlib.Omega.{arith}
use lib.Dec.{ltb}
use lib.ListN.{length, take, drop, length-append, length-drop}
use lib.Seq.{drop-drop}
use Rattle.basis.specs.Answers.{refusal_number}
use Rattle.basis.specs.declared.Refusal.TheVariants.{LineMalformed}
use Rattle.basis.specs.declared.Interface.{Interface}
use Rattle.basis_engine.specs.Interface.{is_sound}
use Rattle.basis_lines.specs.declared.Stream.{Stream}
use Rattle.basis_lines.specs.Fields.{newline, first_part}
use Rattle.basis_lines.specs.Answers.{longest_answer, written}
use Rattle.basis_lines.specs.Forms.{longest_line}
use Rattle.basis_lines.specs.Stream.{Work, ended_answer, at_line_start, wait, afterwards, work}
use Rattle.basis_lines.proofs.AnswerLaws.{refused_at_most, longest_answer_lem, line_stays_sound}
use Rattle.basis_lines.proofs.FieldLaws.{first_length}
use Rattle.basis_lines.proofs.StreamLaws.{afterwards_nothing, afterwards_twice, line_done, work_line, work_wait}
use Rattle.print_digits.proofs.Digits.{part_written}
use Rattle.replay_call.specs.AnswerText.{Gives}

-- A text written at the start of a buffer, which stays as long.
length_written : (text old : List ℕ) → length text ≤ length old → length (written text old) ≡ length old
length_written text old fits = omega (arith, length-append text (drop (length text) old), length-drop (length text) old)

-- What holds after some lines: the rest of the input that the loop is at, the text that it wrote into the out buffer, and that the
-- whole work is that text, then the work on the rest.
pub record Turns (st₀ : Stream) (input out₀ : List ℕ) (st : Stream) (rest : List ℕ) (count : ℕ) (out : List ℕ) : Type 0 where
  pub used : ℕ
  pub within : used ≤ length input
  pub rest_is : rest ≡ drop used input
  pub room : count ≤ length out₀
  pub text : List ℕ
  pub counted : count ≡ length text
  pub wrote : out ≡ written text out₀
  pub so_far : work st₀ input (length out₀) ≡ afterwards used text (work st rest (length out₀ - count))

-- Before the first line.
pub no_turns : (st₀ : Stream) (input out₀ : List ℕ) → Turns st₀ input out₀ st₀ input 0 out₀
no_turns st₀ input out₀ =
    record {
      used = 0;
      within = omega arith;
      rest_is = refl;
      room = omega arith;
      text = [];
      counted = refl;
      wrote = refl;
      so_far = rw (sub-zero (length out₀)) (sym (afterwards_nothing (work st₀ input (length out₀))));
    }

-- A line that byte 10 ended comes next.
line_next : (st : Stream) (line input : List ℕ) (room : ℕ)
    → line ≡ first_part newline input
    → length line < length input
    → work st input room ≡ line_done st line (drop (suc (length line)) input) room
line_next st line input room line_is ended =
    work_line st input room (subst (λ l. length l < length input) line_is ended)
    ∙ ap (λ l. line_done st l (drop (suc (length l)) input) room) (sym line_is)

-- Its answer is no longer than any.
ended_at_most : (st : Stream) (line : List ℕ) → length (ended_answer st line).text ≤ longest_answer
ended_at_most st line = by st.skipping
  where
    by : (skipping : Bool) → length (ended_answer (record { state = st.state; skipping = skipping }) line).text ≤ longest_answer
    by true = refused_at_most (refusal_number LineMalformed)
    by false = longest_answer_lem st.state line

-- No byte 10 is left: whether a line that is begun is too long, and what is used up, go by one test.
abbrev pub is_too_long : Stream → ℕ → Bool
is_too_long st n = st.skipping || ltb longest_line n

wait_by_test : (st : Stream) (begun : List ℕ) (n : ℕ)
    → length begun ≡ n
    → wait st begun
    ≡ record {
      stream = record { state = st.state; skipping = is_too_long st n };
      used = cond (is_too_long st n) n 0;
      text = [];
      waiting = true;
    }
wait_by_test st begun n n_is =
    ap (λ m. waiting_at (is_too_long st m) st.skipping m) n_is ∙ cases st.skipping (ltb longest_line n)
  where
    waiting_at : Bool → Bool → ℕ → Work
    waiting_at too_long skipping m =
        cond too_long
        (record { stream = record { state = st.state; skipping = true }; used = m; text = []; waiting = true })
        (record { stream = record { state = st.state; skipping = skipping }; used = 0; text = []; waiting = true })

    cases : (skipping long : Bool)
        → waiting_at (skipping || long) skipping n
        ≡ record {
          stream = record { state = st.state; skipping = skipping || long };
          used = cond (skipping || long) n 0;
          text = [];
          waiting = true;
        }
    cases true long = refl
    cases false true = refl
    cases false false = refl

used_by_test : (too_long : Bool) (used n all : ℕ) → used + n ≡ all → all - cond too_long 0 n ≡ used + cond too_long n 0
used_by_test true used n all e = omega arith
used_by_test false used n all e = omega arith

-- What the loop leaves: the parts of a work, and its text written.
abbrev pub Left : Work → Stream → ℕ → ℕ → Bool → List ℕ → List ℕ → Type 0
Left w stream used count waiting out₀ out =
    record {
      stream_value : stream ≡ w.stream;
      used_value : used ≡ w.used;
      written_value : count ≡ length w.text;
      waiting_value : waiting ≡ w.waiting;
      out_after : out ≡ written w.text out₀;
    }

module _ {st₀ st : Stream} {input rest out₀ out : List ℕ} {count : ℕ} (t : Turns st₀ input out₀ st rest count out) where
  -- The out buffer is as long as before.
  pub sized : length out ≡ length out₀
  sized = ap length t.wrote ∙ length_written t.text out₀ (omega (arith, t.room, t.counted))

  -- What is used and what is left are all of the input.
  pub all_of_it : t.used + length rest ≡ length input
  all_of_it = omega (arith, t.within, ap length t.rest_is, length-drop t.used input)

  left : {stream : Stream} {used more : ℕ} {waiting : Bool}
      → work st rest (length out₀ - count) ≡ record { stream = stream; used = more; text = []; waiting = waiting }
      → used ≡ t.used + more
      → Left (work st₀ input (length out₀)) stream used count waiting out₀ out
  left e used_is =
      let whole = t.so_far ∙ ap (afterwards t.used t.text) e in
      let text_is : (work st₀ input (length out₀)).text ≡ t.text = ap (λ w. w.text) whole ∙ append-nil t.text in
      record {
        stream_value = sym (ap (λ w. w.stream) whole);
        used_value = used_is ∙ sym (ap (λ w. w.used) whole);
        written_value = t.counted ∙ sym (ap length text_is);
        waiting_value = sym (ap (λ w. w.waiting) whole);
        out_after = t.wrote ∙ ap (λ l. written l out₀) (sym text_is);
      }

  -- The line that is next.
  module _ {line : List ℕ} (line_is : line ≡ first_part newline rest) where
    pub ended_line : (length line ≡ length rest → ⊥) → length line < length rest
    ended_line ended = omega (arith, ended, ap length line_is, first_length newline rest)

    -- It is answered, with what it came to.
    pub turn : {s : Interface} {n : ℕ} {part next : List ℕ}
        → (length line ≡ length rest → ⊥)
        → longest_answer ≤ length out - count
        → Gives (ended_answer st line) s n (take (length out - count) (drop count out)) part
        → next ≡ drop (suc (length line)) rest
        → Turns st₀ input out₀ (at_line_start s) next (count + n) (put_mid count (length out - count) out part)
    turn ended room gives next_is =
        let answer : List ℕ = (ended_answer st line).text in
        let later : List ℕ → ℕ → Work = work (at_line_start (ended_answer st line).state) in
        let ends : length line < length rest = ended_line ended in
        let fits : length t.text + length answer ≤ length out₀ =
        omega (arith, room, sized, t.room, t.counted, ended_at_most st line) in
        let room_is : length out₀ - (count + length answer) ≡ length out₀ - count - length answer = omega arith in
        rw (gives.state_after, gives.counted, next_is)
        (record {
          used = t.used + suc (length line);
          within = omega (arith, ends, all_of_it);
          rest_is = ap (drop (suc (length line))) t.rest_is ∙ drop-drop (suc (length line)) t.used input;
          room = omega (arith, fits, t.counted);
          text = t.text ++ answer;
          counted = omega (arith, t.counted, length-append t.text answer);
          wrote = rw (gives.bytes, t.wrote, t.counted) (part_written t.text answer out₀ fits);
          so_far =
              t.so_far
              ∙ ap (afterwards t.used t.text)
              (line_next st line rest (length out₀ - count) line_is ends
              ∙ rw (le-ltb (length out₀ - count) longest_answer (omega (arith, room, sized))))
              ∙ afterwards_twice t.used (suc (length line)) t.text answer
              (later (drop (suc (length line)) rest) (length out₀ - count - length answer))
              ∙ rw room_is;
        })

    -- Less is left.
    pub shorter : {next : List ℕ} → (length line ≡ length rest → ⊥) → next ≡ drop (suc (length line)) rest → length next < length rest
    shorter ended next_is = omega (arith, ended_line ended, ap length next_is, length-drop (suc (length line)) rest)

    -- A state that is sound stays so.
    pub carried : {s : Interface} {sound : Bool}
        → s ≡ (ended_answer st line).state
        → sound ≡ is_sound st.state
        → sound ≡ true
        → is_sound s ≡ true
    carried s_is told is = ap is_sound s_is ∙ by st.skipping
      where
        by : (skipping : Bool) → is_sound (ended_answer (record { state = st.state; skipping = skipping }) line).state ≡ true
        by true = sym told ∙ is
        by false = line_stays_sound st.state line (sym told ∙ is)

    -- The out buffer is too short for its answer.
    pub stops : (length line ≡ length rest → ⊥) → length out - count < longest_answer
        → Left (work st₀ input (length out₀)) st (length input - length rest) count false out₀ out
    stops ended short =
        left {more = 0}
        (line_next st line rest (length out₀ - count) line_is (ended_line ended)
        ∙ rw (lt-ltb (length out₀ - count) longest_answer (omega (arith, short, sized))))
        (omega (arith, all_of_it))

    -- Byte 10 does not end it yet.
    pub waits : {skipping : Bool} {next : ℕ}
        → length line ≡ length rest
        → skipping ≡ is_too_long st (length line)
        → next ≡ cond skipping 0 (length rest)
        → Left (work st₀ input (length out₀)) (record { state = st.state; skipping = skipping }) (length input - next) count true out₀ out
    waits all skipping_is next_is =
        rw (next_is, skipping_is, all)
        (left
        (work_wait st rest (length out₀ - count) (sym (ap length line_is) ∙ all) ∙ wait_by_test st rest (length rest) refl)
        (used_by_test (is_too_long st (length rest)) t.used (length rest) (length input) all_of_it))
