-- `replay_stream::work`: a turn answers a line; the loop ends where no byte 10 is left, or no room.
use mathlib.Core.Path.{ap, ◌∙◌}
use native.Mathlib.Omega.{arith}
use Rattle.std.proofs.lemmas.Grind.{common_steps}
use Rattle.basis_engine.specs.Interface.{is_sound}
use Rattle.replay_stream.proofs.Turns.{carried, turn, ended_line, shorter, stops, waits}
use Rattle.replay_stream.proofs.work.Goals as goal
use Rattle.replay_stream.proofs.work.Goals.{then-line-rest+then-skipping-2, then-line-rest+else-skipping-2}
use Rattle.replay_stream.proofs.work.Goals.{else-line-rest+then-out-written-lt-LONGEST_ANSWER}

pub slice_bounds-rest-count : goal.slice_bounds-rest-count
slice_bounds-rest-count c = omega (arith, ended_line c.lines.invariant.turns c.part-line.ensures c.if-line-rest.false)

pub slice_bounds-rest-start : goal.slice_bounds-rest-start
slice_bounds-rest-start c = grind (arith, ended_line c.lines.invariant.turns c.part-line.ensures c.if-line-rest.false)

pub lines-preserved : goal.lines-preserved
lines-preserved c =
    let t = c.lines.invariant.turns in
    let line_is = c.part-line.ensures in
    let gives = rw (c.judge-judged.ensures, ← c.copy-state.ensures) at c.answer_line-answered.ensures in
    record {
      turns = turn t line_is c.if-line-rest.false c.if-out-written-lt-LONGEST_ANSWER.false gives (grind (arith, common_steps));
      known = carried t line_is gives.state_after (c.judge-judged.result.known ∙ ap is_sound c.judge-judged.ensures);
    }

pub lines-smaller : goal.lines-smaller
lines-smaller c = shorter c.lines.invariant.turns c.part-line.ensures c.if-line-rest.false (grind (arith, common_steps))

pub returns : goal.returns
returns c =
    let t = c.lines.invariant.turns in
    let line_is = c.part-line.ensures in
    elim c.if-line-rest.branch [
      | then-line-rest+then-skipping-2 w ↦
          rw w.waiting-is
          (waits t line_is w.if-line-rest.true (grind (arith, common_steps)) (rw (w.rest-is, w.skipping-is, w.if-skipping-2.true)))
      | then-line-rest+else-skipping-2 w ↦
          rw w.waiting-is
          (waits t line_is w.if-line-rest.true (grind (arith, common_steps)) (rw (w.rest-is, w.skipping-is, w.if-skipping-2.false)))
      | else-line-rest+then-out-written-lt-LONGEST_ANSWER w ↦
          rw (w.skipping-is, w.rest-is, w.waiting-is)
          (stops t line_is w.if-line-rest.false w.if-out-written-lt-LONGEST_ANSWER.true)
    ]
