-- `replay_stream::work`: what holds after some lines, and that the state is sound where that is known.
use mathlib.Core.Path.{◌≡◌}
use mathlib.Core.Bool.{true}
use lib.ListN.{length}
use Rattle.basis_engine.specs.Interface.{is_sound}
use Rattle.replay_stream.proofs.Turns.{Turns}
use Rattle.replay_stream.proofs.work.Given as goal

abbrev pub invariant-lines : goal.invariant-lines
invariant-lines l =
    record {
      turns : Turns l.fn.stream l.input l.initial.out (record { state = l.state; skipping = l.skipping }) l.rest l.written l.out;
      known : l.sound ≡ true → is_sound l.state ≡ true;
    }

abbrev pub decreases-lines : goal.decreases-lines
decreases-lines l = length l.rest
