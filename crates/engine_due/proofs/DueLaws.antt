-- A law for each way that a function ends.
use Prim.Native.Nat.{ℕ, ◌+◌, ◌≤◌, ◌<◌}
use mathlib.Core.Path.{◌≡◌}
use Rattle.std.specs.Prelude.{None, Some, Option}
use native.Mathlib.Numerals.{add-one}
use borrow.Author.Tests.{lt-ltb, le-ltb}
use Rattle.basis.specs.Frame.{probe, announcement}
use Rattle.basis.specs.declared.Record.{Record}
use Rattle.basis.specs.declared.Setup.{Setup}
use Rattle.basis.specs.declared.Stage.{Stage}
use Rattle.basis.specs.declared.Stage.TheVariants.{Free, Probing, Announced, Settled}
use Rattle.basis.specs.declared.Time.{Time}
use Rattle.basis.specs.declared.Frame.{Frame}
use Rattle.basis.specs.declared.Kind.{Kind}
use Rattle.basis_engine.specs.Timing.{rfc5227}
use Rattle.basis_engine.specs.Interface.{sender_of}
use Rattle.basis_engine.specs.Calls.{delay, due_frame, stage_after}

module _ (setup : Setup) (claim : Record) where
  pub due_free : claim.stage ≡ Free → record { kind = Kind.Nothing; frame = None } ≡ due_frame rfc5227 setup claim
  unfolding due_frame
  due_free e = rw e

  pub due_settled : (conflict : Option Time) → claim.stage ≡ Settled conflict →
      record { kind = Kind.Nothing; frame = None } ≡ due_frame rfc5227 setup claim
  unfolding due_frame
  due_settled conflict e = rw e

  module _ (f : Frame) where
    pub due_probe : f ≡ probe (sender_of setup) claim.address →
        (sent : ℕ) (deadline : Time) → claim.stage ≡ Probing sent deadline → sent < rfc5227.probe_num →
        record { kind = Kind.Probe; frame = Some f } ≡ due_frame rfc5227 setup claim
    unfolding due_frame
    due_probe is sent deadline e h = rw (e, lt-ltb sent rfc5227.probe_num h, is)

    module _ (is : f ≡ announcement (sender_of setup) claim.address) where
      pub due_first : (sent : ℕ) (deadline : Time) → claim.stage ≡ Probing sent deadline → rfc5227.probe_num ≤ sent →
          record { kind = Kind.Announce; frame = Some f } ≡ due_frame rfc5227 setup claim
      unfolding due_frame
      due_first sent deadline e h = rw (e, le-ltb sent rfc5227.probe_num h, is)

      pub due_second : (deadline : Time) (conflict : Option Time) → claim.stage ≡ Announced deadline conflict →
          record { kind = Kind.Announce; frame = Some f } ≡ due_frame rfc5227 setup claim
      unfolding due_frame
      due_second deadline conflict e = rw (e, is)

pub ruleset due_ends = (due_free, due_probe, due_first, due_second, due_settled)

module _ (time : Time) (draw : ℕ) (stage : Stage) where
  pub after_free : stage ≡ Free → stage ≡ stage_after rfc5227 time draw stage
  unfolding stage_after
  after_free e = rw e

  pub after_settled : (conflict : Option Time) → stage ≡ Settled conflict → stage ≡ stage_after rfc5227 time draw stage
  unfolding stage_after
  after_settled conflict e = rw e

  module _ (sent : ℕ) (deadline : Time) (e : stage ≡ Probing sent deadline) where
    pub after_probe : sent < rfc5227.probe_num → (ms : ℕ) → ms ≡ delay rfc5227 (sent + 1) draw →
        Probing (sent + 1) (record { 0 = time.0 + ms }) ≡ stage_after rfc5227 time draw stage
    unfolding stage_after
    after_probe h ms m = rw (e, lt-ltb sent rfc5227.probe_num h, m, add-one sent)

    pub after_first : rfc5227.probe_num ≤ sent →
        Announced (record { 0 = time.0 + rfc5227.announce_interval }) None ≡ stage_after rfc5227 time draw stage
    unfolding stage_after
    after_first h = rw (e, le-ltb sent rfc5227.probe_num h)

  pub after_second : (deadline : Time) (conflict : Option Time) → stage ≡ Announced deadline conflict →
      Settled conflict ≡ stage_after rfc5227 time draw stage
  unfolding stage_after
  after_second deadline conflict e = rw e

pub ruleset after_ends = (after_free, after_second, after_settled)
