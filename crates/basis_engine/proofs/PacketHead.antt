-- "Ignores bytes after the 28th": what a packet comes to depends on its first 28 bytes alone.
use Prim.Native.Nat.{ℕ, ◌≤◌}
use mathlib.Core.Path.{◌≡◌, refl, ap, sym, ◌∙◌}
use mathlib.Core.Bool.{Bool, true, false}
use mathlib.Core.List.{List, ◌++◌}
use native.Mathlib.Omega.{arith}
use lib.Dec.{leb}
use lib.ListN.{length, take, drop, take-append-drop}
use lib.Seq.{length-take-le, take_all}
use borrow.Author.Tests.{leb-true, leb-false}
use Rattle.basis.specs.Frame.{frame_of, read_refusal, frame_length}
use Rattle.basis.specs.declared.Time.{Time}
use Rattle.basis.specs.declared.Interface.{Interface}
use Rattle.basis.specs.declared.Call.TheVariants as Call
use Rattle.basis.proofs.FrameLaws.{frame_ignores, refusal_ignores}
use Rattle.basis_engine.specs.Calls.{packet_outcome}
use Rattle.basis_engine.specs.Refusals.{packet_refusal}
use Rattle.basis_engine.specs.Machine.{refusal_of, outcome_of, result_of}

-- Of what does not look behind the 28th byte.
heads : {A : Type 0} (f : List ℕ → A) → ((front rest : List ℕ) → frame_length ≤ length front → f (front ++ rest) ≡ f front)
    → (bytes : List ℕ) → f (take frame_length bytes) ≡ f bytes
heads f ignores bytes = cases (leb (length bytes) frame_length) refl
  where
    cases : (t : Bool) → leb (length bytes) frame_length ≡ t → f (take frame_length bytes) ≡ f bytes
    cases true e = ap f (take_all frame_length bytes (leb-true (length bytes) frame_length e))
    cases false e =
        let long : frame_length ≤ length bytes = omega (arith, leb-false (length bytes) frame_length e) in
        sym (ignores (take frame_length bytes) (drop frame_length bytes) (omega (arith, length-take-le frame_length bytes long)))
        ∙ ap f (take-append-drop frame_length bytes)

module _ (s : Interface) (time : Time) (bytes lent : List ℕ) where
  pub outcome_head : outcome_of s (Call.Packet time) (take frame_length bytes) ≡ outcome_of s (Call.Packet time) bytes
  unfolding outcome_of packet_outcome
  outcome_head = rw (heads frame_of frame_ignores bytes)

  pub result_head : result_of s (Call.Packet time) (take frame_length bytes) lent ≡ result_of s (Call.Packet time) bytes lent
  unfolding result_of refusal_of packet_refusal
  result_head = rw (heads read_refusal refusal_ignores bytes, outcome_head)
