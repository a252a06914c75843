-- A command carried out.
use Prim.Native.Nat.{ℕ}
use mathlib.Core.Path.{◌≡◌, refl, ap, sym, ◌∙◌}
use mathlib.Core.List.{List}
use Rattle.std.specs.Prelude.{Option, None, Some, option_map}
use lib.ListN.{take}
use Rattle.basis.specs.declared.Time.{Time}
use Rattle.basis.specs.declared.Interface.{Interface}
use Rattle.basis.specs.declared.Call.{Call}
use Rattle.basis_engine.specs.Machine.{refusal_of, outcome_of, result_of, Invocation}
use Rattle.basis_engine.proofs.PacketHead.{outcome_head, result_head}
use Rattle.basis_lines.specs.Forms.{made, call_of}
use Rattle.basis_lines.specs.Answers.{malformed, answer_to, line_answer}
use Rattle.parse_forms.specs.Commands.{made_of, headed, Makes}
use Rattle.parse_forms.specs.declared.Parsed.{Parsed}

-- A call with no more than the first 28 bytes of a packet is answered in the same way.
module _ (s : Interface) (bytes lent : List ℕ) where
  abbrev Headed : Call → Type 0
  Headed call =
      answer_to s (Some (headed (record { call = call; bytes = bytes; lent = lent }))) ≡ answer_to s (Some (record { call = call; bytes = bytes; lent = lent }))

  headed_packet : (time : Time) → Headed (Call.Packet time)
  headed_packet time = rw (result_head s time bytes lent, outcome_head s time bytes lent)

  headed_call : (call : Call) → Headed call
  unfolding result_of refusal_of outcome_of
  headed_call (Call.Fresh setup) = refl
  headed_call (Call.Ask time wanted policy draw) = refl
  headed_call (Call.Tick time draw) = refl
  headed_call (Call.Packet time) = headed_packet time
  headed_call (Call.Drop time slot) = refl

headed_answer : (s : Interface) (asks : Option Invocation) → answer_to s (option_map headed asks) ≡ answer_to s asks
headed_answer s None = refl
headed_answer s (Some i) = headed_call s i.bytes i.lent i.call

-- What was read of a line is answered as the line is.
pub line_answered : (s : Interface) (asks : Option Parsed) (head line : List ℕ) (parsed : Option Parsed) → Makes parsed head (call_of line)
    → parsed ≡ asks → answer_to s (made_of asks head) ≡ line_answer s line
unfolding line_answer
line_answered s asks head line parsed made e =
    sym (ap (λ p. answer_to s (made_of p head)) e) ∙ ap (answer_to s) made.makes ∙ headed_answer s (call_of line)

pub line_refused : (s : Interface) (head line : List ℕ) (parsed : Option Parsed) → Makes parsed head (call_of line) → parsed ≡ None
    → malformed s ≡ line_answer s line
line_refused s = line_answered s None

pub line_called : (s : Interface) (p : Parsed) (head line : List ℕ) (parsed : Option Parsed) → Makes parsed head (call_of line) → parsed ≡ Some p
    → answer_to s (Some (made p.call (take p.count head))) ≡ line_answer s line
line_called s p = line_answered s (Some p)

pub ruleset line_ends = (line_refused, line_called)
