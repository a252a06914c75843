-- `engine_calls::perform`: a new interface, or any other call, decided and carried out.
use Rattle.std.specs.Prelude.{length}
use mathlib.Core.Path.{◌∙◌}
use Rattle.basis_engine.specs.Machine.{refusal_of, outcome_of}
use Rattle.engine_decisions.specs.Decisions.{Decided}
use Rattle.engine_calls.proofs.CallsLaws.{ask_decided, tick_decided, packet_decided, drop_decided, is_performed, is_told, fresh_performed, fresh_told}
use Rattle.engine_calls.proofs.perform.Goals.{in-Ask, in-Tick, in-Packet, in-Drop}
use Rattle.engine_calls.proofs.perform.Goals as goal

pub returns-in-Fresh : goal.returns-in-Fresh
returns-in-Fresh c = record { promised = search fresh_performed; sent_value = search fresh_told }

pub returns : goal.returns
returns c =
    let says : Decided c.args.judged.now.state (refusal_of c.args.judged.now.state c.args.call c.args.bytes.now (length c.args.out.now))
    (outcome_of c.args.judged.now.state c.args.call c.args.bytes.now) c.match-call.decided =
    elim c.match-call.branch [
      | in-Ask w ↦ ask_decided _ _ _ _ _ _ w.decided-is _ _ _ _ w.in-Ask.is w.ask-decided.ensures
      | in-Tick w ↦ tick_decided _ _ _ _ _ _ w.decided-is _ _ w.in-Tick.is w.tick-decided.ensures
      | in-Packet w ↦ packet_decided _ _ _ _ _ _ w.decided-is _ w.in-Packet.is w.packet-decided.ensures
      | in-Drop w ↦ drop_decided _ _ _ _ _ _ w.decided-is _ _ w.in-Drop.is w.drop-decided.ensures
    ] in
    record {
      promised = is_performed _ _ _ _ _ says _ _ c.carry_out.ensures;
      sent_value = c.is_sent-sent.ensures ∙ is_told _ _ _ _ _ says;
    }
