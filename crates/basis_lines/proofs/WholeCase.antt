-- The whole case of document 01's "Replay lines", and lines at the edges of its forms, computed.
use Prim.Native.Nat.{ℕ, ◌-◌, ◌^◌}
use Prim.Native.Char.{code}
use Prim.Native.String.{String, [] as end_of_text, ◌∷◌ as ◌∷ᵗ◌, ◌++◌}
use mathlib.Core.Path.{◌≡◌, refl}
use mathlib.Core.List.{List, [], ◌∷◌, map}
use Rattle.std.specs.Prelude.{Option, None, Some}
use Rattle.basis.specs.Answers.{kind_word}
use Rattle.basis.specs.Frame.{frame_bytes, probe, announcement, frame_put}
use Rattle.basis.specs.declared.Call.TheVariants as Call
use Rattle.basis_engine.specs.Slots.{any, all, lowest_from}
use Rattle.basis_engine.specs.Interface.{is_own_hardware, is_allowed, is_sound_stage, is_sound_record, holds_none_twice, is_sound}
use Rattle.basis_engine.specs.Deadlines.{smallest_deadline, due_slot}
use Rattle.basis_engine.specs.Calls.{due_frame, stage_after, fresh_outcome, ask_outcome, tick_outcome}
use Rattle.basis_engine.specs.Refusals.{state_and_time, fresh_refusal, ask_refusal, tick_refusal, drop_refusal}
use Rattle.basis_engine.specs.Machine.{refusal_of, outcome_of, result_of, Invocation}
use Rattle.basis_lines.specs.Fields.{parts}
use Rattle.basis_lines.specs.Numbers.{are_digits, value_after, number, each, address, hex_bytes, bytes, hardware, last_digits, hex_text}
use Rattle.basis_lines.specs.Forms.{call_in, call_of, made}
use Rattle.basis_lines.specs.Answers.{refused_text, accepted_text, line_answer}
use Rattle.basis_lines.specs.Records.{records_after, answers, replay}

-- A text's bytes, where each character is one.
unfoldable pub codes : String → List ℕ
codes end_of_text = []
codes (c ∷ᵗ text) = code c ∷ codes text

-- "The gap in `1 000` stands for bytes C2 A0; a plain space gives the same."
unfoldable pub input : String → String
input gap =
    "fresh\t02000000000a\n"
    ++ "ask\t100\t192.0.2.7\t2\t500\n"
    ++ "tick\t599\t0\n"
    ++ "tick\t600\t0\n"
    ++ "tick\t1600\t1000\n"
    ++ "tick\t1" ++ gap ++ "000\t0\n"
    ++ "tick\t3600\t5\n"
    ++ "tick\t5600\t0\n"

unfoldable pub output : String
output =
    "ok\tfresh\t-\t-\t-\n"
    ++ "ok\ttaken\t0\t600\t-\n"
    ++ "ok\tnone\t-\t600\t-\n"
    ++ "ok\tprobe\t0\t1600\t000108000604000102000000000a00000000000000000000c0000207\n"
    ++ "ok\tprobe\t0\t3600\t000108000604000102000000000a00000000000000000000c0000207\n"
    ++ "refused\t14\n"
    ++ "ok\tprobe\t0\t5600\t000108000604000102000000000a00000000000000000000c0000207\n"
    ++ "ok\tannounce\t0\t7600\t000108000604000102000000000ac0000207000000000000c0000207\n"

pub whole_case_lem : (replay (codes (input "Â\u{a0}")) ≡ codes output) × (replay (codes (input " ")) ≡ codes output)
unfolding
    kind_word frame_bytes probe announcement frame_put any all lowest_from is_own_hardware is_allowed is_sound_stage is_sound_record
    holds_none_twice is_sound smallest_deadline due_slot due_frame stage_after fresh_outcome ask_outcome tick_outcome state_and_time fresh_refusal ask_refusal
    tick_refusal refusal_of outcome_of result_of parts are_digits value_after number each address hex_bytes bytes hardware last_digits hex_text
    call_in call_of refused_text accepted_text line_answer records_after answers replay codes input output
whole_case_lem = (refl, refl)

-- "Empty input gives empty output." "An empty line or an unended last line included, is 14." "Before the first `fresh` is accepted
-- the state is all zeros, so calls meet refusal 1." "A refused fresh makes no state; a replay keeps the one it had."
small_cases :
    map (λ (text : String). replay (codes text)) (
    "" ∷ "\n" ∷ "drop\t1\t0\n" ∷ "drop\t1\t0" ∷ "fresh\t02000000000a\nfresh\t000000000000\ntick\t1\t0\n" ∷ []
    )
    ≡ map codes (
    "" ∷ "refused\t14\n" ∷ "refused\t1\n" ∷ "refused\t14\n" ∷ "ok\tfresh\t-\t-\t-\nrefused\t2\nok\tnone\t-\t-\t-\n" ∷ []
    )
unfolding
    kind_word any all is_own_hardware is_allowed is_sound_stage is_sound_record holds_none_twice is_sound smallest_deadline due_slot due_frame stage_after
    fresh_outcome tick_outcome state_and_time fresh_refusal tick_refusal drop_refusal refusal_of outcome_of result_of parts are_digits value_after
    number hex_bytes hardware last_digits call_in call_of refused_text accepted_text line_answer records_after answers replay codes
small_cases = refl

-- The largest and the shortest fields that a line may have.
calls_of : List String → List (Option Invocation)
calls_of lines = map (λ (line : String). call_of (codes line)) lines

edges_read :
    calls_of (
    "fresh\tffffffffffff"
    ∷ "ask\t18446744073709551615\t255.0.10.255\t18446744073709551615\t4294967295"
    ∷ "tick\t18446744073709551615\t4294967295"
    ∷ "packet\t0\t"
    ∷ "packet\t0\t09af"
    ∷ "drop\t0\t18446744073709551615"
    ∷ []
    )
    ≡ Some (made (Call.Fresh (record { hardware = record { 0 = 2 ^ 48 - 1 } })) [])
    ∷ Some (made (Call.Ask (record { 0 = 2 ^ 64 - 1 }) (record { 0 = 0xff000aff }) (2 ^ 64 - 1) (2 ^ 32 - 1)) [])
    ∷ Some (made (Call.Tick (record { 0 = 2 ^ 64 - 1 }) (2 ^ 32 - 1)) [])
    ∷ Some (made (Call.Packet (record { 0 = 0 })) [])
    ∷ Some (made (Call.Packet (record { 0 = 0 })) (0x09 ∷ 0xaf ∷ []))
    ∷ Some (made (Call.Drop (record { 0 = 0 }) (2 ^ 64 - 1)) [])
    ∷ []
unfolding calls_of codes call_of call_in parts are_digits value_after number each address hex_bytes bytes hardware
edges_read = refl

-- "Anything else [..] is 14."
malformed_lines : List String
malformed_lines =
    "" ∷ "fresh" ∷ "fresh\t02000000000" ∷ "fresh\t02000000000a00" ∷ "fresh\t02000000000A" ∷ "fresh\t02:00:00:00:0a"
    ∷ "tick\t\t0" ∷ "tick\t1\t0\t" ∷ "\ttick\t1\t0" ∷ "tick 1 0" ∷ "Tick\t1\t0" ∷ "ticks\t1\t0" ∷ "tick\t1\t0\r"
    ∷ "tick\t01\t0" ∷ "tick\t+1\t0" ∷ "tick\t1\t-0" ∷ "tick\t0x1\t0" ∷ "tick\t1_000\t0"
    ∷ "tick\t18446744073709551616\t0" ∷ "tick\t1\t4294967296"
    ∷ "ask\t1\t192.0.2\t1\t0" ∷ "ask\t1\t192.0.2.7.0\t1\t0" ∷ "ask\t1\t192.0.2.\t1\t0" ∷ "ask\t1\t192.0.2.256\t1\t0"
    ∷ "ask\t1\t192.0.2.07\t1\t0" ∷ "ask\t1\t192.0.2.7\t1"
    ∷ "packet\t1" ∷ "packet\t1\t0" ∷ "packet\t1\t0g" ∷ "packet\t1\t0A" ∷ "drop\t1\t18446744073709551616" ∷ "stop\t1\t0"
    ∷ []

malformed_unread : calls_of malformed_lines ≡ map (λ (line : String). None) malformed_lines
unfolding calls_of codes call_of call_in parts are_digits value_after number each address hex_bytes bytes hardware malformed_lines
malformed_unread = refl
