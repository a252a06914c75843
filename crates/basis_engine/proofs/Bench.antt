-- W1 to W12 and the whole case, computed.
use mathlib.Core.Path.{refl}
use Rattle.basis.specs.Frame.{frame_bytes, probe, announcement, frame_of, is_known_frame, read_refusal, frame_put}
use Rattle.basis.specs.Clock.{clock_step, clock_refusal, clock_of}
use Rattle.basis_engine.specs.Slots.{any, all, lowest_from}
use Rattle.basis_engine.specs.Interface.{is_own_hardware, is_allowed, is_sound_stage, is_sound_record, holds_none_twice, is_sound}
use Rattle.basis_engine.specs.Deadlines.{smallest_deadline, due_slot}
use Rattle.basis_engine.specs.Conflicts.{resolution}
use Rattle.basis_engine.specs.Calls.{due_frame, stage_after, fresh_outcome, ask_outcome, tick_outcome, packet_outcome}
use Rattle.basis_engine.specs.Refusals.{state_and_time, fresh_refusal, ask_refusal, tick_refusal, packet_refusal}
use Rattle.basis_engine.specs.Machine.{refusal_of, outcome_of, result_of}
use Rattle.basis_engine.specs.Claims.{times_of, marked_latest, claims_after, claims_of}
use Rattle.basis_engine.specs.Bench.{answers, BenchCases, lines, WholeCase, seen_of, WholeClaim}

pub bench_cases : BenchCases
unfolding
    frame_bytes probe announcement frame_of is_known_frame read_refusal frame_put clock_step clock_refusal clock_of
    any all lowest_from is_own_hardware is_allowed is_sound_stage is_sound_record holds_none_twice is_sound
    smallest_deadline resolution ask_outcome packet_outcome state_and_time ask_refusal packet_refusal refusal_of outcome_of result_of answers
bench_cases = refl

pub whole_case_lem : WholeCase
unfolding
    frame_bytes probe announcement frame_put any all lowest_from is_own_hardware is_allowed is_sound_stage is_sound_record holds_none_twice is_sound
    smallest_deadline due_slot due_frame stage_after fresh_outcome ask_outcome tick_outcome state_and_time fresh_refusal ask_refusal tick_refusal
    refusal_of outcome_of result_of lines
whole_case_lem = refl

pub whole_claim_lem : WholeClaim
unfolding
    frame_bytes probe announcement frame_of frame_put any all lowest_from is_own_hardware is_allowed is_sound_stage is_sound_record
    holds_none_twice is_sound smallest_deadline due_slot due_frame stage_after fresh_outcome ask_outcome tick_outcome state_and_time fresh_refusal ask_refusal
    tick_refusal refusal_of outcome_of result_of seen_of times_of marked_latest claims_after claims_of
whole_claim_lem = record { one_claim = refl; all_probes = refl; all_announcements = refl }
