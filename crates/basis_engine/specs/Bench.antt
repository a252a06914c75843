-- Document 01, "Bench cases": W1 to W12, one table under one claim; and the whole case of "Replay lines", from inside and outside.
use Rattle.std.specs.Prelude.{ℕ, ◌≡◌, List, [], ◌∷◌, map, ℤ, pos, negsuc, length, replicate, Option, None, Some}
use Rattle.basis.specs.Answers.{Report, refused, accepted, Accepted}
use Rattle.basis.specs.Frame.{frame_length, frame_bytes, probe, announcement}
use Rattle.basis.specs.Clock.{ClockReport, clock_of}
use Rattle.basis.specs.declared.Ipv4Address.{Ipv4Address}
use Rattle.basis.specs.declared.HardwareAddress.{HardwareAddress}
use Rattle.basis.specs.declared.Setup.{Setup}
use Rattle.basis.specs.declared.Call.{Call}
use Rattle.basis.specs.declared.Time.{Time}
use Rattle.basis.specs.declared.Stage.{Stage}
use Rattle.basis.specs.declared.Stage.TheVariants.{Probing, Settled}
use Rattle.basis.specs.declared.Interface.{Interface}
use Rattle.basis.specs.declared.Kind.{Kind}
use Rattle.basis.specs.declared.Kind.TheVariants.{Fresh, Taken, Nothing, Probe, Announce, Defend, Lost, Kept}
use Rattle.basis_engine.specs.Timing.{rfc5227, wait}
use Rattle.basis_engine.specs.Slots.{put_at}
use Rattle.basis_engine.specs.Interface.{new_interface, zeros, changed}
use Rattle.basis_engine.specs.Machine.{Result, result_of, Invocation}
use Rattle.basis_engine.specs.Claims.{Event, mark, a_probe, an_announcement, times_of, Claim, claims_of}

-- What a case looks at: a wait, the clock's step with the time or the refusal, the kind of an answer, or a refusal.
pub data Seen : Type 0 where
  waits : ℕ → Seen
  widens : ℤ → ℕ → Seen
  stays : ℤ → ℕ → Seen
  kind : Kind → Seen
  refusal : ℕ → Seen

abbrev pub seen_time : ℤ → Report ℕ → Seen
seen_time step (refused n) = stays step n
seen_time step (accepted time) = widens step time

abbrev pub seen_clock : ClockReport → Seen
seen_clock report = seen_time report.step report.time

abbrev pub seen_answer : Report Accepted → Seen
seen_answer (refused n) = refusal n
seen_answer (accepted answer) = kind answer.kind

-- A call that is lent nothing, and one that is lent a packet's bytes and a blank out buffer.
abbrev pub bare : Call → Invocation
bare call = record { call = call; bytes = []; lent = [] }

abbrev pub blank : List ℕ
blank = replicate frame_length 0

abbrev pub lending : List ℕ → Call → Invocation
lending bytes call = record { call = call; bytes = bytes; lent = blank }

-- The machine's result, and its answers to calls, the first one first.
abbrev pub result_at : Interface → Invocation → Result
result_at s i = result_of s i.call i.bytes i.lent

unfoldable pub answers : Interface → List Invocation → List Seen
answers s [] = []
answers s (i ∷ later) = seen_answer (result_at s i).report ∷ answers (result_at s i).state later

abbrev pub at : ℕ → Time
at ms = record { 0 = ms }

-- Our hardware address, another machine's, and 192.0.2.7.
abbrev pub ours : HardwareAddress
ours = record { 0 = 0x02000000000a }

abbrev pub setup : Setup
setup = record { hardware = ours }

abbrev pub another : HardwareAddress
another = record { 0 = 0x02000000000b }

abbrev pub ipv4 : Ipv4Address
ipv4 = record { 0 = 0xc0000207 }

-- An interface that holds 192.0.2.7 in slot 0, with this policy, stage, count and time of the latest ask.
abbrev pub holding : ℕ → Stage → ℕ → Option Time → Interface
holding policy stage count asked =
    changed (new_interface setup) (at 10_000) asked count
    (put_at (new_interface setup).records (Some 0) (record { address = ipv4; policy = policy; stage = stage }))

-- Another machine's announcement of our address, at this time.
abbrev pub conflict_at : ℕ → Invocation
conflict_at ms = lending (frame_bytes (announcement another ipv4)) (Call.Packet (at ms))

pub record Case : Type 0 where
  pub rules : List Seen
  pub paper : List Seen

abbrev pub cases : List Case
cases =
    -- W1 "draw 1,000 gives wait 1,000, draw 1,001 gives 0"
    record { rules = waits (wait rfc5227 1_000) ∷ waits (wait rfc5227 1_001) ∷ []; paper = waits 1_000 ∷ waits 0 ∷ [] }
    -- W2 "draw 4,294,967,295 gives 619"
    ∷ record { rules = waits (wait rfc5227 4_294_967_295) ∷ []; paper = waits 619 ∷ [] }
    -- W3 "latest 4,294,967,290, reading 4: step 10, time 4,294,967,300"
    ∷ record { rules = seen_clock (clock_of 4_294_967_290 4) ∷ []; paper = widens (pos 10) 4_294_967_300 ∷ [] }
    -- W4 "latest 5, reading 3: step -2, refusal 4"
    ∷ record { rules = seen_clock (clock_of 5 3) ∷ []; paper = stays (negsuc 1) 4 ∷ [] }
    -- W5 "latest 0, reading 2,147,483,648: refusal 4"
    ∷ record { rules = seen_clock (clock_of 0 2_147_483_648) ∷ []; paper = stays (negsuc 2_147_483_647) 4 ∷ [] }
    -- W6 "policy 2, conflicts at 20,000 and 29,999: defend, lost"
    ∷ record {
      rules = answers (holding 2 (Settled None) 0 None) (map conflict_at (20_000 ∷ 29_999 ∷ []));
      paper = kind Defend ∷ kind Lost ∷ [];
    }
    -- W7 "the same at 20,000 and 30,000: defend twice"
    ∷ record {
      rules = answers (holding 2 (Settled None) 0 None) (map conflict_at (20_000 ∷ 30_000 ∷ []));
      paper = kind Defend ∷ kind Defend ∷ [];
    }
    -- W8 "policy 3 at 20,000, 29,999, 35,000, 45,000: defend, kept, kept, defend"
    ∷ record {
      rules = answers (holding 3 (Settled None) 0 None) (map conflict_at (20_000 ∷ 29_999 ∷ 35_000 ∷ 45_000 ∷ []));
      paper = kind Defend ∷ kind Kept ∷ kind Kept ∷ kind Defend ∷ [];
    }
    -- W9 "count 10, request at 100,000: an ask at 159,999 is 12, at 160,000 taken"
    ∷ record {
      rules = answers
          (changed (new_interface setup) (at 100_000) (Some (at 100_000)) 10 (new_interface setup).records)
          (bare (Call.Ask (at 159_999) ipv4 1 0) ∷ bare (Call.Ask (at 160_000) ipv4 1 0) ∷ []);
      paper = refusal 12 ∷ kind Taken ∷ [];
    }
    -- W10 "our own echoed probe: none"
    ∷ record {
      rules = answers (holding 2 (Probing 1 (at 11_000)) 0 None) (lending (frame_bytes (probe ours ipv4)) (Call.Packet (at 10_000)) ∷ []);
      paper = kind Nothing ∷ [];
    }
    -- W11 "another's probe for a settled address: none"
    ∷ record {
      rules = answers (holding 2 (Settled None) 0 None) (lending (frame_bytes (probe another ipv4)) (Call.Packet (at 10_000)) ∷ []);
      paper = kind Nothing ∷ [];
    }
    -- W12 "addresses 223.255.255.255 allowed, 224.0.0.0 refused with 8"
    ∷ record {
      rules = answers (holding 2 (Settled None) 0 None)
          (bare (Call.Ask (at 10_000) (record { 0 = 0xe0000000 }) 1 0) ∷ bare (Call.Ask (at 10_000) (record { 0 = 0xdfffffff }) 1 0) ∷ []);
      paper = refusal 8 ∷ kind Taken ∷ [];
    }
    ∷ []

-- The one claim: each case is as the paper says.
abbrev pub BenchCases : Type 0
BenchCases = map (λ (c : Case). c.rules) cases ≡ map (λ (c : Case). c.paper) cases

-- The whole case, but for its line that is not in the form, and one tick more: kind, slot and next deadline of each answer, and
-- the out buffer afterwards.
pub record Line : Type 0 where
  pub report : Report Accepted
  pub out : List ℕ

unfoldable pub lines : Interface → List Invocation → List Line
lines s [] = []
lines s (i ∷ later) = record { report = (result_at s i).report; out = (result_at s i).out } ∷ lines (result_at s i).state later

abbrev pub line : Kind → Option ℕ → Option ℕ → List ℕ → Line
line did slot next out = record { report = accepted (record { kind = did; slot = slot; next = next }); out = out }

abbrev pub whole_case : List Invocation
whole_case =
    bare (Call.Fresh setup)
    ∷ bare (Call.Ask (at 100) ipv4 2 500)
    ∷ lending [] (Call.Tick (at 599) 0)
    ∷ lending [] (Call.Tick (at 600) 0)
    ∷ lending [] (Call.Tick (at 1_600) 1_000)
    ∷ lending [] (Call.Tick (at 3_600) 5)
    ∷ lending [] (Call.Tick (at 5_600) 0)
    ∷ lending [] (Call.Tick (at 7_600) 0)
    ∷ []

abbrev pub WholeCase : Type 0
WholeCase =
    lines zeros whole_case
    ≡ line Fresh None None []
    ∷ line Taken (Some 0) (Some 600) []
    ∷ line Nothing None (Some 600) blank
    ∷ line Probe (Some 0) (Some 1_600) (frame_bytes (probe ours ipv4))
    ∷ line Probe (Some 0) (Some 3_600) (frame_bytes (probe ours ipv4))
    ∷ line Probe (Some 0) (Some 5_600) (frame_bytes (probe ours ipv4))
    ∷ line Announce (Some 0) (Some 7_600) (frame_bytes (announcement ours ipv4))
    ∷ line Announce (Some 0) None (frame_bytes (announcement ours ipv4))
    ∷ []

-- And what is seen of it from outside: one claim, with PROBE_NUM probes and ANNOUNCE_NUM announcements.
unfoldable pub seen_of : Interface → List Invocation → List Event → List Event
seen_of s [] earlier = earlier
seen_of s (i ∷ later) earlier =
    seen_of (result_at s i).state later
    (record { call = i.call; bytes = i.bytes; report = (result_at s i).report; out = (result_at s i).out } ∷ earlier)

abbrev pub whole_claim : Claim
whole_claim =
    record {
      address = ipv4;
      policy = 2;
      slot = Some 0;
      marks =
          mark an_announcement (at 7_600)
          ∷ mark an_announcement (at 5_600)
          ∷ mark a_probe (at 3_600)
          ∷ mark a_probe (at 1_600)
          ∷ mark a_probe (at 600)
          ∷ [];
    }

pub record WholeClaim : Type 0 where
  pub one_claim : claims_of setup (seen_of zeros whole_case []) ≡ whole_claim ∷ []
  pub all_probes : length (times_of a_probe whole_claim.marks) ≡ rfc5227.probe_num
  pub all_announcements : length (times_of an_announcement whole_claim.marks) ≡ rfc5227.announce_num
