-- The marks of one claim, stage by stage: while it probes, and while it is in use.
use Rattle.std.specs.Prelude.{Option, Some, None}
use Prim.Native.Nat.{ℕ, suc, ◌+◌, ◌<◌, ◌≤◌}
use mathlib.Core.Path.{◌≡◌, refl, ap, ◌∙◌}
use mathlib.Core.Bool.{Bool, true, false, cond, not, ◌&&◌, ◌||◌, and-false}
use mathlib.Core.List.{List, [], ◌∷◌, ◌++◌}
use native.Mathlib.Omega.{arith}
use lib.Dec.{ltb, eqb}
use lib.ListN.{length}
use borrow.Author.Tests.{lt-ltb, le-ltb, ltb-false, leb-true}
use Rattle.basis.specs.declared.Time.{Time}
use Rattle.basis.specs.declared.Resolution.{Resolution}
use Rattle.basis.specs.declared.Resolution.TheVariants.{Lose, Defend, Keep}
use Rattle.basis_engine.specs.Timing.{Timing, gap, is_within}
use Rattle.basis_engine.specs.Interface.{is_past}
use Rattle.basis_engine.specs.Conflicts.{by_policy}
use Rattle.basis_engine.specs.Calls.{delay}
use Rattle.basis_engine.specs.Claims.{Mark, is_in_use, last_conflict, is_surrender, is_open_after, mark, a_probe, an_announcement, a_defence, a_conflict, a_drop, times_of, Sign}
use Rattle.basis_engine.specs.Demand3.{Spaced, IsAfter}

-- One more time, the latest.
pub spaced_cons : (ms time : ℕ) (times : List ℕ) → IsAfter ms times time → Spaced ms times → Spaced ms (time ∷ times)
spaced_cons ms time [] after spaced = tt
spaced_cons ms time (before ∷ earlier) after spaced = (after, spaced)

-- A claim that has sent nothing but probes.
abbrev pub IsProbe : Sign → Type 0
IsProbe a_probe = Unit {0}
IsProbe an_announcement = ⊥
IsProbe a_defence = ⊥
IsProbe a_conflict = ⊥
IsProbe a_drop = ⊥

abbrev pub OnlyProbes : List Mark → Type 0
OnlyProbes [] = Unit {0}
OnlyProbes (m ∷ earlier) = IsProbe m.sign × OnlyProbes earlier

pub record Untouched (row : Timing) (policy : ℕ) (marks : List Mark) : Type 0 where
  pub not_in_use : is_in_use marks ≡ false
  pub still_open : is_open_after row policy marks ≡ true
  pub no_announcements : times_of an_announcement marks ≡ []
  pub no_defences : times_of a_defence marks ≡ []
  pub no_conflicts : times_of a_conflict marks ≡ []
  pub no_last_conflict : last_conflict marks ≡ None

untouched_probe : (row : Timing) → (policy : ℕ) (sign : Sign) (t : Time) (earlier : List Mark) → IsProbe sign → Untouched row policy earlier →
    Untouched row policy (mark sign t ∷ earlier)
unfolding times_of is_open_after
untouched_probe row policy a_probe t earlier only w =
    record {
      not_in_use = w.not_in_use;
      still_open = w.still_open;
      no_announcements = w.no_announcements;
      no_defences = w.no_defences;
      no_conflicts = w.no_conflicts;
      no_last_conflict = w.no_last_conflict;
    }
untouched_probe row policy an_announcement t earlier only w = absurd only
untouched_probe row policy a_defence t earlier only w = absurd only
untouched_probe row policy a_conflict t earlier only w = absurd only
untouched_probe row policy a_drop t earlier only w = absurd only

pub untouched : (row : Timing) → (policy : ℕ) (marks : List Mark) → OnlyProbes marks → Untouched row policy marks
unfolding times_of is_open_after
untouched row policy [] only =
    record { not_in_use = refl; still_open = refl; no_announcements = refl; no_defences = refl; no_conflicts = refl; no_last_conflict = refl }
untouched row policy (m ∷ earlier) only = untouched_probe row policy m.sign m.time earlier only.0 (untouched row policy earlier only.1)

-- What demand 3 asks of every claim's frames.
pub record Bounded (row : Timing) (marks : List Mark) : Type 0 where
  pub few_probes : length (times_of a_probe marks) ≤ row.probe_num
  pub few_announcements : length (times_of an_announcement marks) ≤ row.announce_num
  pub defences_apart : Spaced row.defend_interval (times_of a_defence marks)

-- The least delay after so many probes, and a claim that has sent so many, the next frame being due at a deadline.
abbrev pub least_delay : (row : Timing) → ℕ → ℕ
least_delay row sent = cond (ltb sent row.probe_num) row.probe_min row.announce_wait

pub least_delay_lem : (row : Timing) → (sent draw : ℕ) → least_delay row sent ≤ delay row sent draw
least_delay_lem row sent draw = go (ltb sent row.probe_num)
  where
    go : (b : Bool) → cond b row.probe_min row.announce_wait ≤ cond b (gap row draw) row.announce_wait
    go true = omega arith
    go false = omega arith

-- After the last probe it is the wait before announcing.
pub last_delay : (row : Timing) → least_delay row row.probe_num ≡ row.announce_wait
last_delay row = rw (le-ltb row.probe_num row.probe_num (omega arith))

pub record Probed (row : Timing) (sent deadline : ℕ) (marks : List Mark) : Type 0 where
  pub only : OnlyProbes marks
  pub number : length (times_of a_probe marks) ≡ sent
  pub at_most : sent ≤ row.probe_num
  pub apart : Spaced row.probe_min (times_of a_probe marks)
  pub due : IsAfter (least_delay row sent) (times_of a_probe marks) deadline

pub after_later : (ms : ℕ) (times : List ℕ) (time later : ℕ) → time ≤ later → IsAfter ms times time → IsAfter ms times later
after_later ms [] time later h after = tt
after_later ms (latest ∷ earlier) time later h after = omega arith

pub new_story : (row : Timing) → (deadline : ℕ) → Probed row 0 deadline []
unfolding times_of
new_story row deadline = record { only = tt; number = refl; at_most = omega arith; apart = tt; due = tt }

pub probe_sent : (row : Timing) → (sent deadline draw : ℕ) (t : Time) (marks : List Mark) → Probed row sent deadline marks → sent < row.probe_num →
    deadline ≤ t.0 → Probed row (suc sent) (t.0 + delay row (suc sent) draw) (mark a_probe t ∷ marks)
unfolding times_of
probe_sent row sent deadline draw t marks w more late =
    let least = least_delay_lem row (suc sent) draw in
    let first : least_delay row sent ≡ row.probe_min = rw (lt-ltb sent row.probe_num more) in
    record {
      only = (tt, w.only);
      number = ap suc w.number;
      at_most = more;
      apart = spaced_cons row.probe_min t.0 (times_of a_probe marks)
          (rw first at (after_later (least_delay row sent) (times_of a_probe marks) deadline t.0 late w.due)) w.apart;
      due = omega arith;
    }

pub probing_bounded : (row : Timing) → (sent deadline : ℕ) (marks : List Mark) → Probed row sent deadline marks → Bounded row marks
probing_bounded row sent deadline marks w =
    let quiet = untouched row 0 marks w.only in
    let number = w.number in
    let at_most = w.at_most in
    record {
      few_probes = omega arith;
      few_announcements = rw quiet.no_announcements (omega arith);
      defences_apart = rw quiet.no_defences tt;
    }

-- Defences none of which came after the last conflict.
abbrev pub Behind : List ℕ → Option Time → Type 0
Behind [] last = Unit {0}
Behind (t ∷ earlier) None = ⊥
Behind (t ∷ earlier) (Some last) = t ≤ last.0

-- A claim in use: it went through, it was not given up, its last conflict was this one, and it sent so many announcements.
pub record InUse (row : Timing) (policy : ℕ) (conflict : Option Time) (sent : ℕ) (marks : List Mark) : Type 0 where
  pub since : List Mark
  pub announced_at : Time
  pub before : List Mark
  pub split : marks ≡ since ++ (mark an_announcement announced_at ∷ before)
  pub through : Probed row row.probe_num announced_at.0 before
  pub all_probes : length (times_of a_probe marks) ≡ row.probe_num
  pub number : length (times_of an_announcement marks) ≡ sent
  pub in_use : is_in_use marks ≡ true
  pub still_open : is_open_after row policy marks ≡ true
  pub last : last_conflict marks ≡ conflict
  pub apart : Spaced row.defend_interval (times_of a_defence marks)
  pub behind : Behind (times_of a_defence marks) conflict

pub first_announced : (row : Timing) → (policy deadline : ℕ) (t : Time) (marks : List Mark) → Probed row row.probe_num deadline marks → deadline ≤ t.0 →
    InUse row policy None 1 (mark an_announcement t ∷ marks)
unfolding times_of is_open_after
first_announced row policy deadline t marks w late =
    let quiet = untouched row policy marks w.only in
    record {
      since = [];
      announced_at = t;
      before = marks;
      split = refl;
      through = record {
        only = w.only;
        number = w.number;
        at_most = w.at_most;
        apart = w.apart;
        due = after_later (least_delay row row.probe_num) (times_of a_probe marks) deadline t.0 late w.due;
      };
      all_probes = w.number;
      number = rw quiet.no_announcements;
      in_use = refl;
      still_open = quiet.still_open;
      last = quiet.no_last_conflict;
      apart = rw quiet.no_defences tt;
      behind = rw quiet.no_defences tt;
    }

pub second_announced : (row : Timing) → (policy : ℕ) (conflict : Option Time) (t : Time) (marks : List Mark) → InUse row policy conflict 1 marks →
    InUse row policy conflict 2 (mark an_announcement t ∷ marks)
unfolding times_of is_open_after
second_announced row policy conflict t marks w =
    record {
      since = mark an_announcement t ∷ w.since;
      announced_at = w.announced_at;
      before = w.before;
      split = ap {B = List Mark} (λ ms. mark an_announcement t ∷ ms) w.split;
      through = w.through;
      all_probes = w.all_probes;
      number = ap suc w.number;
      in_use = refl;
      still_open = w.still_open;
      last = w.last;
      apart = w.apart;
      behind = w.behind;
    }

behind_later : (times : List ℕ) (conflict : Option Time) (t : Time) → is_past t conflict ≡ true → Behind times conflict → Behind times (Some t)
behind_later [] conflict t past behind = tt
behind_later (d ∷ earlier) None t past behind = absurd behind
behind_later (d ∷ earlier) (Some last) t past behind = let h = leb-true last.0 t.0 past in omega arith

pub conflict_borne : (row : Timing) → (policy : ℕ) (conflict : Option Time) (sent : ℕ) (t : Time) (marks : List Mark) → InUse row policy conflict sent marks →
    is_past t conflict ≡ true → is_surrender row policy marks t ≡ false → InUse row policy (Some t) sent (mark a_conflict t ∷ marks)
unfolding times_of is_open_after
conflict_borne row policy conflict sent t marks w past borne =
    record {
      since = mark a_conflict t ∷ w.since;
      announced_at = w.announced_at;
      before = w.before;
      split = ap {B = List Mark} (λ ms. mark a_conflict t ∷ ms) w.split;
      through = w.through;
      all_probes = w.all_probes;
      number = w.number;
      in_use = w.in_use;
      still_open = rw (w.still_open, w.in_use, rw w.in_use at borne);
      last = refl;
      apart = w.apart;
      behind = behind_later (times_of a_defence marks) conflict t past w.behind;
    }

defence_after : (row : Timing) → (times : List ℕ) (conflict : Option Time) (t : Time) → is_within row.defend_interval t conflict ≡ false →
    Behind times conflict → IsAfter row.defend_interval times t.0
defence_after row [] conflict t quiet behind = tt
defence_after row (d ∷ earlier) None t quiet behind = absurd behind
defence_after row (d ∷ earlier) (Some last) t quiet behind =
    let h = ltb-false t.0 (last.0 + row.defend_interval) quiet in omega arith

-- A defence of the conflict just seen, the one before it being long ago or none.
pub defence_sent : (row : Timing) → (policy : ℕ) (conflict : Option Time) (sent : ℕ) (t : Time) (marks : List Mark) → InUse row policy (Some t) sent (mark a_conflict t ∷ marks) →
    Behind (times_of a_defence marks) conflict → is_within row.defend_interval t conflict ≡ false →
    InUse row policy (Some t) sent (mark a_defence t ∷ (mark a_conflict t ∷ marks))
unfolding times_of is_open_after
defence_sent row policy conflict sent t marks w behind quiet =
    record {
      since = mark a_defence t ∷ w.since;
      announced_at = w.announced_at;
      before = w.before;
      split = ap {B = List Mark} (λ ms. mark a_defence t ∷ ms) w.split;
      through = w.through;
      all_probes = w.all_probes;
      number = w.number;
      in_use = w.in_use;
      still_open = w.still_open;
      last = w.last;
      apart = spaced_cons row.defend_interval t.0 (times_of a_defence marks) (defence_after row (times_of a_defence marks) conflict t quiet behind) w.apart;
      behind = omega arith;
    }

pub in_use_bounded : (row : Timing) → (policy : ℕ) (conflict : Option Time) (sent : ℕ) (marks : List Mark) → sent ≤ row.announce_num →
    InUse row policy conflict sent marks → Bounded row marks
in_use_bounded row policy conflict sent marks few w =
    let all = w.all_probes in
    let number = w.number in
    record { few_probes = omega arith; few_announcements = omega arith; defences_apart = w.apart }

-- A conflict or a drop sends nothing, and a claim that it ends is ended.
pub bounded_conflicted : (row : Timing) → (t : Time) (marks : List Mark) → Bounded row marks → Bounded row (mark a_conflict t ∷ marks)
unfolding times_of
bounded_conflicted row t marks w =
    record { few_probes = w.few_probes; few_announcements = w.few_announcements; defences_apart = w.defences_apart }

pub bounded_dropped : (row : Timing) → (t : Time) (marks : List Mark) → Bounded row marks → Bounded row (mark a_drop t ∷ marks)
unfolding times_of
bounded_dropped row t marks w =
    record { few_probes = w.few_probes; few_announcements = w.few_announcements; defences_apart = w.defences_apart }

pub ended_before_use : (row : Timing) → (policy : ℕ) (t : Time) (marks : List Mark) → is_in_use marks ≡ false →
    is_open_after row policy (mark a_conflict t ∷ marks) ≡ false
unfolding is_open_after
ended_before_use row policy t marks e = rw e

pub ended_by_surrender : (row : Timing) → (policy : ℕ) (t : Time) (marks : List Mark) → is_surrender row policy marks t ≡ true →
    is_open_after row policy (mark a_conflict t ∷ marks) ≡ false
unfolding is_open_after
ended_by_surrender row policy t marks e = rw (e, and-false (is_in_use marks)) refl

pub ended_by_drop : (row : Timing) → (policy : ℕ) (t : Time) (marks : List Mark) → is_open_after row policy (mark a_drop t ∷ marks) ≡ false
unfolding is_open_after
ended_by_drop row policy t marks = refl

-- What a policy's resolution says: with these three tests (policy 1, policy 2, a near conflict) it is a surrender exactly where
-- the address is lost, and a defence has no near conflict before it.
resolution_tests : Bool → Bool → Bool → Resolution
resolution_tests one two near = cond one Lose (cond (not near) Defend (cond two Lose Keep))

lost_tests : (one two near : Bool) → resolution_tests one two near ≡ Lose → (one || (two && near)) ≡ true
unfolding resolution_tests
lost_tests true two near e = refl
lost_tests false true true e = refl
lost_tests false false true e = cc
lost_tests false two false e = cc

defended_tests : (one two near : Bool) → resolution_tests one two near ≡ Defend → ((one || (two && near)) ≡ false) × (near ≡ false)
unfolding resolution_tests
defended_tests true two near e = (cc, cc)
defended_tests false true true e = (cc, cc)
defended_tests false false true e = (cc, cc)
defended_tests false true false e = (refl, refl)
defended_tests false false false e = (refl, refl)

kept_tests : (one two near : Bool) → resolution_tests one two near ≡ Keep → (one || (two && near)) ≡ false
unfolding resolution_tests
kept_tests true two near e = cc
kept_tests false true true e = cc
kept_tests false false true e = refl
kept_tests false two false e = cc

module _ (row : Timing) (policy : ℕ) (conflict : Option Time) (sent : ℕ) (t : Time) (marks : List Mark) (w : InUse row policy conflict sent marks) where
  near : Bool
  near = is_within row.defend_interval t conflict

  surrender_is : is_surrender row policy marks t ≡ (eqb policy 1 || (eqb policy 2 && is_within row.defend_interval t conflict))
  surrender_is = rw (w.in_use, w.last)

  pub lost_surrenders : by_policy row policy t conflict ≡ Lose → is_surrender row policy marks t ≡ true
  unfolding resolution_tests near
  lost_surrenders e = surrender_is ∙ lost_tests (eqb policy 1) (eqb policy 2) near e

  pub defended_bears : by_policy row policy t conflict ≡ Defend →
      (is_surrender row policy marks t ≡ false) × (is_within row.defend_interval t conflict ≡ false)
  unfolding resolution_tests near
  defended_bears e =
      let facts = defended_tests (eqb policy 1) (eqb policy 2) near e in
      (surrender_is ∙ facts.0, facts.1)

  pub kept_bears : by_policy row policy t conflict ≡ Keep → is_surrender row policy marks t ≡ false
  unfolding resolution_tests near
  kept_bears e = surrender_is ∙ kept_tests (eqb policy 1) (eqb policy 2) near e
