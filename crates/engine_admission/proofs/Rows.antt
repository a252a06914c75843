-- The rows that a call begins with, before its others: they refuse it, or leave it to those.
use Prim.Native.Nat.{ℕ}
use mathlib.Core.Path.{◌≡◌, refl, sym, ap, ◌∙◌}
use mathlib.Core.Bool.{Bool, true, false, not}
use Rattle.std.specs.Prelude.{Option, None, Some}
use Rattle.std.specs.Option.{option_or}
use lib.Dec.{ltb}
use Rattle.basis.specs.Times.{last_time}
use Rattle.basis.specs.Answers.{◌if◌else◌}
use Rattle.basis.specs.Frame.{frame_length}
use Rattle.basis.specs.declared.Time.{Time}
use Rattle.basis.specs.declared.Interface.{Interface}
use Rattle.basis_engine.specs.Interface.{is_sound}
use Rattle.basis_engine.specs.Refusals.{state_and_time, state_time_and_room}
use Rattle.engine_admission.specs.Rows.{first_rows}

-- What the first rows give of a state is what the table says of it.
pub first_rows_lem : (s : Interface) (sound : Bool) → sound ≡ is_sound s → (time : Time) → first_rows sound s.latest time ≡ state_and_time s time None
unfolding state_and_time
first_rows_lem s sound e time = rw e

row_first : (row : Bool) (n : ℕ) (more less others : Option ℕ) → more ≡ option_or less others →
    (n if row else more) ≡ option_or (n if row else less) others
row_first true n more less others e = refl
row_first false n more less others e = e

module _ (s : Interface) (time : Time) (others : Option ℕ) where
  rows_first : state_and_time s time others ≡ option_or (state_and_time s time None) others
  unfolding state_and_time
  rows_first =
      row_first (not (is_sound s)) 1 _ _ others
      (row_first (ltb last_time time.0) 3 _ _ others (row_first (ltb time.0 s.latest.0) 4 _ _ others refl))

  pub rows_bar : (n : ℕ) → state_and_time s time None ≡ Some n → state_and_time s time others ≡ Some n
  rows_bar n e = rows_first ∙ ap (λ (o : Option ℕ). option_or o others) e

  pub rows_leave : state_and_time s time None ≡ None → state_and_time s time others ≡ others
  rows_leave e = rows_first ∙ ap (λ (o : Option ℕ). option_or o others) e

-- Row 5 behind them, of a state that is known to be sound or not.
module _ (s : Interface) (sound : Bool) (known : sound ≡ is_sound s) (time : Time) (room : ℕ) where
  abbrev with_row_5 : Option ℕ → Option ℕ
  with_row_5 first = option_or first (5 if ltb room frame_length else None)

  pub room_told : with_row_5 (first_rows sound s.latest time) ≡ state_time_and_room s time room None
  room_told = ap with_row_5 (first_rows_lem s sound known time) ∙ sym (rows_first s time (5 if ltb room frame_length else None))

  pub room_admits : None ≡ with_row_5 (first_rows sound s.latest time) → state_and_time s time None ≡ None
  room_admits e = nothing_first (state_and_time s time None) (sym (e ∙ ap with_row_5 (first_rows_lem s sound known time)))
    where
      nothing_first : (first : Option ℕ) → with_row_5 first ≡ None → first ≡ None
      nothing_first None e = refl
      nothing_first (Some n) e = e

pub ruleset room_ends = (room_told, room_admits)

-- All four, before a call's others.
module _ (s : Interface) (time : Time) (room : ℕ) (others : Option ℕ) where
  room_rows_first : state_time_and_room s time room others ≡ option_or (state_time_and_room s time room None) others
  unfolding state_and_time
  room_rows_first =
      row_first (not (is_sound s)) 1 _ _ others
      (row_first (ltb last_time time.0) 3 _ _ others
      (row_first (ltb time.0 s.latest.0) 4 _ _ others (row_first (ltb room frame_length) 5 _ _ others refl)))

  pub room_rows_bar : (n : ℕ) → state_time_and_room s time room None ≡ Some n → state_time_and_room s time room others ≡ Some n
  room_rows_bar n e = room_rows_first ∙ ap (λ (o : Option ℕ). option_or o others) e

  pub room_rows_leave : state_time_and_room s time room None ≡ None → state_time_and_room s time room others ≡ others
  room_rows_leave e = room_rows_first ∙ ap (λ (o : Option ℕ). option_or o others) e
