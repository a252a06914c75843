-- A law for each way that a function ends.
use Prim.Native.Nat.{ℕ, ◌≤◌}
use mathlib.Core.Path.{◌≡◌, refl, sym, ◌∙◌}
use mathlib.Core.Bool.{Bool, true, false, not}
use Rattle.std.specs.Prelude.{Option, None, Some}
use lib.Dec.{leb}
use borrow.Author.Tests.{leb-true}
use Rattle.basis.specs.Times.{last_time}
use Rattle.basis.specs.Answers.{◌if◌else◌}
use Rattle.basis.specs.declared.Ipv4Address.{Ipv4Address}
use Rattle.basis.specs.declared.Time.{Time}
use Rattle.basis.specs.declared.Record.{Record}
use Rattle.basis.specs.declared.Interface.{Interface}
use Rattle.basis.specs.declared.Kind.TheVariants.{Taken}
use Rattle.std.proofs.lemmas.Bool.{and_parts}
use Rattle.basis_engine.specs.Timing.{rfc5227}
use Rattle.basis_engine.specs.Slots.{lowest, is_none}
use Rattle.basis_engine.specs.Interface.{is_allowed, is_policy, is_free, is_held}
use Rattle.basis_engine.specs.Refusals.{state_and_time, is_too_soon, ask_refusal}
use Rattle.basis_engine.specs.Calls.{ask_outcome, new_claim}
use Rattle.basis_engine.proofs.Acceptance.{admitted}
use Rattle.engine_admission.proofs.Rows.{rows_bar, rows_leave}
use Rattle.engine_state.specs.declared.Change.{Change}
use Rattle.engine_state.specs.Changes.{change_at, asking}
use Rattle.engine_decisions.specs.Decisions.{Decides}

module _ (s : Interface) (time : Time) (address : Ipv4Address) (policy draw : ℕ) where
  pub ask_barred : (n : ℕ) → Some n ≡ state_and_time s time None → Some n ≡ ask_refusal s time address policy draw
  unfolding ask_refusal
  ask_barred n e = sym (rows_bar s time _ n (sym e))

  module _ (first : None ≡ state_and_time s time None) where
    left : ask_refusal s time address policy draw ≡
        8 if not (is_allowed address) else
        9 if not (is_policy policy) else
        10 if is_held address s.records else
        11 if is_none (lowest is_free s.records) else
        12 if is_too_soon s time else None
    unfolding ask_refusal
    left = rows_leave s time _ (sym first)

    pub ask_time : time.0 ≤ last_time
    ask_time = (admitted s time None (sym first)).0.in_range

    module _ (allowed : Bool) (a : allowed ≡ is_allowed address) where
      pub row_8 : allowed ≡ false → Some 8 ≡ ask_refusal s time address policy draw
      row_8 e = sym (left ∙ rw (← a, e))

      module _ (known : Bool) (k : known ≡ is_policy policy) (is : allowed ≡ true) where
        pub row_9 : known ≡ false → Some 9 ≡ ask_refusal s time address policy draw
        row_9 e = sym (left ∙ rw (← a, is, ← k, e))

        module _ (held : Bool) (h : held ≡ is_held address s.records) (knows : known ≡ true) where
          pub row_10 : held ≡ true → Some 10 ≡ ask_refusal s time address policy draw
          row_10 e = sym (left ∙ rw (← a, is, ← k, knows, ← h, e))

          module _ (found : Option ℕ) (f : found ≡ lowest is_free s.records) (free : held ≡ false) where
            pub row_11 : found ≡ None → Some 11 ≡ ask_refusal s time address policy draw
            row_11 e = sym (left ∙ rw (← a, is, ← k, knows, ← h, free, ← f, e))

            module _ (slot : ℕ) (one : found ≡ Some slot) (soon : Bool) (w : soon ≡ is_too_soon s time) where
              pub row_12 : soon ≡ true → Some 12 ≡ ask_refusal s time address policy draw
              row_12 e = sym (left ∙ rw (← a, is, ← k, knows, ← h, free, ← f, one, ← w, e))

              pub no_row : soon ≡ false → None ≡ ask_refusal s time address policy draw
              no_row e = sym (left ∙ rw (← a, is, ← k, knows, ← h, free, ← f, one, ← w, e))

-- `found` is the slot that is taken.
pub ask_takes : (s : Interface) (time : Time) (address : Ipv4Address) (policy draw : ℕ) →
    (found : Option ℕ) → found ≡ lowest is_free s.records → (slot : ℕ) → found ≡ Some slot →
    (at : Time) → at ≡ time → (claim : Record) → claim ≡ new_claim rfc5227 at address policy draw →
    (taken : Change) → taken ≡ change_at s time (Some (slot, claim)) → (change : Change) → change ≡ asking taken →
    Decides s (ask_outcome s time address policy draw) (record { kind = Taken; change = change; frame = None })
unfolding ask_outcome
ask_takes s time address policy draw found f slot one at same claim c taken t change is =
    rw (is, t) (record { accepts = refl; concerns = sym one ∙ f; changes = rw (← f, one, c, same); sends = refl })

pub ask_policy : (policy : ℕ) (known : Bool) → known ≡ is_policy policy → known ≡ true → policy ≤ 3
ask_policy policy known k e = leb-true policy 3 (and_parts (leb 1 policy) (leb policy 3) (sym k ∙ e)).1

pub ruleset ask_ends = (ask_barred, ask_time, row_8, row_9, row_10, row_11, row_12, ask_policy)
