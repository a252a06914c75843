-- How the fields of a form make up its call.
use Prim.Native.Nat.{ℕ, suc, ◌<◌, ◌≤◌}
use mathlib.Core.Path.{◌≡◌, refl, ap, sym, ◌∙◌}
use mathlib.Core.List.{List, [], ◌∷◌, ◌++◌}
use Rattle.std.specs.Prelude.{Option, None, Some, option_map}
use native.Mathlib.Omega.{arith}
use lib.ListN.{length, take, drop}
use Rattle.basis.specs.Frame.{frame_length}
use Rattle.basis.specs.declared.Time.{Time}
use Rattle.basis.specs.declared.HardwareAddress.{HardwareAddress}
use Rattle.basis.specs.declared.Ipv4Address.{Ipv4Address}
use Rattle.basis_engine.specs.Machine.{Invocation}
use Rattle.basis_lines.specs.Fields.{tab, parts, first_part, ◌then◌}
use Rattle.basis_lines.specs.Numbers.{number, largest, largest_draw, address, bytes, hardware}
use Rattle.basis_lines.specs.Forms.{field, made, fresh_call, ask_at, tick_at, packet_at, drop_at}
use Rattle.basis_lines.proofs.FieldLaws.{separated}
use Rattle.basis_lines.proofs.NumberLaws.{number_at_most}
use Rattle.basis_lines.proofs.HexLaws.{foreign_in_bytes, foreign_in_hardware}
use Rattle.parse_numbers.proofs.NumbersLaws.{separator_in_number}
use Rattle.parse_hex.specs.HexValues.{head_of}
use Rattle.parse_forms.specs.Commands.{headed, Makes, if_count}
use Rattle.parse_numbers.specs.declared.Digits.{Digits}
use Rattle.parse_forms.proofs.Counts.{last_field, ReadNext, alone, unread, goes_on}
use Rattle.basis.specs.declared.Call.{Call}

pub draw_fits : (text : List ℕ) (r : Option ℕ) (n : ℕ) → r ≡ number largest_draw text → r ≡ Some n → n ≤ largest_draw
draw_fits text r n e m = number_at_most largest_draw text n (sym e ∙ m)

-- What the last fields of `ask` make, once those before them are read.
abbrev draw_at : Time → Ipv4Address → ℕ → List (List ℕ) → Option Invocation
draw_at t wanted policy fields = number largest_draw (field 4 fields) then λ draw. Some (made (Call.Ask t wanted policy draw) [])

abbrev policy_at : Time → Ipv4Address → List (List ℕ) → Option Invocation
policy_at t wanted fields = number largest (field 3 fields) then λ policy. draw_at t wanted policy fields

-- A form's last field, which is all that is left of the line: its reader takes no tab.
pub record ReadLast {A : Type 0} (count : ℕ) (front : List (List ℕ)) (call : List (List ℕ) → Option Invocation) (read : List ℕ → Option A)
    (make : A → Invocation) : Type 0 where
  pub is_last : suc (length front) ≡ count
  pub reads : (x : List ℕ) → call (front ++ (x ∷ [])) ≡ (read x then λ a. Some (make a))
  pub no_tab : (x : List ℕ) → length (first_part tab x) < length x → read x ≡ None

module _ {A : Type 0} {count : ℕ} {front : List (List ℕ)} {call : List (List ℕ) → Option Invocation} {read : List ℕ → Option A}
    {make : A → Invocation} (form : ReadLast count front call read make) (last : List ℕ) where
  pub whole_last : (read last then λ a. Some (make a)) ≡ if_count count call (front ++ parts tab last)
  whole_last =
      sym (form.reads last)
      ∙ last_field count call front last form.is_last (λ more. form.reads last ∙ rw (form.no_tab last more))

  module _ (r : Option A) (told : r ≡ read last) where
    pub last_unread : r ≡ None → None ≡ if_count count call (front ++ parts tab last)
    last_unread none = sym (rw (sym told ∙ none) refl) ∙ whole_last

    pub last_read : (a : A) → r ≡ Some a → Some (make a) ≡ if_count count call (front ++ parts tab last)
    last_read a some = sym (rw (sym told ∙ some) refl) ∙ whole_last

number_no_tab : (most : ℕ) (text : List ℕ) → length (first_part tab text) < length text → number most text ≡ None
number_no_tab most text more = separator_in_number tab most refl text more

bytes_no_tab : (text : List ℕ) → length (first_part tab text) < length text → bytes text ≡ None
bytes_no_tab text more = ap bytes (separated tab text more) ∙ foreign_in_bytes (first_part tab text) tab _ refl

hardware_no_tab : (text : List ℕ) → length (first_part tab text) < length text → hardware text ≡ None
hardware_no_tab text more = ap hardware (separated tab text more) ∙ foreign_in_hardware (first_part tab text) tab _ refl

pub own_last : ReadLast 2 ([] ∷ []) fresh_call hardware (λ own. made (Call.Fresh (record { hardware = own })) [])
own_last = record { is_last = refl; reads = λ x. refl; no_tab = hardware_no_tab }

module _ (t : Time) where
  pub tick_last : ReadLast 3 ([] ∷ [] ∷ []) (tick_at t) (number largest_draw) (λ draw. made (Call.Tick t draw) [])
  tick_last = record { is_last = refl; reads = λ x. refl; no_tab = number_no_tab largest_draw }

  pub drop_last : ReadLast 3 ([] ∷ [] ∷ []) (drop_at t) (number largest) (λ slot. made (Call.Drop t slot) [])
  drop_last = record { is_last = refl; reads = λ x. refl; no_tab = number_no_tab largest }

  packet_last : ReadLast 3 ([] ∷ [] ∷ []) (packet_at t) bytes (λ frame. made (Call.Packet t) frame)
  packet_last = record { is_last = refl; reads = λ x. refl; no_tab = bytes_no_tab }

  pub draw_last : (wanted : Ipv4Address) (policy : ℕ)
      → ReadLast 5 ([] ∷ [] ∷ [] ∷ [] ∷ []) (draw_at t wanted policy) (number largest_draw)
      (λ draw. made (Call.Ask t wanted policy draw) [])
  draw_last wanted policy = record { is_last = refl; reads = λ x. refl; no_tab = number_no_tab largest_draw }

module _ (last : List ℕ) (r : Option HardwareAddress) (told : r ≡ hardware last) where
  pub no_hardware : r ≡ None → None ≡ if_count 2 fresh_call ([] ∷ parts tab last)
  no_hardware = last_unread own_last last r told

  pub hardware_read : (own : HardwareAddress) → r ≡ Some own
      → Some (made (Call.Fresh (record { hardware = own })) []) ≡ if_count 2 fresh_call ([] ∷ parts tab last)
  hardware_read = last_read own_last last r told

pub ruleset fresh_ends = (no_hardware, hardware_read)

module _ (t : Time) (last : List ℕ) (r : Option ℕ) where
  module _ (told : r ≡ number largest_draw last) where
    pub no_tick : r ≡ None → None ≡ if_count 3 (tick_at t) ([] ∷ [] ∷ parts tab last)
    no_tick = last_unread (tick_last t) last r told

    pub tick_read : (draw : ℕ) → r ≡ Some draw → Some (made (Call.Tick t draw) []) ≡ if_count 3 (tick_at t) ([] ∷ [] ∷ parts tab last)
    tick_read = last_read (tick_last t) last r told

  module _ (told : r ≡ number largest last) where
    pub no_drop : r ≡ None → None ≡ if_count 3 (drop_at t) ([] ∷ [] ∷ parts tab last)
    no_drop = last_unread (drop_last t) last r told

    pub drop_read : (slot : ℕ) → r ≡ Some slot → Some (made (Call.Drop t slot) []) ≡ if_count 3 (drop_at t) ([] ∷ [] ∷ parts tab last)
    drop_read = last_read (drop_last t) last r told

pub ruleset tick_ends = (no_tick, tick_read)

pub ruleset drop_ends = (no_drop, drop_read)

-- The bytes of a packet, of which the first 28 stand in the head.
cut : (t : Time) (frame : Option (List ℕ))
    → option_map (made (Call.Packet t)) (option_map (take frame_length) frame)
    ≡ option_map headed (frame then λ f. Some (made (Call.Packet t) f))
cut t None = refl
cut t (Some frame) = refl

module _ (t : Time) (last : List ℕ) (r : Option ℕ) (head : List ℕ) (e : head_of r head ≡ option_map (take frame_length) (bytes last)) where
  packet_whole : option_map (made (Call.Packet t)) (head_of r head)
      ≡ option_map headed (if_count 3 (packet_at t) ([] ∷ [] ∷ parts tab last))
  packet_whole = ap (option_map (made (Call.Packet t))) e ∙ cut t (bytes last) ∙ ap (option_map headed) (whole_last (packet_last t) last)

  pub packet_unread : r ≡ None → Makes None head (if_count 3 (packet_at t) ([] ∷ [] ∷ parts tab last))
  packet_unread m = record { makes = sym (ap (λ q. option_map (made (Call.Packet t)) (head_of q head)) m) ∙ packet_whole }

  pub packet_read : (count : ℕ) → r ≡ Some count
      → Makes (Some (record { call = Call.Packet t; count = count })) head (if_count 3 (packet_at t) ([] ∷ [] ∷ parts tab last))
  packet_read count m = record { makes = sym (ap (λ q. option_map (made (Call.Packet t)) (head_of q head)) m) ∙ packet_whole }

pub ruleset packet_ends = (packet_unread, packet_read)

-- `ask`: the address, the policy, then the draw.
module _ (t : Time) where
  address_next : ReadNext 5 ([] ∷ [] ∷ []) (ask_at t) address (policy_at t)
  address_next = record { not_last = omega arith; reads = λ x ys. refl }

  policy_next : (wanted : Ipv4Address) → ReadNext 5 ([] ∷ [] ∷ [] ∷ []) (policy_at t wanted) (number largest) (draw_at t wanted)
  policy_next wanted = record { not_last = omega arith; reads = λ x ys. refl }

  module _ (rest second : List ℕ) (cut_off : second ≡ first_part tab rest) (r : Option Ipv4Address) (told : r ≡ address second) where
    abbrev whole : Option Invocation
    whole = if_count 5 (ask_at t) ([] ∷ [] ∷ parts tab rest)

    pub no_address : r ≡ None → None ≡ whole
    no_address is = sym (unread address_next rest (ap address (sym cut_off) ∙ sym told ∙ is))

    pub address_alone : length rest ≤ length second → None ≡ whole
    address_alone all = sym (alone address_next rest (omega (arith, all, ap length cut_off)))

    module _ (wanted : Ipv4Address) (is : r ≡ Some wanted) (more : length second < length rest)
        (third : List ℕ) (behind : third ≡ drop (suc (length second)) rest) where
      address_read : if_count 5 (policy_at t wanted) ([] ∷ [] ∷ [] ∷ parts tab third) ≡ whole
      address_read =
          goes_on address_next rest wanted (length second) third (ap address (sym cut_off) ∙ sym told ∙ is) (ap length cut_off) more behind

      module _ (first : Option Digits) (read : option_map (λ f. f.value) first ≡ number largest (first_part tab third)) where
        pub no_policy : first ≡ None → None ≡ whole
        no_policy none = sym (unread (policy_next wanted) third (sym read ∙ ap (option_map (λ f. f.value)) none)) ∙ address_read

        module _ (f : Digits) (some : first ≡ Some f) (ends : f.count ≡ length (first_part tab third)) where
          pub policy_alone : length third ≤ f.count → None ≡ whole
          policy_alone all = sym (alone (policy_next wanted) third (omega (arith, all, ends))) ∙ address_read

          module _ (tab_behind : f.count < length third) (last : List ℕ) (last_is : last ≡ drop (suc f.count) third) where
            policy_read : if_count 5 (draw_at t wanted f.value) ([] ∷ [] ∷ [] ∷ [] ∷ parts tab last) ≡ whole
            policy_read =
                goes_on (policy_next wanted) third f.value f.count last (sym read ∙ ap (option_map (λ f. f.value)) some) ends tab_behind
                last_is
                ∙ address_read

            module _ (d : Option ℕ) (drawn : d ≡ number largest_draw last) where
              pub no_draw : d ≡ None → None ≡ whole
              no_draw none = last_unread (draw_last t wanted f.value) last d drawn none ∙ policy_read

              pub asked_whole : (draw : ℕ) → d ≡ Some draw → Some (made (Call.Ask t wanted f.value draw) []) ≡ whole
              asked_whole draw is = last_read (draw_last t wanted f.value) last d drawn draw is ∙ policy_read

pub ruleset ask_ends = (no_address, address_alone, no_policy, policy_alone, no_draw, asked_whole)
