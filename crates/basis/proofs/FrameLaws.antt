-- The laws of the frame.
use Prim.Native.Nat.{ℕ, ◌+◌, ◌≤◌, ◌<◌, ◌^◌}
use mathlib.Core.Path.{◌≡◌, refl, sym, ap, ◌∙◌}
use mathlib.Core.List.{List, [], ◌∷◌, ◌++◌}
use mathlib.Core.Bool.{Bool, true, false, not, ◌&&◌}
use Rattle.std.specs.Prelude.{None}
use native.Mathlib.Omega.{arith}
use lib.ListN.{length, take, drop, length-append}
use lib.Seq.{take-add}
use lib.Pow.{are_bytes}
use lib.Dec.{ltb, eqb}
use borrow.Author.Tests.{lt-ltb, ltb-true, ltb-false, le-ltb, eqb-true}
use Rattle.basis.specs.Addresses.{is_hardware}
use Rattle.basis.specs.Bytes.{bytes_of, number_of, number_at, same_bytes}
use Rattle.basis.specs.Answers.{accepted, ◌if◌else◌}
use Rattle.basis.specs.Frame.{frame_length, frame_bytes, request_header, probe, announcement, is_known_operation, frame_of, is_known_frame, read_refusal, read_of, is_writable, write_refusal, frame_put, write_of, write_out}
use Rattle.std.proofs.lemmas.Bool.{and_parts}
use Rattle.basis.proofs.BytesLaws.{number_bytes_fits, part_append, number_at_lt, number_at_bytes, same_equal}
use Rattle.basis.specs.declared.Ipv4Address.{Ipv4Address}
use Rattle.basis.specs.declared.HardwareAddress.{HardwareAddress}
use Rattle.basis.specs.declared.Host.{Host}
use Rattle.basis.specs.declared.Frame.{Frame}

-- A frame is 28 bytes.
pub frame_length_lem : (f : Frame) → length (frame_bytes f) ≡ frame_length
unfolding frame_bytes
frame_length_lem f = refl

-- Every frame begins with our six bytes, and a request with the eight.
pub frame_header : (f : Frame) → take 6 (frame_bytes f) ≡ take 6 request_header
unfolding frame_bytes
frame_header f = refl

pub request_header_lem : (sender target : Host) →
    take 8 (frame_bytes (record { operation = 1; sender = sender; target = target })) ≡ request_header
unfolding frame_bytes
request_header_lem sender target = refl

-- The probe's and the announcement's bytes.
pub probe_bytes : (ours : HardwareAddress) (address : Ipv4Address) →
    frame_bytes (probe ours address) ≡ request_header ++ bytes_of 6 ours.0 ++ (0 ∷ 0 ∷ 0 ∷ 0 ∷ []) ++ (0 ∷ 0 ∷ 0 ∷ 0 ∷ 0 ∷ 0 ∷ []) ++ bytes_of 4 address.0
unfolding frame_bytes probe
probe_bytes ours address = refl

pub announcement_bytes : (ours : HardwareAddress) (address : Ipv4Address) →
    frame_bytes (announcement ours address) ≡ request_header ++ bytes_of 6 ours.0 ++ bytes_of 4 address.0 ++ (0 ∷ 0 ∷ 0 ∷ 0 ∷ 0 ∷ 0 ∷ []) ++ bytes_of 4 address.0
unfolding frame_bytes announcement
announcement_bytes ours address = refl

-- The probe and the announcement of document 01's whole case: 192.0.2.7, asked for by 02 00 00 00 00 0a.
whole_case_probe :
    frame_bytes (probe (record { 0 = 0x02000000000a }) (record { 0 = 0xc0000207 }))
    ≡ 0x00 ∷ 0x01 ∷ 0x08 ∷ 0x00 ∷ 0x06 ∷ 0x04 ∷ 0x00 ∷ 0x01
    ∷ 0x02 ∷ 0x00 ∷ 0x00 ∷ 0x00 ∷ 0x00 ∷ 0x0a ∷ 0x00 ∷ 0x00 ∷ 0x00 ∷ 0x00
    ∷ 0x00 ∷ 0x00 ∷ 0x00 ∷ 0x00 ∷ 0x00 ∷ 0x00 ∷ 0xc0 ∷ 0x00 ∷ 0x02 ∷ 0x07 ∷ []
unfolding frame_bytes probe
whole_case_probe = refl

whole_case_announcement :
    frame_bytes (announcement (record { 0 = 0x02000000000a }) (record { 0 = 0xc0000207 }))
    ≡ 0x00 ∷ 0x01 ∷ 0x08 ∷ 0x00 ∷ 0x06 ∷ 0x04 ∷ 0x00 ∷ 0x01
    ∷ 0x02 ∷ 0x00 ∷ 0x00 ∷ 0x00 ∷ 0x00 ∷ 0x0a ∷ 0xc0 ∷ 0x00 ∷ 0x02 ∷ 0x07
    ∷ 0x00 ∷ 0x00 ∷ 0x00 ∷ 0x00 ∷ 0x00 ∷ 0x00 ∷ 0xc0 ∷ 0x00 ∷ 0x02 ∷ 0x07 ∷ []
unfolding frame_bytes announcement
whole_case_announcement = refl

-- Where no refusal is given, neither row of the two applies.
neither : (n m : ℕ) (a b : Bool) → n if a else m if not b else None ≡ None → (a ≡ false) × (b ≡ true)
neither n m true b e = (cc, cc)
neither n m false true e = (refl, refl)
neither n m false false e = (refl, cc)

-- An IPv4 address has 32 bits. Every `Ipv4Address` of a program does; in a definition a number may be any.
abbrev pub Is32 : Ipv4Address → Type 0
Is32 address = address.0 < 2 ^ 32

-- What a frame that can be written has.
record Writable (f : Frame) : Type 0 where
  operation_known : is_known_operation f.operation ≡ true
  sender_hardware : f.sender.hardware.0 < 2 ^ 48
  target_hardware : f.target.hardware.0 < 2 ^ 48

writable : (f : Frame) → is_writable f ≡ true → Writable f
unfolding is_writable
writable f h =
    let both = and_parts (is_known_operation f.operation && is_hardware f.sender.hardware) (is_hardware f.target.hardware) h in
    let first = and_parts (is_known_operation f.operation) (is_hardware f.sender.hardware) both.0 in
    record {
      operation_known = first.0;
      sender_hardware = ltb-true f.sender.hardware.0 (2 ^ 48) first.1;
      target_hardware = ltb-true f.target.hardware.0 (2 ^ 48) both.1;
    }

-- Operation 1 or 2 fits two bytes.
known_fits : (operation : ℕ) → is_known_operation operation ≡ true → operation < 256 ^ 2
known_fits operation h = go (eqb operation 1) refl
  where
    go : (b : Bool) → eqb operation 1 ≡ b → operation < 256 ^ 2
    go true e = let one = eqb-true operation 1 e in omega arith
    go false e = let two = eqb-true operation 2 (rw e at h) in omega arith

-- What an accepted write and an accepted read say of what they were given.
pub write_accepted : (f : Frame) (room : ℕ) → write_refusal f room ≡ None → (frame_length ≤ room) × (is_writable f ≡ true)
unfolding write_refusal
write_accepted f room e =
    let facts = neither 5 7 (ltb room frame_length) (is_writable f) e in
    (ltb-false room frame_length facts.0, facts.1)

write_passes : (f : Frame) (room : ℕ) → frame_length ≤ room → is_writable f ≡ true → write_refusal f room ≡ None
unfolding write_refusal
write_passes f room h w = rw (le-ltb room frame_length h, w)

read_accepted : (bytes : List ℕ) → read_refusal bytes ≡ None → (frame_length ≤ length bytes) × (is_known_frame bytes ≡ true)
unfolding read_refusal
read_accepted bytes e =
    let facts = neither 6 7 (ltb (length bytes) frame_length) (is_known_frame bytes) e in
    (ltb-false (length bytes) frame_length facts.0, facts.1)

-- The fields of a frame that starts any list of bytes.
frame_fields : (f : Frame) (rest : List ℕ) → Writable f → Is32 f.sender.ip → Is32 f.target.ip →
    frame_of (frame_bytes f ++ rest) ≡ f
unfolding frame_of frame_bytes
frame_fields f rest w hs ht =
    λ i. record {
      operation = number_bytes_fits 2 f.operation (known_fits f.operation w.operation_known) i;
      sender = record {
        hardware = record { 0 = number_bytes_fits 6 f.sender.hardware.0 w.sender_hardware i };
        ip = record { 0 = number_bytes_fits 4 f.sender.ip.0 hs i };
      };
      target = record {
        hardware = record { 0 = number_bytes_fits 6 f.target.hardware.0 w.target_hardware i };
        ip = record { 0 = number_bytes_fits 4 f.target.ip.0 ht i };
      };
    }

-- A frame that was handed out reads back.
pub handed_out_reads : (f : Frame) (out : List ℕ) → is_writable f ≡ true → Is32 f.sender.ip → Is32 f.target.ip →
    frame_of (frame_put f out) ≡ f
unfolding frame_put
handed_out_reads f out h hs ht = frame_fields f (drop frame_length out) (writable f h) hs ht

-- A frame that was written reads as ours.
frame_is_known : (f : Frame) (rest : List ℕ) → is_known_operation f.operation ≡ true → is_known_frame (frame_bytes f ++ rest) ≡ true
unfolding is_known_frame frame_bytes
frame_is_known f rest k = rw (number_bytes_fits 2 f.operation (known_fits f.operation k)) k

-- A frame at the start of any list of bytes is read.
frame_reads : (f : Frame) (rest : List ℕ) → is_writable f ≡ true → Is32 f.sender.ip → Is32 f.target.ip →
    read_of (frame_bytes f ++ rest) ≡ accepted f
unfolding read_of read_refusal
frame_reads f rest h hs ht =
    let w = writable f h in
    rw (le-ltb (length (frame_bytes f ++ rest)) frame_length long, frame_is_known f rest w.operation_known)
    (ap accepted (frame_fields f rest w hs ht))
  where
    long : frame_length ≤ length (frame_bytes f ++ rest)
    long = rw (length-append (frame_bytes f) rest, frame_length_lem f) (omega arith)

-- An accepted write keeps the rest of the out buffer.
pub write_keeps_rest : (f : Frame) (out : List ℕ) → write_refusal f (length out) ≡ None → drop frame_length (write_out f out) ≡ drop frame_length out
unfolding write_out frame_put frame_bytes
write_keeps_rest f out e = rw e

-- What was written reads back to the same fields.
pub written_reads_back : (f : Frame) (out : List ℕ) → Is32 f.sender.ip → Is32 f.target.ip →
    write_refusal f (length out) ≡ None → read_of (write_out f out) ≡ accepted f
unfolding write_out frame_put
written_reads_back f out hs ht e =
    rw e (frame_reads f (drop frame_length out) (write_accepted f (length out) e).1 hs ht)

-- Bytes after the 28th are ignored.
module _ (bytes rest : List ℕ) (long : frame_length ≤ length bytes) where
  field_ignores : (i n : ℕ) → i + n ≤ frame_length → number_at i n (bytes ++ rest) ≡ number_at i n bytes
  field_ignores i n h = ap number_of (part_append n i bytes rest (omega arith))

  pub frame_ignores : frame_of (bytes ++ rest) ≡ frame_of bytes
  unfolding frame_of
  frame_ignores =
      rw (
        field_ignores 6 2 (omega arith),
        field_ignores 8 6 (omega arith),
        field_ignores 14 4 (omega arith),
        field_ignores 18 6 (omega arith),
        field_ignores 24 4 (omega arith),
      )

  known_ignores : is_known_frame (bytes ++ rest) ≡ is_known_frame bytes
  unfolding is_known_frame
  known_ignores = rw (part_append 6 0 bytes rest (omega arith), field_ignores 6 2 (omega arith))

  pub refusal_ignores : read_refusal (bytes ++ rest) ≡ read_refusal bytes
  unfolding read_refusal
  refusal_ignores =
      rw (
        known_ignores,
        le-ltb (length bytes) frame_length long,
        le-ltb (length (bytes ++ rest)) frame_length (rw length-append (omega arith)),
      )

  pub read_ignores_rest : read_of (bytes ++ rest) ≡ read_of bytes
  unfolding read_of
  read_ignores_rest = rw (refusal_ignores, frame_ignores)

-- The first 28 bytes, cut where the fields begin.
abbrev pieces : List ℕ → List ℕ
pieces bytes =
    take 6 bytes
    ++ take 2 (drop 6 bytes)
    ++ take 6 (drop 8 bytes)
    ++ take 4 (drop 14 bytes)
    ++ take 6 (drop 18 bytes)
    ++ take 4 (drop 24 bytes)

-- A list of at least 28 bytes that begin as ours do: what the fields read from it are made of.
module _ (bytes : List ℕ) (small : are_bytes bytes ≡ true) (long : frame_length ≤ length bytes) (known : is_known_frame bytes ≡ true) where
  known_parts : (same_bytes (take 6 bytes) (take 6 request_header) ≡ true) × (is_known_operation (number_at 6 2 bytes) ≡ true)
  unfolding is_known_frame
  known_parts = and_parts (same_bytes (take 6 bytes) (take 6 request_header)) (is_known_operation (number_at 6 2 bytes)) known

  fields_writable : is_writable (frame_of bytes) ≡ true
  unfolding is_writable frame_of
  fields_writable =
      rw (
        known_parts.1,
        lt-ltb (number_at 8 6 bytes) (2 ^ 48) (number_at_lt 6 8 bytes small (omega arith)),
        lt-ltb (number_at 18 6 bytes) (2 ^ 48) (number_at_lt 6 18 bytes small (omega arith)),
      )

  cut : pieces bytes ≡ take frame_length bytes
  cut = rw (← take-add 6 2 bytes, ← take-add 8 6 bytes, ← take-add 14 4 bytes, ← take-add 18 6 bytes, ← take-add 24 4 bytes)

  fields_bytes : frame_bytes (frame_of bytes) ≡ take frame_length bytes
  unfolding frame_bytes frame_of
  fields_bytes = rebuilt ∙ cut
    where
      rebuilt : frame_bytes (frame_of bytes) ≡ pieces bytes
      rebuilt =
          λ i. sym (same_equal (take 6 bytes) (take 6 request_header) known_parts.0) i
          ++ number_at_bytes 2 6 bytes small (omega arith) i
          ++ number_at_bytes 6 8 bytes small (omega arith) i
          ++ number_at_bytes 4 14 bytes small (omega arith) i
          ++ number_at_bytes 6 18 bytes small (omega arith) i
          ++ number_at_bytes 4 24 bytes small (omega arith) i

-- What was read, written again, gives the same 28 bytes.
pub read_writes_again : (bytes out : List ℕ) → are_bytes bytes ≡ true → read_refusal bytes ≡ None → frame_length ≤ length out →
    (write_of (frame_of bytes) (length out) ≡ accepted tt) × (write_out (frame_of bytes) out ≡ take frame_length bytes ++ drop frame_length out)
unfolding write_of write_out frame_put
read_writes_again bytes out small e room =
    let facts = read_accepted bytes e in
    let passes = write_passes (frame_of bytes) (length out) room (fields_writable bytes small facts.0 facts.1) in
    (rw passes, rw (passes, fields_bytes bytes small facts.0 facts.1))
