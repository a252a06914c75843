-- Document 01, "The frame", and the calls Read and Write.
use Rattle.std.specs.Prelude.{ℕ, List, [], ◌∷◌, ◌++◌, Bool, not, ◌&&◌, ◌||◌, length, take, drop, eqb, ltb, Option, None, Result}
use Rattle.basis.specs.Addresses.{is_hardware}
use Rattle.basis.specs.Bytes.{bytes_of, number_at, same_bytes}
use Rattle.basis.specs.Answers.{◌if◌else◌, Report, report_of, reported, leaves}
use Rattle.basis.specs.declared.Ipv4Address.{Ipv4Address}
use Rattle.basis.specs.declared.HardwareAddress.{HardwareAddress}
use Rattle.basis.specs.declared.Frame.{Frame}
use Rattle.basis.specs.declared.Refusal.{Refusal}

-- "28 bytes".
abbrev pub frame_length : ℕ
frame_length = 28

-- "28 bytes, most significant first: hardware type 1, protocol 0x0800, lengths 6 and 4, operation, sender hardware (6),
-- sender IP (4), target hardware (6), target IP (4)."
unfoldable pub frame_bytes : Frame → List ℕ
frame_bytes f =
    bytes_of 2 1
    ++ bytes_of 2 0x0800
    ++ bytes_of 1 6
    ++ bytes_of 1 4
    ++ bytes_of 2 f.operation
    ++ bytes_of 6 f.sender.hardware.0
    ++ bytes_of 4 f.sender.ip.0
    ++ bytes_of 6 f.target.hardware.0
    ++ bytes_of 4 f.target.ip.0

-- "A request of ours always begins with the eight bytes 00 01 08 00 06 04 00 01" (`request_header_lem` in proofs/FrameLaws.antt).
abbrev pub request_header : List ℕ
request_header = 0 ∷ 1 ∷ 8 ∷ 0 ∷ 6 ∷ 4 ∷ 0 ∷ 1 ∷ []

-- "Probe: operation 1, our hardware, sender IP zero, target hardware zero, target IP the address."
unfoldable pub probe : HardwareAddress → Ipv4Address → Frame
probe sender address =
    record {
      operation = 1;
      sender = record { hardware = sender; ip = record { 0 = 0 } };
      target = record { hardware = record { 0 = 0 }; ip = address };
    }

-- "Announcement: the same with sender IP the address. A defence is the same bytes."
unfoldable pub announcement : HardwareAddress → Ipv4Address → Frame
announcement sender address =
    record {
      operation = 1;
      sender = record { hardware = sender; ip = address };
      target = record { hardware = record { 0 = 0 }; ip = address };
    }

-- "The reader takes operation 1 or 2."
abbrev pub is_known_operation : ℕ → Bool
is_known_operation operation = eqb operation 1 || eqb operation 2

-- Read: "operation and the four addresses", of the first 28 bytes.
unfoldable pub frame_of : List ℕ → Frame
frame_of bytes =
    record {
      operation = number_at 6 2 bytes;
      sender = record { hardware = record { 0 = number_at 8 6 bytes }; ip = record { 0 = number_at 14 4 bytes } };
      target = record { hardware = record { 0 = number_at 18 6 bytes }; ip = record { 0 = number_at 24 4 bytes } };
    }

-- Whether the first six bytes are ours and the operation is 1 or 2.
unfoldable pub is_known_frame : List ℕ → Bool
is_known_frame bytes = same_bytes (take 6 bytes) (take 6 request_header) && is_known_operation (number_at 6 2 bytes)

-- The refusal of a read: 6, "packet under 28 bytes"; 7, "first six bytes other than ours, or operation not 1 or 2".
unfoldable pub read_refusal : List ℕ → Option ℕ
read_refusal bytes = 6 if ltb (length bytes) frame_length else 7 if not (is_known_frame bytes) else None

-- Read, for any bytes (reading any-addresses).
unfoldable pub read_of : List ℕ → Report Frame
read_of bytes = reported (read_refusal bytes) (frame_of bytes)

-- Whether a frame can be written: operation 1 or 2, and two hardware addresses of 48 bits
-- (readings any-addresses, hardware-48-bits).
unfoldable pub is_writable : Frame → Bool
is_writable f = is_known_operation f.operation && is_hardware f.sender.hardware && is_hardware f.target.hardware

-- The refusal of a write: 5, "out buffer under 28 bytes"; 7, "operation not 1 or 2". Document 01 is silent on a number that
-- is no hardware address: it is 7 too (readings room-by-length, hardware-48-bits).
unfoldable pub write_refusal : Frame → ℕ → Option ℕ
write_refusal f room = 5 if ltb room frame_length else 7 if not (is_writable f) else None

-- "The 28 bytes at the start of the out buffer, the rest untouched."
unfoldable pub frame_put : Frame → List ℕ → List ℕ
frame_put f out = frame_bytes f ++ drop frame_length out

-- Write, for any frame and any out buffer: what it reports, by the buffer's length, and the buffer afterwards.
unfoldable pub write_of : Frame → ℕ → Report (Unit {0})
write_of f room = reported (write_refusal f room) tt

unfoldable pub write_out : Frame → List ℕ → List ℕ
write_out f out = leaves (write_refusal f (length out)) out (frame_put f out)

-- The answers in document 01's numbers and values.
abbrev pub read_report : Result Frame Refusal → Report Frame
read_report answer = report_of (λ frame. frame) answer

abbrev pub write_report : Result (Unit {0}) Refusal → Report (Unit {0})
write_report answer = report_of (λ done. done) answer
