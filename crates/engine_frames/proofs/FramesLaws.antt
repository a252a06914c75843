-- A sound state's requests can be written.
use Prim.Native.Nat.{ℕ, ◌≤◌}
use mathlib.Core.Path.{◌≡◌}
use mathlib.Core.List.{List}
use mathlib.Core.Bool.{true}
use lib.ListN.{length}
use borrow.Author.Tests.{le-ltb}
use Rattle.basis.specs.Frame.{probe, announcement, is_writable, write_refusal, frame_put, write_out, frame_length}
use Rattle.basis.specs.declared.Ipv4Address.{Ipv4Address}
use Rattle.basis.specs.declared.Interface.{Interface}
use Rattle.basis_engine.specs.Interface.{is_sound, sender_of}
use Rattle.basis_engine.proofs.Acceptance.{sound, sender_hardware}
use Rattle.engine_frames.specs.OurFrames.{request_of}

-- A sound state's sender has 48 bits, so its requests are put into an out buffer that has room for a frame.
module _ (s : Interface) (sound_before : is_sound s ≡ true) (address : Ipv4Address) (out : List ℕ) (room : frame_length ≤ length out) where
  put : (ip : Ipv4Address) →
      write_out (request_of (sender_of s.setup) ip address) out ≡ frame_put (request_of (sender_of s.setup) ip address) out
  unfolding write_out write_refusal is_writable
  put ip = rw (le-ltb (length out) frame_length room, sender_hardware s.setup (sound s sound_before).chosen)

  pub probe_put : write_out (probe (sender_of s.setup) address) out ≡ frame_put (probe (sender_of s.setup) address) out
  unfolding probe
  probe_put = put (record { 0 = 0 })

  pub announcement_put :
      write_out (announcement (sender_of s.setup) address) out ≡ frame_put (announcement (sender_of s.setup) address) out
  unfolding announcement
  announcement_put = put address
