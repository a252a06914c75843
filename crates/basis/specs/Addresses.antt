-- Which numbers stand for an address.
use Rattle.std.specs.Prelude.{◌^◌, Bool, ltb}
use Rattle.basis.specs.declared.HardwareAddress.{HardwareAddress}

-- Whether a number is a hardware address, which has 48 bits (reading hardware-48-bits).
abbrev pub is_hardware : HardwareAddress → Bool
is_hardware address = ltb address.0 (2 ^ 48)
