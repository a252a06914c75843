-- What the inner functions of src/ promise one another. What the crate promises its users stands in the crate basis.
use Rattle.basis.specs.declared.Ipv4Address.{Ipv4Address}
use Rattle.basis.specs.declared.HardwareAddress.{HardwareAddress}
use Rattle.basis.specs.declared.Frame.{Frame}

-- What a probe and an announcement share: they differ in the sender IP.
abbrev pub request_of : HardwareAddress → Ipv4Address → Ipv4Address → Frame
request_of hardware ip address =
    record {
      operation = 1;
      sender = record { hardware = hardware; ip = ip };
      target = record { hardware = record { 0 = 0 }; ip = address };
    }
