-- `parse_addresses::address`: the octets before the index are read, and `rest` is what is left.
use mathlib.Core.Path.{◌≡◌}
use lib.ListN.{take}
use Rattle.basis_lines.specs.Fields.{dot, parts}
use Rattle.basis_lines.specs.Numbers.{address}
use Rattle.parse_addresses.specs.Dotted.{address_after}
use Rattle.parse_addresses.proofs.address.Given as goal

abbrev pub invariant-loop-octet : goal.invariant-loop-octet
invariant-loop-octet l = address l.text ≡ address_after (take l.octet-index l.octet-items) (parts dot l.rest)
