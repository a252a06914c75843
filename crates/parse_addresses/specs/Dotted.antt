-- What the loop of src/ has left to read.
use Rattle.std.specs.Prelude.{ℕ, List, ◌++◌, eqb, length, Option}
use Rattle.basis.specs.Bytes.{number_of}
use Rattle.basis.specs.declared.Ipv4Address.{Ipv4Address}
use Rattle.basis_lines.specs.Fields.{only, ◌then◌}
use Rattle.basis_lines.specs.Numbers.{number, each}

-- The address that bytes complete after those that are read; and the same of their texts.
abbrev pub completed : List ℕ → List ℕ → Option Ipv4Address
completed octets more = only (eqb (length (octets ++ more)) 4) (record { 0 = number_of (octets ++ more) })

unfoldable pub address_after : List ℕ → List (List ℕ) → Option Ipv4Address
address_after octets texts = each (number 255) texts then completed octets
