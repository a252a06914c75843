-- `parse_addresses::address`: an octet more, or the last.
use mathlib.Core.Path.{◌∙◌}
use native.Mathlib.Omega.{arith}
use Rattle.std.proofs.Common.{length-take}
use Rattle.std.proofs.lemmas.List.{take_more_set}
use Rattle.parse_addresses.proofs.Dotted.{part_fits, part_last, part_number, number_fits, last_number, last_behind}
use Rattle.parse_addresses.proofs.address.Goals as goal

pub returns-in_err-rest : goal.returns-in_err-rest
returns-in_err-rest c =
    c.from_residual-in_err-rest.ensures
    ∙ part_last _ _ _ c.loop-octet.invariant _ c.first_number.ensures.number _ c.in_ok-value.was c.in_ok-value.ensures.ends
    c.in_err-rest.ensures (omega (arith, length-take c.loop-octet.octet-index c.loop-octet.octet-items))

pub overflow_cast-octet : goal.overflow_cast-octet
overflow_cast-octet c = part_fits _ _ _ c.loop-octet.invariant _ c.first_number.ensures.number _ c.in_ok-value.was

pub loop-octet-preserved : goal.loop-octet-preserved
loop-octet-preserved c =
    part_number _ _ _ c.loop-octet.invariant _ c.first_number.ensures.number _ c.in_ok-value.was c.in_ok-value.ensures.ends
    c.in_ok-rest.ensures.0 _ c.in_ok-rest.ensures.1 _
    (take_more_set c.loop-octet.octet-items c.loop-octet.octet-index c.in_ok-value.field-0.value (omega arith))

pub overflow_cast-octets : goal.overflow_cast-octets
overflow_cast-octets c = number_fits _ _ c.number.ensures _ c.in_ok-octets.was

pub returns : goal.returns
returns c =
    let octets = c.loop-octet.octet-items in
    let index = c.loop-octet.octet-index in
    last_number _ _ _ c.loop-octet.invariant (omega (arith, length-take index octets)) _ c.number.ensures _ c.in_ok-octets.was _
    (c.from_be_bytes.ensures ∙ last_behind octets (omega arith) index (omega arith) c.in_ok-octets.field-0)
