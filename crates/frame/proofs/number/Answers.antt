-- `frame::number`: the bytes behind zeros stand for the same number.
use Rattle.std.proofs.Common.{refl, ◌∙◌}
use Rattle.frame.proofs.NumberLaws.{number_of_last, number_below}
use Rattle.frame.proofs.number.Goals as goal

pub returns : goal.returns
returns c =
    let value = c.from_be_bytes.ensures ∙ number_of_last c.args.bytes.now c.requires _ refl _ c.copy_from_slice.ensures.after in
    record { value = value; below = rw value (number_below c.args.bytes.now c.type_inv.bytes) }
