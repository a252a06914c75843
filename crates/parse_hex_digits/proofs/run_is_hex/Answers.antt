-- `parse_hex_digits::run_is_hex`: what the fold makes of the digits.
use Rattle.std.proofs.Common.{◌&&◌, ℕ, Bool, true, rules, tests, ◌∙◌}
use Rattle.std.proofs.lemmas.Iterator.{YieldsList-from_slice}
use Rattle.std.proofs.lemmas.Iterator.Consumers.{fold_from_yields_List}
use Rattle.parse_hex_digits.specs.HexText.{is_hex}
use Rattle.parse_hex_digits.proofs.HexDigitsLaws.{fold_hex}
use Rattle.parse_hex_digits.proofs.run_is_hex.Goals as goal

pub returns : goal.returns
returns c =
    fold_from_yields_List _ (λ (all : Bool) (b : ℕ). all && is_hex b) true _ c.fold.ensures.ran
    (YieldsList-from_slice c.args.run.now (cc))
    (λ all b next f called. search (rules, tests))
    ∙ fold_hex true c.args.run.now
