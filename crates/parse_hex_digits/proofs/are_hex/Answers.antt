-- `parse_hex_digits::are_hex`: what the fold makes of the runs of 32, and the last run.
use Rattle.std.proofs.Common.{◌&&◌, ◌/◌, length, Bool, true, List, ℕ, rules, tests}
use Rattle.std.proofs.lemmas.Iterator.{YieldsList-from_slice}
use Rattle.std.proofs.lemmas.Iterator.Consumers.{fold_from_yields_List}
use Rattle.std.specs.Simd.{first_chunks}
use Rattle.parse_hex_digits.specs.HexText.{are_hex}
use Rattle.parse_hex_digits.proofs.HexDigitsLaws.{runs_whole}
use Rattle.parse_hex_digits.proofs.are_hex.Goals as goal

pub returns-in-Some : goal.returns-in-Some
returns-in-Some c =
    runs_whole c.args.text.now _ _ (search rules)
    (fold_from_yields_List _ (λ (all : Bool) (run : List ℕ). all && are_hex run) true _ c.fold.ensures.ran
    (YieldsList-from_slice (first_chunks 32 (length c.args.text.now / 32) c.args.text.now) (cc))
    (λ all run next f called. search (rules, tests)))
    (search rules)
