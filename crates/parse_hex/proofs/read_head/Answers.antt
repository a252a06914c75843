-- `parse_hex::read_head`: a short text, or 16 bytes twice.
use borrow.Author.Rules.{rules}
use Rattle.parse_hex.proofs.HexLaws.{shorter}
use Rattle.parse_hex.proofs.read_head.Goals as goal

pub read_sixteen-requires-else-text-lt-FRAME_DIGITS-clause-head_value : goal.read_sixteen-requires-else-text-lt-FRAME_DIGITS-clause-head_value
read_sixteen-requires-else-text-lt-FRAME_DIGITS-clause-head_value c = search (shorter, rules)
