-- `engine_slots::lowest_slot`: the first record of which the test holds.
use Rattle.std.proofs.Common.{◌≡◌, ◌∙◌, sym, rules}
use Rattle.std.proofs.lemmas.Iterator.{YieldsList-from_slice}
use Rattle.std.proofs.lemmas.Iterator.Adapters.{position_from-zero}
use Rattle.std.proofs.lemmas.Iterator.Search.{position_from_yields_List}
use Rattle.engine_slots.proofs.Scans.{lowest_in_list}
use Rattle.engine_slots.proofs.lowest_slot.Goals as goal

pub returns : goal.returns
returns g c p h =
    let same : c.map.result ≡ c.position.result = search rules in
    same
    ∙ position_from_yields_List p _ _ _ c.position.ensures.ran (YieldsList-from_slice _ cc) (λ x b q k. (search rules, h _ _ (search rules)))
    ∙ position_from-zero p _
    ∙ sym (lowest_in_list p 0 _)
