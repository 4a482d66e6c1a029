use Rattle.facet_block.proofs.Ranges.{item_there, changed_with_item, cleared_with_item}
use Rattle.facet_block.proofs.laws.one_item_is_changed.Goals as goal

pub returns : goal.returns
returns g c =
    let b = c.args.block.now in
    let at = c.args.at in
    record { there = λ o. item_there b at o c.requires; changed = changed_with_item b at; cleared = cleared_with_item b at c.requires }
