use Rattle.std.proofs.Common.{◌∙◌, Some, ap}
use Rattle.facet_drop.proofs.HeldValues.{same_block}
use Rattle.facet_values.specs.Place.{place_in}
use Rattle.facet_walk.specs.Look.{place_of}
use Rattle.facet_drop.proofs.inline_parts.inline_part.Goals as goal

pub returns : goal.returns
returns g c =
    let p = place_in c.args.id.0 c.args.block.now c.args.at in
    let found = rw (c.inline_parts.ensures, c.new.ensures.same_block, c.new.ensures.offset) at c.part.ensures in
    found ∙ ap (λ b. Some (place_in c.part.result.shape.0 b c.part.result.at.offset)) (same_block c.args.shapes.now.sealed p c.args.i (place_of c.part.result) found)
