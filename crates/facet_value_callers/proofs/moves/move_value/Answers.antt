use Rattle.std.proofs.Common.{◌∙◌, sym, ap, subst, arith}
use Rattle.facet_block.specs.Block.{moved_in, moved_out}
use Rattle.facet_block.specs.Span.{IsCleared, IsVacant, span}
use Rattle.facet_registry.specs.Registry.{size_at}
use Rattle.facet_value_callers.proofs.moves.move_value.Goals as goal
use Rattle.facet_values.proofs.LaidOut.{laid_out}
use Rattle.facet_values.proofs.MovedValues.{moved_cleared, moved_reads}
use Rattle.facet_values.proofs.WholePlaces.{lies_in_block}
use Rattle.facet_values.specs.Place.{place_in}
use Rattle.facet_values.specs.Reading.{Reads}

pub move_bytes-requires-clause-source_inside : goal.move_bytes-requires-clause-source_inside
move_bytes-requires-clause-source_inside g c =
    let p = place_in c.args.id.0 c.args.source.now c.args.from in
    omega (arith, lies_in_block g.L.Leaf.model c.args.shapes.now.sealed p c.requires.readable.value c.requires.readable.reads, c.size_of-size.ensures.sealed c.requires.sealed)

pub move_bytes-requires-clause-vacant : goal.move_bytes-requires-clause-vacant
move_bytes-requires-clause-vacant g c = subst (λ n. IsVacant c.args.target.now (span c.args.at n)) (sym (c.size_of-size.ensures.sealed c.requires.sealed)) c.requires.vacant

pub returns-clause-reads : goal.returns-clause-reads
returns-clause-reads g c v reads =
    let m = g.L.Leaf.model in
    let shapes = c.args.shapes.now.sealed in
    let p = place_in c.args.id.0 c.args.source.now c.args.from in
    let is = c.move_bytes.ensures.target ∙ ap (λ n. moved_in c.args.target.now c.args.at c.args.source.now c.args.from n) (c.size_of-size.ensures.sealed c.requires.sealed) in
    subst (λ b. Reads m shapes (place_in c.args.id.0 b c.args.at) v) (sym is)
    (moved_reads m shapes p v reads (laid_out m shapes c.sealed-sealed.ensures.registry.well_formed) c.requires.sealed c.args.target.now c.args.at c.requires.vacant.inside)

pub returns-clause-cleared : goal.returns-clause-cleared
returns-clause-cleared g c =
    let m = g.L.Leaf.model in
    let shapes = c.args.shapes.now.sealed in
    let p = place_in c.args.id.0 c.args.source.now c.args.from in
    let is = c.move_bytes.ensures.source ∙ ap (λ n. moved_out c.args.source.now c.args.from n) (c.size_of-size.ensures.sealed c.requires.sealed) in
    subst (λ b. IsCleared c.args.source.now b (span c.args.from (size_at shapes c.args.id.0))) (sym is)
    (moved_cleared m shapes p c.requires.readable.value c.requires.readable.reads)
