use Rattle.std.proofs.Common.{Some}
use Rattle.facet_trees.specs.declared.form.Form.TheVariants as form
use Rattle.facet_contain.proofs.ContainerKinds.{box_is}
use Rattle.facet_contain.proofs.ContainerParts.{content_there, holds_sequence, leads, points}
use Rattle.facet_contain.proofs.boxes.borrow.Goals as goal

pub seq-requires : goal.seq-requires
seq-requires g c = holds_sequence c.requires.readable form.Box (box_is c.args.shapes.now.sealed c.args.s.0 g.L.Leaf.model c.sealed-sealed.ensures.registry.well_formed c.requires.kind)

pub unreachable-requires : goal.unreachable-requires
unreachable-requires g c = content_there c.requires.readable (box_is c.args.shapes.now.sealed c.args.s.0 g.L.Leaf.model c.sealed-sealed.ensures.registry.well_formed c.requires.kind) c.seq.result.now c.seq.ensures c.in-None.ensures

pub returns-clause-part : goal.returns-clause-part
returns-clause-part g c = points c.requires.readable form.Box (box_is c.args.shapes.now.sealed c.args.s.0 g.L.Leaf.model c.sealed-sealed.ensures.registry.well_formed c.requires.kind) c.seq.result.now c.seq.ensures 0 (Some c.in-Some.content) c.in-Some.ensures

pub returns-clause-readable : goal.returns-clause-readable
returns-clause-readable g c =
    leads c.requires.readable form.Box (box_is c.args.shapes.now.sealed c.args.s.0 g.L.Leaf.model c.sealed-sealed.ensures.registry.well_formed c.requires.kind) c.seq.result.now c.seq.ensures 0 (Some c.in-Some.content) c.in-Some.ensures
    c.sealed-sealed.ensures.registry.well_formed c.requires.sealed
