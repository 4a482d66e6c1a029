use Rattle.facet_trees.specs.declared.form.Form.TheVariants as form
use Rattle.facet_contain.proofs.ContainerKinds.{list_is}
use Rattle.facet_contain.proofs.ContainerParts.{holds_sequence, leads, points}
use Rattle.facet_contain.proofs.lists.list_get.Goals as goal

pub seq-requires : goal.seq-requires
seq-requires g c = holds_sequence c.requires.readable form.List (list_is c.args.shapes.now.sealed c.args.s.0 c.requires.kind)

pub returns-clause-part : goal.returns-clause-part
returns-clause-part g c = points c.requires.readable form.List (list_is c.args.shapes.now.sealed c.args.s.0 c.requires.kind) c.seq.result.now c.seq.ensures c.args.i c.start_in.result c.start_in.ensures

pub returns-clause-readable : goal.returns-clause-readable
returns-clause-readable g c =
    leads c.requires.readable form.List (list_is c.args.shapes.now.sealed c.args.s.0 c.requires.kind) c.seq.result.now c.seq.ensures c.args.i c.start_in.result c.start_in.ensures
    c.sealed-sealed.ensures.registry.well_formed c.requires.sealed
