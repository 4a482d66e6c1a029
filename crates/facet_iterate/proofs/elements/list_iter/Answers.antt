use Rattle.facet_trees.specs.declared.form.Form.TheVariants as form
use Rattle.facet_contain.proofs.ContainerKinds.{list_is}
use Rattle.facet_contain.proofs.ContainerParts.{holds_sequence}
use Rattle.facet_iterate.proofs.ReadStarts.{elements_lead, elements_read}
use Rattle.facet_iterate.proofs.elements.list_iter.Goals as goal

pub seq-requires : goal.seq-requires
seq-requires g c = holds_sequence c.requires.readable form.List (list_is c.args.shapes.now.sealed c.args.s.0 c.requires.kind)

pub returns-clause-elements : goal.returns-clause-elements
returns-clause-elements g c =
    elements_read c.requires.readable c.seq.result.now c.seq.ensures form.List (list_is c.args.shapes.now.sealed c.args.s.0 c.requires.kind) c.elements_of.result c.elements_of.ensures

pub returns-clause-readable : goal.returns-clause-readable
returns-clause-readable g c =
    elements_lead c.requires.readable c.seq.result.now c.seq.ensures form.List (list_is c.args.shapes.now.sealed c.args.s.0 c.requires.kind) c.elements_of.result c.elements_of.ensures
    c.sealed-sealed.ensures.registry.well_formed c.requires.sealed
