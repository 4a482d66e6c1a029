use Rattle.facet_trees.specs.declared.form.Form.TheVariants as form
use Rattle.facet_contain.proofs.ContainerKinds.{list_is}
use Rattle.facet_contain.proofs.ContainerParts.{holds_sequence}
use Rattle.facet_contain.proofs.lists.list_capacity.Goals as goal

pub seq-blocks-requires : goal.seq-blocks-requires
seq-blocks-requires g c = holds_sequence c.requires.readable form.List (list_is c.args.shapes.now.sealed c.args.s.0 c.requires.kind)
