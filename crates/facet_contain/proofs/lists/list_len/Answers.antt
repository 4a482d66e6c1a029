use Rattle.std.proofs.Common.{◌∙◌}
use Rattle.facet_trees.specs.declared.form.Form.TheVariants as form
use Rattle.facet_contain.proofs.ContainerKinds.{list_is}
use Rattle.facet_contain.proofs.ContainerParts.{counted, holds_sequence}
use Rattle.facet_contain.proofs.lists.list_len.Goals as goal

pub seq-requires : goal.seq-requires
seq-requires g c = holds_sequence c.requires.readable form.List (list_is c.args.shapes.now.sealed c.args.s.0 c.requires.kind)

pub returns : goal.returns
returns g c = λ v reads. c.len.ensures ∙ counted c.requires.readable form.List (list_is c.args.shapes.now.sealed c.args.s.0 c.requires.kind) c.seq.result.now c.seq.ensures v reads
