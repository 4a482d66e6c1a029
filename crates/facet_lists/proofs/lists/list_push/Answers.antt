use Rattle.facet_trees.specs.declared.form.Form.TheVariants as form
use Rattle.facet_contain.proofs.ContainerKinds.{list_is}
use Rattle.facet_contain.proofs.ContainerParts.{holds_sequence}
use Rattle.facet_lists.proofs.ChangedLists.{push_cleared, push_made, push_refused, source_inside, spare_empty}
use Rattle.facet_lists.proofs.lists.list_push.Goals as goal

pub push_at-requires-clause-sequence : goal.push_at-requires-clause-sequence
push_at-requires-clause-sequence g c = holds_sequence c.requires.readable form.List (list_is c.args.shapes.now.sealed c.args.s.0 c.requires.kind)

pub push_at-requires-clause-empty : goal.push_at-requires-clause-empty
push_at-requires-clause-empty g c = spare_empty c.requires.readable c.requires.kind

pub push_at-requires-clause-inside : goal.push_at-requires-clause-inside
push_at-requires-clause-inside g c = source_inside c.requires.readable c.requires.kind c.requires.element

pub returns-clause-made : goal.returns-clause-made
returns-clause-made g c = push_made c.requires.readable c.requires.kind c.requires.element c.push_at.result _ c.sealed-sealed.ensures.registry.well_formed c.requires.sealed c.push_at.ensures.pushed

pub returns-clause-moved : goal.returns-clause-moved
returns-clause-moved g c = push_cleared c.requires.readable c.requires.kind c.requires.element c.push_at.result _ c.push_at.ensures.moved

pub returns-clause-unchanged : goal.returns-clause-unchanged
returns-clause-unchanged g c = push_refused c.requires.readable c.requires.kind c.push_at.result _ c.push_at.ensures.same
