use Rattle.facet_trees.specs.declared.form.Form.TheVariants as form
use Rattle.facet_contain.proofs.ContainerKinds.{list_is}
use Rattle.facet_contain.proofs.ContainerParts.{holds_sequence}
use Rattle.std.proofs.Common.{true, false}
use Rattle.facet_lists.proofs.ChangedLists.{swap_answer, swap_made}
use Rattle.facet_lists.proofs.lists.list_swap.Goals as goal

pub filled_at-len-requires : goal.filled_at-len-requires
filled_at-len-requires g c = holds_sequence c.requires.readable form.List (list_is c.args.shapes.now.sealed c.args.s.0 c.requires.kind)

pub swap_at-requires-clause-sequence : goal.swap_at-requires-clause-sequence
swap_at-requires-clause-sequence g c = holds_sequence c.requires.readable form.List (list_is c.args.shapes.now.sealed c.args.s.0 c.requires.kind)

pub returns-then-are_below-clause-answer : goal.returns-then-are_below-clause-answer
returns-then-are_below-clause-answer g c = swap_answer c.requires.readable c.requires.kind c.filled_at-len.ensures c.are_below.ensures true c.if-are_below.true

pub returns-then-are_below-clause-exchanged : goal.returns-then-are_below-clause-exchanged
returns-then-are_below-clause-exchanged g c = λ yes. swap_made c.requires.readable c.requires.kind c.filled_at-len.ensures c.are_below.ensures c.if-are_below.true _ c.swap_at.ensures

pub returns-clause-answer : goal.returns-clause-answer
returns-clause-answer g c = swap_answer c.requires.readable c.requires.kind c.filled_at-len.ensures c.are_below.ensures false c.if-are_below.false
