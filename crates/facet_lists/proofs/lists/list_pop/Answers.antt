use Rattle.std.proofs.Common.{true, false}
use Rattle.facet_trees.specs.declared.form.Form.TheVariants as form
use Rattle.facet_contain.proofs.ContainerKinds.{list_is}
use Rattle.facet_contain.proofs.ContainerParts.{holds_sequence}
use Rattle.facet_lists.proofs.ChangedLists.{pop_answer, pop_changed, pop_element, pop_is, pop_last, pop_reads, pop_sizes, pop_vacant}
use Rattle.facet_lists.proofs.lists.list_pop.Goals as goal

pub filled_at-len-requires : goal.filled_at-len-requires
filled_at-len-requires g c = holds_sequence c.requires.readable form.List (list_is c.args.shapes.now.sealed c.args.s.0 c.requires.kind)

pub pop_at-requires-clause-sequence : goal.pop_at-requires-clause-sequence
pop_at-requires-clause-sequence g c = holds_sequence c.requires.readable form.List (list_is c.args.shapes.now.sealed c.args.s.0 c.requires.kind)

pub pop_at-requires-clause-last : goal.pop_at-requires-clause-last
pop_at-requires-clause-last g c = pop_last c.requires.readable c.requires.kind c.filled_at-len.ensures c.has_any.ensures c.if-has_any.true

pub pop_at-requires-clause-sizes : goal.pop_at-requires-clause-sizes
pop_at-requires-clause-sizes g c = pop_sizes c.requires.readable c.requires.kind _

pub pop_at-requires-clause-vacant : goal.pop_at-requires-clause-vacant
pop_at-requires-clause-vacant g c = pop_vacant c.requires.readable c.requires.kind c.requires.vacant

pub returns-then-has_any-clause-answer : goal.returns-then-has_any-clause-answer
returns-then-has_any-clause-answer g c = pop_answer c.requires.readable c.requires.kind c.filled_at-len.ensures c.has_any.ensures true c.if-has_any.true

pub returns-then-has_any-clause-popped : goal.returns-then-has_any-clause-popped
returns-then-has_any-clause-popped g c = λ same. pop_reads c.requires.readable c.requires.kind c.filled_at-len.ensures c.has_any.ensures c.if-has_any.true _ c.pop_at.ensures.popped

pub returns-then-has_any-clause-element : goal.returns-then-has_any-clause-element
returns-then-has_any-clause-element g c = λ same.
    pop_element c.requires.readable c.requires.kind c.filled_at-len.ensures c.has_any.ensures c.if-has_any.true c.requires.vacant _ c.pop_at.ensures.moved c.sealed-sealed.ensures.registry.well_formed c.requires.sealed

pub returns-then-has_any-clause-blocks : goal.returns-then-has_any-clause-blocks
returns-then-has_any-clause-blocks g c = λ same. pop_is c.requires.readable c.requires.kind c.filled_at-len.ensures c.has_any.ensures c.if-has_any.true _ c.pop_at.ensures.popped

pub returns-then-has_any-clause-elsewhere : goal.returns-then-has_any-clause-elsewhere
returns-then-has_any-clause-elsewhere g c = λ same. pop_changed c.requires.readable c.requires.kind c.filled_at-len.ensures c.has_any.ensures c.if-has_any.true c.requires.vacant _ c.pop_at.ensures.moved

pub returns-clause-answer : goal.returns-clause-answer
returns-clause-answer g c = pop_answer c.requires.readable c.requires.kind c.filled_at-len.ensures c.has_any.ensures false c.if-has_any.false
