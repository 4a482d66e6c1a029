use Rattle.facet_trees.specs.declared.form.Form.TheVariants as form
use Rattle.facet_contain.proofs.ContainerKinds.{list_is}
use Rattle.facet_contain.proofs.ContainerParts.{holds_sequence}
use Rattle.facet_lists.proofs.ChangedLists.{reserve_reads}
use Rattle.facet_lists.proofs.lists.list_reserve.Goals as goal

pub reserve_at-requires : goal.reserve_at-requires
reserve_at-requires g c = holds_sequence c.requires.readable form.List (list_is c.args.shapes.now.sealed c.args.s.0 c.requires.kind)

pub returns-clause-held : goal.returns-clause-held
returns-clause-held g c = reserve_reads c.requires.readable c.requires.kind _ _ _ c.reserve_at.ensures.ok c.reserve_at.ensures.err
