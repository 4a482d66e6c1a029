use Rattle.std.proofs.Common.{◌+◌, ◌≤◌, ◌++◌, length, sym, ap, ◌∙◌, subst}
use Rattle.facet_trees.specs.Value.{leaves}
use Rattle.facet_walk.proofs.ReadableParts.{value_there}
use Rattle.facet_drop.proofs.dropping.call_drop_in_place.Goals as goal

pub drop_at-requires-clause-room : goal.drop_at-requires-clause-room
drop_at-requires-clause-room g c =
    let r = c.requires.readable in
    subst (λ v. length (leaves v) ≤ c.args.log.now.spare) (sym (value_there g.L.Leaf.model c.args.shapes.now.sealed r r.value r.reads)) (c.requires.room r.value r.reads)

pub returns-clause-leaves : goal.returns-clause-leaves
returns-clause-leaves g c = λ v reads.
    c.drop_at.ensures.log.leaves ∙ ap (λ w. c.args.log.now.leaves ++ leaves w) (value_there g.L.Leaf.model c.args.shapes.now.sealed c.requires.readable v reads)

pub returns-clause-spare : goal.returns-clause-spare
returns-clause-spare g c = λ v reads.
    subst (λ w. c.args.log.now.spare ≤ c.drop_at.new.log.spare + length (leaves w)) (value_there g.L.Leaf.model c.args.shapes.now.sealed c.requires.readable v reads) c.drop_at.ensures.log.spare
