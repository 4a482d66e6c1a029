use Rattle.std.proofs.Common.{refl}
use Rattle.facet_session.proofs.PutLemmas.{leaf_carried}
use Rattle.facet_session.proofs.commands.put.add_leaf.Goals as goal

pub returns-clause-turn : goal.returns-clause-turn
returns-clause-turn g c =
    leaf_carried g.L.Leaf.model c.args.session.now _ _ (record { name = c.args.name; shape = c.args.shape; block = c.in_ok-block.block }) c.args.leaf
    c.requires.sealed c.requires.kind c.requires.room c.in_ok-block.ensures refl c.in_ok-push.ensures.ok c.requires.empty c.in_ok-text.ensures refl refl
