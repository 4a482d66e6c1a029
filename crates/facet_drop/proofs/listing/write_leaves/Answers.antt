use Rattle.std.proofs.Common.{subst}
use Rattle.std.specs.Str.{IsUtf8}
use Rattle.std.proofs.lemmas.Result.{on_ok_weaker}
use Rattle.facet_base.specs.Write.{HoldsText}
use Rattle.facet_drop.specs.LeavesText.{leaves_text}
use Rattle.facet_trees.specs.Value.{leaves}
use Rattle.facet_walk.proofs.ReadableParts.{value_there}
use Rattle.facet_drop.proofs.listing.write_leaves.Goals as goal

pub returns-clause-written : goal.returns-clause-written
returns-clause-written g c = λ v reads.
    subst (λ w. HoldsText (g.W.Write.contents c.args.out.now) (g.W.Write.contents c.write_leaves_at.new.out) (leaves_text g.L.Leaf.model (leaves w)) c.write_leaves_at.result)
    (value_there g.L.Leaf.model c.args.shapes.now.sealed c.requires.readable v reads) c.write_leaves_at.ensures.written

pub returns-clause-utf8 : goal.returns-clause-utf8
returns-clause-utf8 g c =
    on_ok_weaker c.write_leaves_at.result
    (λ utf8 v reads. subst (λ w. IsUtf8 (leaves_text g.L.Leaf.model (leaves w))) (value_there g.L.Leaf.model c.args.shapes.now.sealed c.requires.readable v reads) utf8)
    c.write_leaves_at.ensures.utf8
