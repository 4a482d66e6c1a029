use Rattle.std.proofs.Common.{◌∙◌, ap, codes, length, length-append, arith, refl}
use Rattle.facet_session.specs.Cell.{stored_in}
use Rattle.facet_session.specs.Turn.{listed}
use Rattle.facet_session.proofs.ListedLeaves.{fewer_listed}
use Rattle.facet_session.proofs.MadeLemmas.{made_carried}
use Rattle.facet_session.proofs.making.add_made.Goals as goal

pub returns-clause-turn : goal.returns-clause-turn
returns-clause-turn g c state v shown reads =
    let m = g.L.Leaf.model in
    let stored = stored_in c.args.session.now.shapes.sealed c.args.cell in
    let fewer = fewer_listed m (codes " made [") stored in
    let bytes = ap length c.in_ok-text.ensures ∙ length-append (codes "ok") (listed m (codes " made [") stored) in
    made_carried m c.args.session.now _ _ c.args.cell v c.requires.held c.requires.size reads refl c.in_ok-push.ensures.ok c.requires.empty c.in_ok-text.ensures
    (omega (arith, fewer, bytes, c.byte_count-bytes.ensures, c.byte_count-bytes.type_inv, c.leaf_count_of-made.ensures)) refl state shown
