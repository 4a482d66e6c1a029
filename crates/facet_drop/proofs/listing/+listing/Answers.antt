use Rattle.std.proofs.Common.{sym, ap, ◌∙◌, subst, arith}
use Rattle.std.specs.Str.{IsUtf8}
use Rattle.std.proofs.lemmas.Result.{err_from_is_err_and, on_ok_weaker}
use Rattle.facet_base.specs.Write.{HoldsText}
use Rattle.facet_drop.proofs.LeavesTexts.{none_written, one_text, place_begun, place_written}
use Rattle.facet_drop.specs.LeavesText.{leaves_text}
use Rattle.facet_trees.specs.Value.{leaves}
use Rattle.facet_walk.proofs.ReadableParts.{levels_positive, parts_seen, value_of_seen}
use Rattle.facet_walk.specs.Look.{place_of, places_of}
use Rattle.facet_drop.proofs.listing.+listing.Goals as goal

pub write_leaves_at-write_leaves_in-requires : goal.write_leaves_at-write_leaves_in-requires
write_leaves_at-write_leaves_in-requires g t c κs within =
    let seen = rw c.in-Some-Node.field-0-is at c.in-Some-Node.ensures in (
      omega (arith, c.decreases, levels_positive c.requires.readable),
      (within.0, (within.1, (c.requires.well_formed, parts_seen c.requires.readable c.requires.well_formed c.requires.sealed seen))),
    )

pub write_leaves_at-returns-in-Some-Leaf-clause-written : goal.write_leaves_at-returns-in-Some-Leaf-clause-written
write_leaves_at-returns-in-Some-Leaf-clause-written g t c =
    let m = g.L.Leaf.model in
    let seen = rw c.in-Some-Leaf.field-0-is at c.in-Some-Leaf.ensures in
    let text = ap (λ v. leaves_text m (leaves v)) (value_of_seen c.requires.readable seen) ∙ one_text m c.in-Some-Leaf.leaf.now in
    subst (λ xs. HoldsText (g.W.Write.contents c.args.out.now) (g.W.Write.contents c.write_leaf.new.out) xs c.write_leaf.result) (sym text) c.write_leaf.ensures.written

pub write_leaves_at-returns-in-Some-Leaf-clause-utf8 : goal.write_leaves_at-returns-in-Some-Leaf-clause-utf8
write_leaves_at-returns-in-Some-Leaf-clause-utf8 g t c =
    let m = g.L.Leaf.model in
    let seen = rw c.in-Some-Leaf.field-0-is at c.in-Some-Leaf.ensures in
    let text = ap (λ v. leaves_text m (leaves v)) (value_of_seen c.requires.readable seen) ∙ one_text m c.in-Some-Leaf.leaf.now in
    on_ok_weaker c.write_leaf.result (subst IsUtf8 (sym text)) c.write_leaf.ensures.utf8

pub write_leaves_at-returns-in-Some-Node-clause-written : goal.write_leaves_at-returns-in-Some-Node-clause-written
write_leaves_at-returns-in-Some-Node-clause-written g t c =
    let m = g.L.Leaf.model in
    let seen = rw c.in-Some-Node.field-0-is at c.in-Some-Node.ensures in
    let text = ap (λ v. leaves_text m (leaves v)) (value_of_seen c.requires.readable seen) in
    subst (λ xs. HoldsText (g.W.Write.contents c.args.out.now) (g.W.Write.contents c.write_leaves_in.new.out) xs c.write_leaves_in.result) (sym text) c.write_leaves_in.ensures.written

pub write_leaves_at-returns-in-Some-Node-clause-utf8 : goal.write_leaves_at-returns-in-Some-Node-clause-utf8
write_leaves_at-returns-in-Some-Node-clause-utf8 g t c =
    let m = g.L.Leaf.model in
    let seen = rw c.in-Some-Node.field-0-is at c.in-Some-Node.ensures in
    let text = ap (λ v. leaves_text m (leaves v)) (value_of_seen c.requires.readable seen) in
    on_ok_weaker c.write_leaves_in.result (subst IsUtf8 (sym text)) c.write_leaves_in.ensures.utf8

pub write_leaves_in-loop-i-init : goal.write_leaves_in-loop-i-init
write_leaves_in-loop-i-init g t c = none_written g.L.Leaf.model c.args.shapes.now.sealed c.args.levels (places_of c.args.parts) (g.W.Write.contents c.args.out.now)

pub write_leaves_in-loop-i-preserved : goal.write_leaves_in-loop-i-preserved
write_leaves_in-loop-i-preserved g t c =
    let before = g.W.Write.contents c.args.out.now in
    let now = g.W.Write.contents c.loop-i.out in
    let after = g.W.Write.contents c.write_leaves_at.new.out in
    place_written g.L.Leaf.model c.args.shapes.now.sealed c.args.levels (places_of c.args.parts) before now c.loop-i.i (place_of c.part.result) c.part.ensures c.loop-i.invariant after
    c.in_ok-write_leaves_at.ensures.written c.in_ok-write_leaves_at.ensures.utf8

pub write_leaves_in-returns-in_err-write_leaves_at-clause-written : goal.write_leaves_in-returns-in_err-write_leaves_at-clause-written
write_leaves_in-returns-in_err-write_leaves_at-clause-written g t c =
    let before = g.W.Write.contents c.args.out.now in
    let now = g.W.Write.contents c.loop-i.out in
    let after = g.W.Write.contents c.write_leaves_at.new.out in
    let begun = place_begun g.L.Leaf.model c.args.shapes.now.sealed c.args.levels (places_of c.args.parts) before now c.loop-i.i (place_of c.part.result) c.part.ensures c.loop-i.invariant after
    c.in_err-write_leaves_at.ensures.written in
    let stopped = err_from_is_err_and c.from_residual.result c.from_residual.ensures.1 in
    rw stopped.1 begun
