use Rattle.std.proofs.Common.{◌≡◌, ◌∙◌, ap, arith, length, refl}
use Rattle.facet_leaf.specs.LeafModel.{LeafModel}
use Rattle.facet_registry.specs.Prelude.{prelude}
use Rattle.facet_registry.specs.Registry.{all_shapes}
use Rattle.facet_script.proofs.AnsweredLines.{nothing_answered, line_cut_off, line_answered}
use Rattle.facet_script.proofs.ServedRuns.{cut_short, out_of_memory}
use Rattle.facet_script.proofs.serving.serve_lines.Goals as goal

prelude_has_sixteen : {L : Type 0} (m : LeafModel L) → length (all_shapes (prelude m)) ≡ 16
unfolding prelude
prelude_has_sixteen m = refl

pub loop-rest-init : goal.loop-rest-init
loop-rest-init g c = record {
  progress = nothing_answered g.L.Leaf.model c.args.script.now _ c.args.session.now c.requires.new;
  few = omega arith;
  room = let sixteen = ap (λ r. length (all_shapes r)) c.requires.new.registry ∙ prelude_has_sixteen g.L.Leaf.model in omega (arith, sixteen);
  kept = refl;
}

pub step-requires : goal.step-requires
step-requires g c = omega (arith, c.loop-rest.invariant.room, c.requires.short)

pub returns-in-Err-clause-served : goal.returns-in-Err-clause-served
returns-in-Err-clause-served g c =
    let m = g.L.Leaf.model in
    let progress = line_cut_off m c.args.script.now c.loop-rest.lines c.loop-rest.rest.now _ _ _ _ _ (grind arith) c.cut_line.ensures.line c.cut_line.ensures.rest c.loop-rest.invariant.progress in
    rw c.out_of_memory.ensures (out_of_memory m c.args.script.now c.loop-rest.lines _ _ _ _ _ c.step.new.session progress c.in-Err.ensures.err c.in-Err.ensures.cleared)

pub loop-rest-preserved : goal.loop-rest-preserved
loop-rest-preserved g c =
    let m = g.L.Leaf.model in
    let progress = line_cut_off m c.args.script.now c.loop-rest.lines c.loop-rest.rest.now _ _ _ _ _ (grind arith) c.cut_line.ensures.line c.cut_line.ensures.rest c.loop-rest.invariant.progress in
    record {
      progress = line_answered m c.args.script.now c.loop-rest.lines _ _ _ _ _ _ c.step.new.session _ progress (c.in-Ok.ensures.turn _ progress.cells) c.in-Ok-write_line.ensures.bytes;
      few = omega (arith, c.cut_line.ensures.shorter (grind arith));
      room = omega (arith, c.cut_line.ensures.shorter (grind arith), c.in-Ok.ensures.few, c.loop-rest.invariant.room);
      kept = c.in-Ok-write_line.ensures.kept ∙ c.loop-rest.invariant.kept;
    }

pub returns-in-Err-write_line-clause-served : goal.returns-in-Err-write_line-clause-served
returns-in-Err-write_line-clause-served g c =
    let m = g.L.Leaf.model in
    let progress = line_cut_off m c.args.script.now c.loop-rest.lines c.loop-rest.rest.now _ _ _ _ _ (grind arith) c.cut_line.ensures.line c.cut_line.ensures.rest c.loop-rest.invariant.progress in
    rw c.unwritten.ensures
    (cut_short m c.args.script.now c.loop-rest.lines _ _ _ _ _ _ c.step.new.session _ c.in-Err-write_line.error progress (c.in-Ok.ensures.turn _ progress.cells) c.in-Err-write_line.ensures.bytes)
