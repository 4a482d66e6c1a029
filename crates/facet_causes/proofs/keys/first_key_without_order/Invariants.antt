use Rattle.std.proofs.Common.{◌≡◌, ℕ, ◌<◌, length, vec_len}
use Rattle.facet_causes.specs.Causes.{Meets}
use Rattle.facet_causes.specs.Reading.{lacks_order, parts_at}
use Rattle.facet_causes.specs.declared.cause.SealCause.TheVariants as cause
use Rattle.facet_graph.specs.Marks.{AreClean}
use Rattle.facet_causes.proofs.keys.first_key_without_order.Given as goal

abbrev pub invariant-loop-s : goal.invariant-loop-s
invariant-loop-s g l = record {
  len : vec_len l.ordered ≡ length l.shapes;
  clean : AreClean (parts_at l.shapes) (lacks_order l.shapes) l.ordered.items;
  none : (t : ℕ) → t < l.s → ¬ Meets g.L.Leaf.model l.shapes cause.KeyNotOrd t;
}
