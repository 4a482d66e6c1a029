use Rattle.std.proofs.Common.{◌≡◌, ◌≤◌, take}
use Rattle.std.specs.BTreeSet.{contains}
use Rattle.std.specs.List.{count_by, list_any}
use Rattle.std.specs.Ordering.{int_cmp, int_eq}
use Rattle.std.specs.Prelude.{ℤ}
use Rattle.facet_graph.proofs.repeats.has_repeat.Given as goal

abbrev pub invariant-loop-value : goal.invariant-loop-value
invariant-loop-value l = record {
  seen : (q : ℤ) → contains int_cmp l.seen q ≡ list_any (λ v. int_eq v q) (take l.value-index l.values);
  once : (q : ℤ) → count_by (λ v. int_eq v q) (take l.value-index l.values) ≤ 1;
}
