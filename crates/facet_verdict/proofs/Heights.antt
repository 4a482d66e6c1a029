-- Whether a node is high, and whether it costs much.
use Rattle.std.proofs.Common.{ℕ, zero, suc, List, inr}
use Rattle.facet_graph.specs.Cost.{IsTooCostly, cost, unweighted}
use Rattle.facet_graph.specs.Height.{IsTooHigh, IsWithin}
use Rattle.facet_graph.specs.declared.graph.WeightedEdge.{WeightedEdge}
use Rattle.facet_verdict.proofs.Decisions.{Decided, both, each_of, is_below, negated}

is_within : (edges : ℕ → List ℕ) (k s : ℕ) → Decided (IsWithin edges k s)
unfolding IsWithin
is_within edges zero s = inr (λ within. within)
is_within edges (suc k) s = each_of (IsWithin edges k) (is_within edges k) (edges s)

pub is_too_high : (edges : ℕ → List ℕ) (s : ℕ) → Decided (IsTooHigh edges s)
is_too_high edges s = negated (is_within edges 100 s)

pub is_too_costly : (edges : ℕ → List WeightedEdge) (own : ℕ → ℕ) (s : ℕ) → Decided (IsTooCostly edges own s)
is_too_costly edges own s = both (is_within (unweighted edges) 100 s) (is_below 65536 (cost edges own 100 s))
