-- What one entry of a table says: the tests by which a caller decides.
use Rattle.std.proofs.Common.{◌≡◌, ℕ, ◌<◌, ◌↔◌, List, arith}
use Rattle.facet_graph.specs.Cost.{IsCostEntry, IsTooCostly, unweighted}
use Rattle.facet_graph.specs.Height.{IsHeightEntry, IsTooHigh, IsWithin}
use Rattle.facet_graph.specs.declared.graph.WeightedEdge.{WeightedEdge}
use Rattle.facet_graph.proofs.Tables.{zero_is_high}

-- an entry of heights is 0 where the node is too high, and there alone
pub high_entry : (edges : ℕ → List ℕ) (s e : ℕ) → IsHeightEntry edges s e → (e ≡ 0) ↔ IsTooHigh edges s
high_entry edges s e entry = zero_is_high edges s e entry

-- an entry of costs, of a node that isn't too high, is above 65,536 where the node is too costly, and there alone
pub costly_entry : (edges : ℕ → List WeightedEdge) (own : ℕ → ℕ) (s e : ℕ) → IsWithin (unweighted edges) 100 s → IsCostEntry edges own s e → (65536 < e) ↔ IsTooCostly edges own s
costly_entry edges own s e within entry = (
  (λ great. let is = entry within in (within, omega (arith, is, great))),
  (λ costly. let is = entry within in let above = costly.1 in omega (arith, is, above)),
)
