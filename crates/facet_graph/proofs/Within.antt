-- How many nodes stand one behind another: over more levels, behind an edge, and along a way.
use Rattle.std.proofs.Common.{ℕ, zero, suc, ◌+◌, ◌-◌, ◌≤◌, List, [], ◌∷◌, Contains, get_or, subst, arith}
use Rattle.facet_graph.specs.Height.{IsHeightEntry, IsWithin}
use Rattle.facet_graph.specs.Reach.{Leads, ReachesItself}

module _ (edges : ℕ → List ℕ) where
  within_more : (k s : ℕ) → IsWithin edges k s → IsWithin edges (suc k) s
  unfolding IsWithin
  within_more zero s within = absurd within
  within_more (suc k) s within = λ i d below. within_more k (get_or (edges s) i d) (within i d below)

  within_add : (k m s : ℕ) → IsWithin edges k s → IsWithin edges (m + k) s
  within_add k zero s within = subst (λ j. IsWithin edges j s) (omega arith) within
  within_add k (suc m) s within = subst (λ j. IsWithin edges j s) (omega arith) (within_more (m + k) s (within_add k m s within))

  pub within_upto : (k m s : ℕ) → k ≤ m → IsWithin edges k s → IsWithin edges m s
  within_upto k m s upto within = subst (λ j. IsWithin edges j s) (omega (arith, upto)) (within_add k (m - k) s within)

  pub within_edge : (k s t : ℕ) → IsWithin edges (suc k) s → Contains (edges s) t → IsWithin edges k t
  unfolding IsWithin
  within_edge k s t within (i, below, at) = subst (IsWithin edges k) at (within i t below)

  -- what is reached from a node is no higher
  pub within_way : (k s : ℕ) (way : List ℕ) (t : ℕ) → Leads edges s way t → IsWithin edges k s → IsWithin edges k t
  unfolding IsWithin
  within_way k s [] t leads within = subst (IsWithin edges k) leads within
  within_way zero s (next ∷ way) t leads within = absurd within
  within_way (suc k) s (next ∷ way) t leads within = within_more k t (within_way k next way t leads.1 (within_edge k s next within leads.0))

  -- so a node that has a height isn't reached from itself
  pub no_way_back : (k s : ℕ) → IsWithin edges k s → ¬ ReachesItself edges s
  unfolding IsWithin
  no_way_back zero s within back = within
  no_way_back (suc k) s within back = no_way_back k s (within_way k back.next back.back.way s back.back.leads (within_edge k s back.next within back.edge)) back

  pub entry_upto : (s e k : ℕ) → IsHeightEntry edges s e → IsWithin edges k s → e ≤ k
  entry_upto s zero k entry within = omega arith
  entry_upto s (suc e) k entry within = (entry.1 k).0 within
