-- The cost of a node, by the entries behind its edges.
use Rattle.std.proofs.Common.{◌≡◌, ℕ, zero, suc, ◌+◌, ◌*◌, ◌<◌, ◌≤◌, List, [], ◌∷◌, All, get_or, length, sum_by, refl, sym, ◌∙◌, ap, subst, inl, inr, arith}
use Rattle.std.proofs.lemmas.Bool.{cases_lt}
use Rattle.std.proofs.lemmas.List.{get_or-map, length-map}
use Rattle.std.proofs.lemmas.List.Elements.{All-head, All-tail, Contains-get_or}
use Rattle.std.proofs.lemmas.List.Sums.{sum_by-cons}
use Rattle.std.proofs.lemmas.Nat.{mul-le}
use Rattle.facet_graph.specs.Cost.{capped, cost, unweighted}
use Rattle.facet_graph.specs.Height.{AreHeights, IsLow, IsWithin}
use Rattle.facet_graph.specs.Reach.{StaysWithin}
use Rattle.facet_graph.specs.declared.graph.WeightedEdge.{WeightedEdge}
use Rattle.facet_graph.proofs.Tables.{entry_low}
use Rattle.facet_graph.proofs.Within.{entry_upto, within_edge, within_upto}

-- the same sum, edge by edge
pub sum_same : (f g : WeightedEdge → ℕ) (xs : List WeightedEdge) → All (λ e. f e ≡ g e) xs → sum_by f xs ≡ sum_by g xs
sum_same f g [] same = refl
sum_same f g (x ∷ xs) same = let head = All-head (λ e. f e ≡ g e) x xs same in let tail = sum_same f g xs (All-tail (λ e. f e ≡ g e) x xs same) in omega (arith, head, tail, sum_by-cons f x xs, sum_by-cons g x xs)

-- a cost that is capped before it is multiplied and added makes no difference once the sum is capped
capped_times : (a w x c : ℕ) → x ≡ capped c → capped (a + w * x) ≡ capped (a + w * c)
capped_times a zero x c is = omega arith
capped_times a (suc w) x c is = elim (cases_lt c 65537) [
  | inl small ↦ let same : x ≡ c = omega (arith, is, small) in ap (λ y. capped (a + suc w * y)) same
  | inr great ↦
      let some : 0 < suc w = omega arith in
      let one = mul-le 1 65537 (suc w) x (omega (arith, some)) (omega (arith, is, great)) in
      let other = mul-le 1 65537 (suc w) c (omega (arith, some)) (omega (arith, great)) in
      omega (arith, one, other)
]

module _ (f g : WeightedEdge → ℕ) where
  sum_capped : (xs : List WeightedEdge) (a : ℕ) → All (λ e. f e ≡ capped (g e)) xs → capped (a + sum_by (λ e. e.weight * f e) xs) ≡ capped (a + sum_by (λ e. e.weight * g e) xs)
  sum_capped [] a same = refl
  sum_capped (x ∷ xs) a same =
      let F : WeightedEdge → ℕ = λ e. e.weight * f e in
      let G : WeightedEdge → ℕ = λ e. e.weight * g e in
      let head = capped_times (a + sum_by G xs) x.weight (f x) (g x) (All-head (λ e. f e ≡ capped (g e)) x xs same) in
      let tail = sum_capped xs (a + F x) (All-tail (λ e. f e ≡ capped (g e)) x xs same) in
      omega (arith, head, tail, sum_by-cons F x xs, sum_by-cons G x xs)

module _ (edges : ℕ → List WeightedEdge) (own : ℕ → ℕ) where
  pub cost_none : (s : ℕ) → cost edges own zero s ≡ 0
  unfolding cost
  cost_none s = refl

  pub cost_is : (k s : ℕ) → own s + sum_by (λ e. e.weight * cost edges own k e.node) (edges s) ≡ cost edges own (suc k) s
  unfolding cost
  cost_is k s = refl

  -- what holds of the nodes to which edges lead, edge by edge
  pub by_edge : (P : ℕ → Type 0) (s : ℕ) → All P (unweighted edges s) → All (λ e. P e.node) (edges s)
  by_edge P s all i d below =
      let under : i < length (unweighted edges s) = omega (arith, below, length-map (edges s) (λ (e : WeightedEdge). e.node)) in
      subst P (get_or-map (λ (e : WeightedEdge). e.node) (edges s) i d d.node below) (all i d.node under)

  behind : (k s : ℕ) → IsWithin (unweighted edges) (suc k) s → All (λ e. IsWithin (unweighted edges) k e.node) (edges s)
  unfolding IsWithin
  behind k s within = by_edge (IsWithin (unweighted edges) k) s within

  -- from the height on, more levels make no difference
  cost_stays : (k s : ℕ) → IsWithin (unweighted edges) k s → cost edges own (suc k) s ≡ cost edges own k s
  unfolding IsWithin
  cost_stays zero s within = absurd within
  cost_stays (suc k) s within =
      let low = behind k s within in
      sym (cost_is (suc k) s)
      ∙ ap (λ n. own s + n) (sum_same (λ e. e.weight * cost edges own (suc k) e.node) (λ e. e.weight * cost edges own k e.node) (edges s) (λ i d below. ap (λ n. (get_or (edges s) i d).weight * n) (cost_stays k (get_or (edges s) i d).node (low i d below))))
      ∙ cost_is k s

  -- the capped cost of a node, by the capped costs behind its edges
  pub cost_step : (k : ℕ) (costs : List ℕ) (s : ℕ) → IsWithin (unweighted edges) (suc k) s → All (λ e. get_or costs e.node 0 ≡ capped (cost edges own (suc k) e.node)) (edges s)
      → capped (own s + sum_by (λ e. e.weight * get_or costs e.node 0) (edges s)) ≡ capped (cost edges own (suc k) s)
  cost_step k costs s within right =
      let low = behind k s within in
      sum_capped (λ e. get_or costs e.node 0) (λ e. cost edges own k e.node) (edges s) (own s) (λ i d below. right i d below ∙ ap capped (cost_stays k (get_or (edges s) i d).node (low i d below)))
      ∙ ap capped (cost_is k s)

  module _ (n : ℕ) (stays : StaysWithin (unweighted edges) n) (heights : List ℕ) (right : AreHeights (unweighted edges) n heights) where
    -- behind the edges of a node of the height `level + 1` no node is above the level
    pub edges_low : (s level : ℕ) → s < n → get_or heights s 0 ≡ level + 1 → All (λ e. (e.node < n) × (get_or heights e.node 0 ≤ level) × IsWithin (unweighted edges) 100 e.node) (edges s)
    edges_low s level below at = by_edge (λ t. (t < n) × (get_or heights t 0 ≤ level) × IsWithin (unweighted edges) 100 t) s targets
      where
        upto : get_or heights s 0 ≤ suc level
        upto = omega (arith, at)

        low : IsLow (unweighted edges) s (get_or heights s 0)
        low = entry_low (unweighted edges) s (get_or heights s 0) (right s below) (omega (arith, at))

        within : IsWithin (unweighted edges) (suc level) s
        within = (low.1 (suc level)).1 upto

        targets : All (λ t. (t < n) × (get_or heights t 0 ≤ level) × IsWithin (unweighted edges) 100 t) (unweighted edges s)
        targets i d under =
            let t = get_or (unweighted edges s) i d in
            let upto_level = within_edge (unweighted edges) level s t within (Contains-get_or (unweighted edges s) i d under) in
            (stays s t below (Contains-get_or (unweighted edges s) i d under), entry_upto (unweighted edges) t (get_or heights t 0) level (right t (stays s t below (Contains-get_or (unweighted edges s) i d under))) upto_level, within_upto (unweighted edges) level 100 t (omega (arith, low.0, at)) upto_level)

    pub node_within : (s : ℕ) → s < n → 0 < get_or heights s 0 → IsWithin (unweighted edges) 100 s
    node_within s below some = let low = entry_low (unweighted edges) s (get_or heights s 0) (right s below) some in (low.1 100).1 low.0
