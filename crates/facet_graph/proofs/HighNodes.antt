-- The graph of the nodes from the first one on that is too high: a node of it is on a cycle exactly where it is in the whole.
use Rattle.std.proofs.Common.{◌≡◌, ℕ, zero, suc, ◌+◌, ◌-◌, ◌<◌, ◌≤◌, ◌↔◌, Bool, true, false, List, [], ◌∷◌, All, Contains, None, Some, cond, get_or, map, nat_le, refl, sym, ap, ◌∙◌, subst, inl, inr, arith}
use Rattle.std.specs.List.{filter}
use Rattle.std.proofs.lemmas.Bool.{cases_lt, false≢true, leb-true, le-leb}
use Rattle.std.proofs.lemmas.List.Elements.{All-contains, All-contains_itself, All-filter, All-map, filter_passes}
use Rattle.facet_graph.specs.Height.{AreHeights, AreLow, IsTooHigh}
use Rattle.facet_graph.specs.HighNodes.{behind, edges_by, high_edges}
use Rattle.facet_graph.specs.Least.{IsLeast}
use Rattle.facet_graph.specs.Reach.{Leads, ReachesItself, StaysWithin}
use Rattle.facet_graph.proofs.Tables.{low_positive, zero_is_high}
use Rattle.facet_graph.proofs.Within.{no_way_back, within_way}

contains_first : (x : ℕ) (xs : List ℕ) → Contains (x ∷ xs) x
contains_first x xs = (0, omega arith, refl)

contains_later : (x : ℕ) (xs : List ℕ) (t : ℕ) → Contains xs t → Contains (x ∷ xs) t
contains_later x xs t (i, below, at) = (suc i, omega (arith, below), at)

-- the nodes that don't stand before the first
module _ (first : ℕ) where
  -- each is one of the nodes
  pub from_behind : (nodes : List ℕ) (t : ℕ) → Contains (behind first nodes) t → Contains nodes (first + t)
  from_behind nodes t among = All-contains (λ t. Contains nodes (first + t)) (behind first nodes) t (All-map (λ t. Contains nodes (first + t)) (λ t. t - first) (filter (nat_le first) nodes) back) among
    where
      back : All (λ u. Contains nodes (first + (u - first))) (filter (nat_le first) nodes)
      back i d below =
          let u = get_or (filter (nat_le first) nodes) i d in
          let upto : first ≤ u = leb-true first u (filter_passes (nat_le first) nodes i d below) in
          let same : u ≡ first + (u - first) = omega (arith, upto) in
          subst (Contains nodes) same (All-filter (nat_le first) (Contains nodes) nodes (All-contains_itself nodes) i d below)

  -- and each of the nodes that doesn't stand before it is there
  keeps : (x : ℕ) (nodes : List ℕ) (t : ℕ) (b : Bool) → Contains (map (λ t. t - first) nodes) t → Contains (map (λ t. t - first) (cond b (x ∷ nodes) nodes)) t
  keeps x nodes t true among = contains_later (x - first) (map (λ t. t - first) nodes) t among
  keeps x nodes t _ among = among

  pub into_behind : (nodes : List ℕ) (u : ℕ) → first ≤ u → Contains nodes u → Contains (behind first nodes) (u - first)
  into_behind [] u upto (i, below, at) = absurd (omega (arith, below))
  into_behind (x ∷ nodes) u upto (zero, below, at) =
      let passes : nat_le first x ≡ true = le-leb first x (subst (λ y. first ≤ y) (sym at) upto) in
      let rest = filter (nat_le first) nodes in
      subst (Contains (map (λ t. t - first) (cond (nat_le first x) (x ∷ rest) rest))) (ap (λ y. y - first) at)
      (subst (λ b. Contains (map (λ t. t - first) (cond b (x ∷ rest) rest)) (x - first)) (sym passes) (contains_first (x - first) (map (λ t. t - first) rest)))
  into_behind (x ∷ nodes) u upto (suc i, below, at) = keeps x (filter (nat_le first) nodes) (u - first) (nat_le first x) (into_behind nodes u upto (i, omega (arith, below), at))

  from_edges_by : (e : ℕ) (nodes : List ℕ) (t : ℕ) → Contains (edges_by first e nodes) t → Contains nodes (first + t)
  from_edges_by zero nodes t among = from_behind nodes t among
  from_edges_by (suc e) nodes t (i, below, at) = absurd (omega (arith, below))

  into_edges_by : (e : ℕ) (nodes : List ℕ) (u : ℕ) → e ≡ 0 → first ≤ u → Contains nodes u → Contains (edges_by first e nodes) (u - first)
  into_edges_by zero nodes u blank upto among = into_behind nodes u upto among
  into_edges_by (suc e) nodes u blank upto among = absurd (omega (arith, blank))

module _ (edges : ℕ → List ℕ) (first : ℕ) (heights : List ℕ) where
  from_high : (s t : ℕ) → Contains (high_edges edges first heights s) t → Contains (edges (first + s)) (first + t)
  unfolding high_edges
  from_high s t among = from_edges_by first (get_or heights (first + s) 0) (edges (first + s)) t among

  into_high : (s u : ℕ) → first ≤ s → get_or heights s 0 ≡ 0 → first ≤ u → Contains (edges s) u → Contains (high_edges edges first heights (s - first)) (u - first)
  unfolding high_edges
  into_high s u after blank upto among =
      let same : s ≡ first + (s - first) = omega (arith, after) in
      subst (λ r. Contains (edges_by first (get_or heights r 0) (edges r)) (u - first)) same (into_edges_by first (get_or heights s 0) (edges s) u blank upto among)

  -- a node that isn't too high has no edge, and any other those that lead to no node before the first
  pub low_without_edges : (s : ℕ) → 0 < get_or heights (first + s) 0 → high_edges edges first heights s ≡ []
  unfolding high_edges
  low_without_edges s some = go (get_or heights (first + s) 0) some
    where
      go : (e : ℕ) → 0 < e → edges_by first e (edges (first + s)) ≡ []
      go zero some = absurd (omega (arith, some))
      go (suc e) some = refl

  pub high_with_edges : (s : ℕ) (low : Bool) → (low ≡ true) ↔ (0 < get_or heights (first + s) 0) → low ≡ false → high_edges edges first heights s ≡ behind first (edges (first + s))
  unfolding high_edges
  high_with_edges s low told not = go (get_or heights (first + s) 0) told
    where
      go : (e : ℕ) → (low ≡ true) ↔ (0 < e) → edges_by first e (edges (first + s)) ≡ behind first (edges (first + s))
      go zero told = refl
      go (suc e) told = absurd (false≢true (sym not ∙ told.1 (omega arith)))

  pub high_stays : (n : ℕ) → StaysWithin edges n → StaysWithin (high_edges edges first heights) (n - first)
  high_stays n stays s t below among =
      let inside : first + t < n = stays (first + s) (first + t) (omega (arith, below)) (from_high s t among) in
      omega (arith, inside)

  -- a way leads through the same nodes in the whole graph
  from_way : (s : ℕ) (way : List ℕ) (t : ℕ) → Leads (high_edges edges first heights) s way t → Leads edges (first + s) (map (λ u. first + u) way) (first + t)
  from_way s [] t leads = ap (λ u. first + u) leads
  from_way s (next ∷ way) t leads = (from_high s next leads.0, from_way next way t leads.1)

  pub from_cycle : (s : ℕ) → ReachesItself (high_edges edges first heights) s → ReachesItself edges (first + s)
  from_cycle s back = record {
    next = first + back.next;
    edge = from_high s back.next back.edge;
    back = record { way = map (λ u. first + u) back.back.way; leads = from_way back.next back.back.way s back.back.leads };
  }

  -- and a way back leads through nodes alone that are too high, none of which stands before the first
  module _ (n : ℕ) (right : AreHeights edges n heights) (low : AreLow edges first heights) (stays : StaysWithin edges n) where
    blank_before : (u : ℕ) (way : List ℕ) (s : ℕ) → u < n → Leads edges u way s → IsTooHigh edges s → get_or heights u 0 ≡ 0
    blank_before u way s below leads high = (zero_is_high edges u (get_or heights u 0) (right u below)).1 (λ within. high (within_way edges 100 u way s leads within))

    blank_after : (u : ℕ) → get_or heights u 0 ≡ 0 → first ≤ u
    blank_after u blank = elim (cases_lt u first) [ inl below ↦ absurd (let some = low_positive edges u (get_or heights u 0) (low u below) in omega (arith, some, blank)) | inr after ↦ after ]

    into_way : (u : ℕ) (way : List ℕ) (s : ℕ) → u < n → Leads edges u way s → IsTooHigh edges s → Leads (high_edges edges first heights) (u - first) (map (λ t. t - first) way) (s - first)
    into_way u [] s below leads high = ap (λ t. t - first) leads
    into_way u (next ∷ way) s below leads high =
        let here = blank_before u (next ∷ way) s below leads high in
        let inside = stays u next below leads.0 in
        let there = blank_before next way s inside leads.1 high in
        (into_high u next (blank_after u here) here (blank_after next there) leads.0, into_way next way s inside leads.1 high)

    pub into_cycle : (s : ℕ) → s < n → ReachesItself edges s → (first ≤ s) × ReachesItself (high_edges edges first heights) (s - first)
    into_cycle s below back =
        let high : IsTooHigh edges s = λ within. no_way_back edges 100 s within back in
        let here = blank_before s [] s below refl high in
        let inside = stays s back.next below back.edge in
        let there = blank_before back.next back.back.way s inside back.back.leads high in (
          blank_after s here,
          record {
            next = back.next - first;
            edge = into_high s back.next (blank_after s here) here (blank_after back.next there) back.edge;
            back = record { way = map (λ t. t - first) back.back.way; leads = into_way back.next back.back.way s inside back.back.leads high };
          },
        )

    -- so the least on a cycle is the least of those
    pub none_on_cycle : IsLeast (ReachesItself (high_edges edges first heights)) (n - first) None → IsLeast (ReachesItself edges) n None
    none_on_cycle none s below back = let there = into_cycle s below back in none (s - first) (omega (arith, there.0, below)) there.1

    pub least_on_cycle : (t : ℕ) → IsLeast (ReachesItself (high_edges edges first heights)) (n - first) (Some t) → IsLeast (ReachesItself edges) n (Some (first + t))
    least_on_cycle t least = (
      omega (arith, least.0),
      from_cycle t least.1,
      λ s before back.
          let there = into_cycle s (omega (arith, before, least.0)) back in
          least.2 (s - first) (omega (arith, there.0, before)) there.1,
    )
