-- Two graphs in which the first n nodes have the same edges, which lead to those nodes alone, as a registry with drafts
-- and without them: what is said of one of these nodes holds in both.
use Rattle.std.proofs.Common.{◌≡◌, ℕ, zero, suc, ◌+◌, ◌*◌, ◌-◌, ◌<◌, Bool, false, List, [], ◌∷◌, ◌++◌, All, Contains, get_or, length, map, replicate, sum_by, take, refl, sym, ◌∙◌, ap, subst, inl, inr, arith}
use Rattle.std.proofs.lemmas.Bool.{cases_lt, false≢true}
use Rattle.std.proofs.lemmas.List.{get_or-append_right, get_or-take, get_or_append_left, get_or_past, length-take}
use Rattle.std.proofs.lemmas.List.Elements.{Contains-get_or}
use Rattle.facet_graph.specs.Cost.{AreCosts, IsTooCostly, capped, cost, unweighted}
use Rattle.facet_graph.specs.Height.{AreHeights, AreLow, IsHeightEntry, IsLow, IsTooHigh, IsWithin}
use Rattle.facet_graph.specs.Marks.{AreClean}
use Rattle.facet_graph.specs.Reach.{Leads, Reaches, ReachesBad, ReachesItself, StaysWithin}
use Rattle.facet_graph.specs.declared.graph.WeightedEdge.{WeightedEdge}
use Rattle.facet_graph.proofs.Counting.{by_edge, cost_is, cost_none, sum_same}

module _ (edges edges' : ℕ → List ℕ) (n : ℕ) (stays : StaysWithin edges n) (same : (s : ℕ) → s < n → edges s ≡ edges' s) where
  pub stays_same : StaysWithin edges' n
  stays_same s t below edge = stays s t below (subst (λ xs. Contains xs t) (sym (same s below)) edge)

  leads_same : (s : ℕ) (way : List ℕ) (t : ℕ) → s < n → Leads edges s way t → Leads edges' s way t
  leads_same s [] t below leads = leads
  leads_same s (next ∷ way) t below leads =
      (subst (λ xs. Contains xs next) (same s below) leads.0, leads_same next way t (stays s next below leads.0) leads.1)

  leads_within : (s : ℕ) (way : List ℕ) (t : ℕ) → s < n → Leads edges s way t → t < n
  leads_within s [] t below leads = subst (λ u. u < n) leads below
  leads_within s (next ∷ way) t below leads = leads_within next way t (stays s next below leads.0) leads.1

  pub reaches_same : (s t : ℕ) → s < n → Reaches edges s t → Reaches edges' s t
  reaches_same s t below reaches = record { way = reaches.way; leads = leads_same s reaches.way t below reaches.leads }

  pub reaches_itself_same : (s : ℕ) → s < n → ReachesItself edges s → ReachesItself edges' s
  reaches_itself_same s below back = record {
    next = back.next;
    edge = subst (λ xs. Contains xs back.next) (same s below) back.edge;
    back = reaches_same back.next s (stays s back.next below back.edge) back.back;
  }

  pub reaches_bad_same : (bad bad' : ℕ → Bool) → ((s : ℕ) → s < n → bad s ≡ bad' s) → (s : ℕ) → s < n → ReachesBad edges bad s → ReachesBad edges' bad' s
  reaches_bad_same bad bad' agree s below reaches = record {
    node = reaches.node;
    reached = reaches_same s reaches.node below reaches.reached;
    is_bad = sym (agree reaches.node (leads_within s reaches.reached.way reaches.node below reaches.reached.leads)) ∙ reaches.is_bad;
  }

  pub within_same : (k s : ℕ) → s < n → IsWithin edges k s → IsWithin edges' k s
  unfolding IsWithin
  within_same zero s below within = within
  within_same (suc k) s below within = subst (λ xs. (i : ℕ) (d : ℕ) → i < length xs → IsWithin edges' k (get_or xs i d)) (same s below)
      (λ i d under. within_same k (get_or (edges s) i d) (stays s (get_or (edges s) i d) below (Contains-get_or (edges s) i d under)) (within i d under))

-- and the other way round
module _ (edges edges' : ℕ → List ℕ) (n : ℕ) (stays : StaysWithin edges n) (same : (s : ℕ) → s < n → edges s ≡ edges' s) where
  within_back : (k s : ℕ) → s < n → IsWithin edges' k s → IsWithin edges k s
  within_back k s below within = within_same edges' edges n (stays_same edges edges' n stays same) (λ t under. sym (same t under)) k s below within

  pub too_high_same : (s : ℕ) → s < n → IsTooHigh edges s → IsTooHigh edges' s
  too_high_same s below high within = high (within_back 100 s below within)

  pub low_same : (s h : ℕ) → s < n → IsLow edges s h → IsLow edges' s h
  low_same s h below low = (low.0, λ k. ((λ within. (low.1 k).0 (within_back k s below within)), λ least. within_same edges edges' n stays same k s below ((low.1 k).1 least)))

  -- a table of heights is right in both
  pub heights_carried : (heights : List ℕ) → AreLow edges n heights → AreLow edges' n heights
  heights_carried heights low s below = low_same s (get_or heights s 0) below (low s below)

  -- so are marks on the first n nodes, where the same of these are bad
  pub marks_carried : (bad bad' : ℕ → Bool) → ((s : ℕ) → s < n → bad s ≡ bad' s) → (marks : List Bool) → length marks ≡ n → AreClean edges bad marks → AreClean edges' bad' marks
  marks_carried bad bad' agree marks len clean s marked reaches = elim (cases_lt s n) [
    | inl below ↦ clean s marked (reaches_bad_same edges' edges n (stays_same edges edges' n stays same) (λ t under. sym (same t under)) bad' bad (λ t under. sym (agree t under)) s below reaches)
    | inr past ↦ false≢true (sym (get_or_past marks s false (omega (arith, past, len))) ∙ marked)
  ]

module _ (edges edges' : ℕ → List WeightedEdge) (own own' : ℕ → ℕ) (n : ℕ) (stays : StaysWithin (unweighted edges) n) (same : (s : ℕ) → s < n → edges s ≡ edges' s) (own_same : (s : ℕ) → s < n → own s ≡ own' s) where
  unweighted_same : (s : ℕ) → s < n → unweighted edges s ≡ unweighted edges' s
  unweighted_same s below = ap (map (λ (e : WeightedEdge). e.node)) (same s below)

  behind_within : (s : ℕ) → s < n → All (λ e. e.node < n) (edges s)
  behind_within s below = by_edge edges own (λ t. t < n) s (λ i d under. stays s (get_or (unweighted edges s) i d) below (Contains-get_or (unweighted edges s) i d under))

  pub cost_same : (k s : ℕ) → s < n → cost edges own k s ≡ cost edges' own' k s
  cost_same zero s below = cost_none edges own s ∙ sym (cost_none edges' own' s)
  cost_same (suc k) s below =
      let f : WeightedEdge → ℕ = λ e. e.weight * cost edges own k e.node in
      let g : WeightedEdge → ℕ = λ e. e.weight * cost edges' own' k e.node in
      let behind = sum_same f g (edges s) (λ i d under. ap (λ m. (get_or (edges s) i d).weight * m) (cost_same k (get_or (edges s) i d).node (behind_within s below i d under))) in
      sym (cost_is edges own k s) ∙ ap (λ m. own s + m) (behind ∙ ap (sum_by g) (same s below)) ∙ ap (λ m. m + sum_by g (edges' s)) (own_same s below) ∙ cost_is edges' own' k s

  -- a table of costs is right in both
  pub costs_carried : (costs : List ℕ) → AreCosts edges own n costs → AreCosts edges' own' n costs
  costs_carried costs right s below within = right s below (within_back (unweighted edges) (unweighted edges') n stays unweighted_same 100 s below within) ∙ ap capped (cost_same 100 s below)

  pub too_costly_same : (s : ℕ) → s < n → IsTooCostly edges own s → IsTooCostly edges' own' s
  too_costly_same s below costly = (
    within_same (unweighted edges) (unweighted edges') n stays unweighted_same 100 s below costly.0,
    subst (λ m. 65536 < m) (cost_same 100 s below) costly.1,
  )

-- where no node is too high, a table of heights has none that is
pub all_low : (edges : ℕ → List ℕ) (n : ℕ) (heights : List ℕ) → AreHeights edges n heights → ((s : ℕ) → s < n → ¬ IsTooHigh edges s) → AreLow edges n heights
all_low edges n heights right none s below = go (get_or heights s 0) (right s below)
  where
    go : (e : ℕ) → IsHeightEntry edges s e → IsLow edges s e
    go zero high = absurd (none s below high)
    go (suc e) low = low

-- marks for more nodes, which aren't marked
pub marks_longer : (edges : ℕ → List ℕ) (bad : ℕ → Bool) (marks : List Bool) (m : ℕ) → AreClean edges bad marks → AreClean edges bad (marks ++ replicate m false)
marks_longer edges bad marks m clean s marked = elim (cases_lt s (length marks)) [
  | inl below ↦ clean s (sym (get_or_append_left marks (replicate m false) false s below) ∙ marked)
  | inr past ↦ absurd (false≢true (sym (get_or-append_right marks (replicate m false) (length marks) s false refl past ∙ none m (s - length marks)) ∙ marked))
]
  where
    none : (m s : ℕ) → get_or (replicate m false) s false ≡ false
    none zero s = refl
    none (suc m) zero = refl
    none (suc m) (suc s) = none m s

-- marks that are cut back to the first n nodes
pub marks_cut : (edges : ℕ → List ℕ) (bad : ℕ → Bool) (marks : List Bool) (n : ℕ) → AreClean edges bad marks → AreClean edges bad (take n marks)
marks_cut edges bad marks n clean s marked = elim (cases_lt s n) [
  | inl below ↦ clean s (sym (get_or-take n marks s false below) ∙ marked)
  | inr past ↦ absurd (false≢true (sym (get_or_past (take n marks) s false (omega (arith, past, length-take n marks))) ∙ marked))
]
