-- How long full names are: what the names cost in the graph of names.
use Rattle.std.proofs.Common.{◌≡◌, ℕ, zero, suc, ◌+◌, ◌*◌, ◌<◌, ◌↔◌, List, [], ◌∷◌, ◌++◌, All, Contains, Option, None, Some, get_or, length, map, slice_get, sum_by, refl, sym, ap, ◌∙◌, subst, inl, inr, arith}
use Rattle.std.specs.Option.{option_map_or}
use Rattle.std.proofs.lemmas.Bool.{cases_lt}
use Rattle.std.proofs.lemmas.List.{get_or_default}
use Rattle.std.proofs.lemmas.List.Elements.{All-append, All-contains, All-map}
use Rattle.std.proofs.lemmas.List.Sums.{sum_by-cons}
use Rattle.std.proofs.lemmas.Option.{slice_get_within}
use Rattle.facet_base.specs.declared.layout.ShapeId.{ShapeId}
use Rattle.facet_causes.specs.Causes.{Meets, ShapeMeets}
use Rattle.facet_causes.specs.LongName.{HasLongName}
use Rattle.facet_causes.specs.Reading.{OfShape, before_at, before_of, indices, name_children_of, named_at, own_name_bytes_of}
use Rattle.facet_causes.specs.declared.cause.SealCause.TheVariants as cause
use Rattle.facet_causes.proofs.Agree.{all_before_map, all_by, all_right, all_to}
use Rattle.facet_graph.specs.Cost.{IsCostEntry, cost, unweighted}
use Rattle.facet_graph.specs.Height.{AreHeights, IsHeightEntry, IsWithin}
use Rattle.facet_graph.specs.Reach.{StaysWithin}
use Rattle.facet_graph.specs.declared.graph.WeightedEdge.{WeightedEdge}
use Rattle.facet_graph.proofs.Entries.{costly_entry}
use Rattle.facet_leaf.specs.LeafModel.{LeafModel}
use Rattle.facet_outline.specs.References.{LeadLower, eager_references, height_references}
use Rattle.facet_shape.specs.declared.shape.Shape.{Shape}
use Rattle.facet_type_name.specs.Name.{IsWhole, full_name, name_children, own_name_bytes}
use Rattle.facet_type_name.proofs.FullNames.{name_length, name_of_none, one_level_more, whole_at_its_id}
use Rattle.facet_type_name.proofs.NameChildren.{child_is_height}

abbrev edge : ℕ → ShapeId → WeightedEdge
edge weight id = record { node = id.0; weight = weight }

abbrev weigh : (ℕ → ℕ) → WeightedEdge → ℕ
weigh f e = e.weight * f e.node

-- edges of the weight 0 add nothing, those of the weight 1 what they lead to
nought_sum : (f : ℕ → ℕ) (ids : List ShapeId) → sum_by (weigh f) (map (edge 0) ids) ≡ 0
nought_sum f [] = refl
nought_sum f (id ∷ ids) = let first = sum_by-cons (weigh f) (edge 0 id) (map (edge 0) ids) in let rest = nought_sum f ids in omega (arith, first, rest)

named_sum : (f : ℕ → ℕ) (ids before : List ShapeId) → sum_by (weigh f) (map (edge 1) ids ++ map (edge 0) before) ≡ sum_by (λ id. f id.0) ids
named_sum f [] before = nought_sum f before
named_sum f (id ∷ ids) before =
    let first = sum_by-cons (weigh f) (edge 1 id) (map (edge 1) ids ++ map (edge 0) before) in
    let rest = named_sum f ids before in
    let other = sum_by-cons (λ (c : ShapeId). f c.0) id ids in
    omega (arith, first, rest, other)

nodes_are : (ids before : List ShapeId) → map (λ (e : WeightedEdge). e.node) (map (edge 1) ids ++ map (edge 0) before) ≡ indices ids ++ indices before
nodes_are [] [] = refl
nodes_are [] (id ∷ before) = ap (λ ns. id.0 ∷ ns) (nodes_are [] before)
nodes_are (id ∷ ids) before = ap (λ ns. id.0 ∷ ns) (nodes_are ids before)

module _ (xs : List Shape) where
  pub unweighted_named : (s : ℕ) → unweighted (named_at xs) s ≡ indices (name_children_of xs s) ++ before_at xs s
  unweighted_named s = nodes_are (name_children_of xs s) (before_of xs s)

  -- the children of a name must stand before the shape
  children_among : (s : ℕ) (id : ShapeId) → Contains (name_children_of xs s) id → Contains (before_of xs s) id
  unfolding name_children_of before_of
  children_among s = go (slice_get xs s)
    where
      go : (o : Option Shape) (id : ShapeId) → Contains (option_map_or name_children o []) id → Contains (option_map_or height_references o []) id
      go None id among = among
      go (Some shape) id among = child_is_height shape id among

  -- so a name has no more levels than shapes that must stand one before another
  pub within_named : (k s : ℕ) → IsWithin (before_at xs) k s → IsWithin (unweighted (named_at xs)) k s
  unfolding IsWithin
  within_named zero s within = within
  within_named (suc k) s within =
      let P : ℕ → Type 0 = IsWithin (unweighted (named_at xs)) k in
      let before : All P (before_at xs s) = all_to (IsWithin (before_at xs) k) P (within_named k) (before_at xs s) within in
      let by_id : All (λ id. P id.0) (before_of xs s) = all_before_map P (λ (id : ShapeId). id.0) (before_of xs s) before in
      let children : All P (indices (name_children_of xs s)) = All-map P (λ (id : ShapeId). id.0) (name_children_of xs s) (all_by (λ id. P id.0) (name_children_of xs s) (λ id among. All-contains (λ id. P id.0) (before_of xs s) id by_id (children_among s id among))) in
      subst (All P) (sym (unweighted_named s)) (All-append P (indices (name_children_of xs s)) (before_at xs s) children before)

  named_within : (k s : ℕ) → IsWithin (unweighted (named_at xs)) k s → IsWithin (before_at xs) k s
  unfolding IsWithin
  named_within zero s within = within
  named_within (suc k) s within =
      let P : ℕ → Type 0 = IsWithin (unweighted (named_at xs)) k in
      let all : All P (indices (name_children_of xs s) ++ before_at xs s) = subst (All P) (unweighted_named s) within in
      all_to P (IsWithin (before_at xs) k) (named_within k) (before_at xs s) (all_right P (indices (name_children_of xs s)) (before_at xs s) all)

  entry_named : (s e : ℕ) → IsHeightEntry (before_at xs) s e → IsHeightEntry (unweighted (named_at xs)) s e
  entry_named s zero high = λ within. high (named_within 100 s within)
  entry_named s (suc e) low = (low.0, λ k. ((λ within. (low.1 k).0 (named_within k s within)), (λ least. within_named k s ((low.1 k).1 least))))

  pub heights_named : (heights : List ℕ) → AreHeights (before_at xs) (length xs) heights → AreHeights (unweighted (named_at xs)) (length xs) heights
  heights_named heights right s below = entry_named s (get_or heights s 0) (right s below)

  pub named_stays : (n : ℕ) → StaysWithin (before_at xs) n → StaysWithin (unweighted (named_at xs)) n
  named_stays n stays s t below among =
      let P : ℕ → Type 0 = λ u. u < n in
      let before : All P (before_at xs s) = all_by P (before_at xs s) (λ u edge. stays s u below edge) in
      let by_id : All (λ id. P id.0) (before_of xs s) = all_before_map P (λ (id : ShapeId). id.0) (before_of xs s) before in
      let children : All P (indices (name_children_of xs s)) = All-map P (λ (id : ShapeId). id.0) (name_children_of xs s) (all_by (λ id. P id.0) (name_children_of xs s) (λ id edge. All-contains (λ id. P id.0) (before_of xs s) id by_id (children_among s id edge))) in
      All-contains P (indices (name_children_of xs s) ++ before_at xs s) t (All-append P (indices (name_children_of xs s)) (before_at xs s) children before) (subst (λ ns. Contains ns t) (unweighted_named s) among)

  -- a name costs its length
  abbrev Costs : ℕ → Type 0
  Costs k = (id : ShapeId) → cost (named_at xs) (own_name_bytes_of xs) k id.0 ≡ length (full_name xs k id)

  sum_of_children : (k s : ℕ) → cost (named_at xs) (own_name_bytes_of xs) (suc k) s ≡ own_name_bytes_of xs s + sum_by (λ id. cost (named_at xs) (own_name_bytes_of xs) k id.0) (name_children_of xs s)
  unfolding cost
  sum_of_children k s = ap (λ n. own_name_bytes_of xs s + n) (named_sum (cost (named_at xs) (own_name_bytes_of xs) k) (name_children_of xs s) (before_of xs s))

  own_at : (s : ℕ) (o : Option Shape) → slice_get xs s ≡ o → own_name_bytes_of xs s ≡ option_map_or own_name_bytes o 0
  unfolding own_name_bytes_of
  own_at s o is = ap (λ p. option_map_or own_name_bytes p 0) is

  children_at : (s : ℕ) (o : Option Shape) → slice_get xs s ≡ o → name_children_of xs s ≡ option_map_or name_children o []
  unfolding name_children_of
  children_at s o is = ap (λ p. option_map_or name_children p []) is

  length_step : (k : ℕ) → Costs k → Costs (suc k)
  length_step k costs id = sum_of_children k id.0 ∙ (λ i. own_name_bytes_of xs id.0 + sum_by (λ c. costs c i) (name_children_of xs id.0)) ∙ go (slice_get xs id.0) refl
    where
      go : (o : Option Shape) → slice_get xs id.0 ≡ o → own_name_bytes_of xs id.0 + sum_by (λ c. length (full_name xs k c)) (name_children_of xs id.0) ≡ length (full_name xs (suc k) id)
      go None is = (λ i. own_at id.0 None is i + sum_by (λ c. length (full_name xs k c)) (children_at id.0 None is i)) ∙ sym (ap length (name_of_none xs (suc k) id is))
      go (Some shape) is = (λ i. own_at id.0 (Some shape) is i + sum_by (λ c. length (full_name xs k c)) (children_at id.0 (Some shape) is i)) ∙ sym (name_length xs k id shape is)

  length_none : Costs zero
  unfolding cost full_name
  length_none id = refl

  pub cost_is_length : (k : ℕ) → Costs k
  cost_is_length zero = length_none
  cost_is_length (suc k) = length_step k (cost_is_length k)

  -- where no more than k shapes stand one before another, k levels are the whole name
  before_found : (s : ℕ) (shape : Shape) → slice_get xs s ≡ Some shape → before_of xs s ≡ height_references shape
  unfolding before_of
  before_found s shape is = ap (λ o. option_map_or height_references o []) is

  whole_step : (k : ℕ) → ((id : ShapeId) → IsWithin (before_at xs) k id.0 → IsWhole xs k id) → (id : ShapeId) → IsWithin (before_at xs) (suc k) id.0 → IsWhole xs (suc k) id
  unfolding IsWithin
  whole_step k whole id within = go (slice_get xs id.0) refl
    where
      go : (o : Option Shape) → slice_get xs id.0 ≡ o → IsWhole xs (suc k) id
      go None is = λ deeper. name_of_none xs (suc k + deeper) id is ∙ sym (name_of_none xs (suc k) id is)
      go (Some shape) is =
          let by_id = all_before_map (IsWithin (before_at xs) k) (λ (id : ShapeId). id.0) (before_of xs id.0) within in
          let before = subst (All (λ id. IsWithin (before_at xs) k id.0)) (before_found id.0 shape is) by_id in
          one_level_more xs k id shape is (all_by (IsWhole xs k) (name_children shape) (λ c among. whole c (All-contains (λ id. IsWithin (before_at xs) k id.0) (height_references shape) c before (child_is_height shape c among))))

  none_within : (s : ℕ) → ¬ IsWithin (before_at xs) zero s
  unfolding IsWithin
  none_within s within = within

  within_whole : (k : ℕ) (id : ShapeId) → IsWithin (before_at xs) k id.0 → IsWhole xs k id
  within_whole zero id within = absurd (none_within id.0 within)
  within_whole (suc k) id within = whole_step k (within_whole k) id within

  two_depths : (j k : ℕ) (id : ShapeId) → IsWhole xs j id → IsWhole xs k id → full_name xs j id ≡ full_name xs k id
  two_depths j k id one other = let sum : j + k ≡ k + j = omega arith in sym (one k) ∙ ap (λ n. full_name xs n id) sum ∙ other j

  -- an entry of the table of costs tells whether the name is long
  pub long_entry : LeadLower xs → (s e : ℕ) → IsWithin (before_at xs) 100 s → IsCostEntry (named_at xs) (own_name_bytes_of xs) s e → (65536 < e) ↔ HasLongName xs s
  long_entry lower s e within entry =
      let id : ShapeId = record { 0 = s } in
      let in_names = within_named 100 s within in
      let tells = costly_entry (named_at xs) (own_name_bytes_of xs) s e in_names entry in
      let whole = ap length (two_depths 100 (suc s) id (within_whole 100 id within) (whole_at_its_id xs lower id)) in
      let same = cost_is_length 100 id ∙ whole in
      ((λ great. subst (λ n. 65536 < n) same (tells.0 great).1), (λ long. tells.1 (in_names, subst (λ n. 65536 < n) (sym same) long)))

-- where no shape has an eager reference to itself or a later one, they lead lower
pub lower_by : {L : Type 0} (m : LeafModel L) (xs : List Shape) → ((s : ℕ) → s < length xs → ¬ Meets m xs cause.EagerForward s) → LeadLower xs
lower_by m xs none s shape is i d under = elim (cases_lt (get_or (eager_references shape) i d).0 s) [
  | inl below ↦ below
  | inr above ↦ absurd (none s (slice_get_within xs s shape is) (subst (OfShape (ShapeMeets m xs cause.EagerForward s)) (sym is)
      (i, get_or (eager_references shape) i d, under, get_or_default (eager_references shape) i (get_or (eager_references shape) i d) d under, above)))
]
