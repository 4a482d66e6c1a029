-- The comparisons of the values at two places, by what is seen there.
use Rattle.std.proofs.Common.{◌≡◌, ℕ, zero, suc, ◌+◌, ◌-◌, ◌<◌, ◌≤◌, ◌==◌, ◌&&◌, ℤ, w64, Bool, true, false, if◌then◌else◌, int_cmp, int_eq, List, [], ◌∷◌, Option, None, Some, drop, length, slice_get, refl, sym, ap, ◌∙◌, subst, arith, eq-eqb}
use Rattle.std.specs.Ordering.{is_eq}
use Rattle.std.specs.declared.cmp.Ordering.{Ordering}
use Rattle.std.specs.declared.cmp.Ordering.TheVariants.{Less, Equal, Greater}
use Rattle.std.proofs.lemmas.Bool.{and_from, and_left, and_right, false_from_ne_true, ne_eqb}
use Rattle.std.proofs.lemmas.Bool.Decides.{Decides-int_eq}
use Rattle.std.proofs.lemmas.List.{drop_all}
use mir.Val.{of_z}
use Rattle.facet_base.specs.declared.characteristic.Characteristic.{Characteristic}
use Rattle.facet_base.specs.declared.characteristic.Characteristic.TheVariants as trait
use Rattle.facet_causes.specs.Causes.{IsWellFormed}
use Rattle.facet_leaf.specs.LeafLaws.{Have}
use Rattle.facet_leaf.specs.LeafModel.{LeafModel}
use Rattle.facet_shape.specs.declared.shape.Shape.{Shape}
use Rattle.facet_trees.proofs.OfferedComparisons.{IsAsked, have_leaves}
use Rattle.facet_trees.proofs.PartShapes.{Alike}
use Rattle.facet_trees.specs.Answered.{answer_if, is_answered, rank_at}
use Rattle.facet_trees.specs.Equal.{equal_then, equality, equality_of_parts}
use Rattle.facet_trees.specs.Fits.{Fits, HasForm}
use Rattle.facet_trees.specs.Order.{Answer, Which, by_partial, by_total, capability_of, order_of_leaves, order_then, ordered, ordering, ordering_of_parts}
use Rattle.facet_trees.specs.Structure.{part_shapes, structure_at}
use Rattle.facet_trees.specs.Value.{Value, count, leaf, node}
use Rattle.facet_trees.specs.declared.form.Form.{Form}
use Rattle.facet_values.proofs.FittingValues.{reading_fits, shapes_of, shapes_of_seen}
use Rattle.facet_values.specs.Place.{Place}
use Rattle.facet_values.specs.Reading.{IsReadableWithin, Reads, value_at, value_by, values_by}
use Rattle.facet_values.specs.Seen.{Seen, a_leaf, a_node, no_value, seen}
use Rattle.facet_walk.proofs.ReadableParts.{something_seen, step}
use Rattle.facet_compare.specs.Walks.{HaveSameShapes, equality_of_places, ordering_of_places}
use Rattle.facet_compare.proofs.AlikeParts.{parts_alike}

abbrev nowhere : {L : Type 0} → List (Place L)
nowhere = []

-- as many values as places
pub count_values : {L : Type 0} (value : Place L → Value L) (ps : List (Place L)) → count (values_by value ps) ≡ length ps
count_values value [] = refl
count_values value (p ∷ ps) = ap suc (count_values value ps)

module _ {L : Type 0} (m : LeafModel L) (shapes : List Shape) where
  -- the equality of two values of a shape that has one, by what they are seen as
  abbrev pub equality_seen : ℕ → ℕ → Seen L → Seen L → Option Bool
  equality_seen levels s (a_leaf x) (a_leaf y) = Some (m.same x y)
  equality_seen levels s (a_node form ps) (a_node other qs) =
      if int_eq (rank_at shapes s form) (rank_at shapes s other) && (length ps == length qs) then equality_of_places m shapes levels ps qs else Some false
  equality_seen levels s _ _ = Some false

  -- their order
  abbrev pub ordering_seen : Which → ℕ → ℕ → Seen L → Seen L → Answer
  ordering_seen which levels s (a_leaf x) (a_leaf y) = Some (order_of_leaves m which x y)
  ordering_seen which levels s (a_node form ps) (a_node other qs) =
      order_then (ordered (int_cmp (rank_at shapes s form) (rank_at shapes s other))) (ordering_of_places m shapes which levels ps qs)
  ordering_seen which levels s (a_leaf x) _ = ordered Less
  ordering_seen which levels s _ _ = ordered Greater

  abbrev HasParts : ℕ → Seen L → Type 0
  HasParts s (a_node form parts) = part_shapes (structure_at shapes s) form (length parts) ≡ shapes_of parts
  HasParts s _ = Unit {0}

  has_parts : (p : Place L) (found : Seen L) → seen shapes p ≡ found → HasParts p.shape found
  has_parts p no_value e = tt
  has_parts p (a_leaf x) e = tt
  has_parts p (a_node form parts) e = (shapes_of_seen shapes p form parts e).1

  equality_by : (levels s : ℕ) (x y : Seen L) → (x ≡ no_value → ⊥) → (y ≡ no_value → ⊥) → HasParts s x
      → equality m shapes s (value_by (value_at shapes levels) x) (value_by (value_at shapes levels) y) ≡ answer_if (is_answered shapes trait.PartialEq s) (equality_seen levels s x y)
  unfolding equality equality_of_parts
  equality_by levels s no_value y hx hy parts = absurd (hx refl)
  equality_by levels s (a_leaf x) no_value hx hy parts = absurd (hy refl)
  equality_by levels s (a_leaf x) (a_leaf y) hx hy parts = refl
  equality_by levels s (a_leaf x) (a_node other qs) hx hy parts = refl
  equality_by levels s (a_node form ps) no_value hx hy parts = absurd (hy refl)
  equality_by levels s (a_node form ps) (a_leaf y) hx hy parts = refl
  equality_by levels s (a_node form ps) (a_node other qs) hx hy parts =
      simp (count_values (value_at shapes levels) ps, count_values (value_at shapes levels) qs, parts)

  ordering_by : (which : Which) (levels s : ℕ) (x y : Seen L) → (x ≡ no_value → ⊥) → (y ≡ no_value → ⊥) → HasParts s x
      → ordering m shapes which s (value_by (value_at shapes levels) x) (value_by (value_at shapes levels) y) ≡ answer_if (is_answered shapes (capability_of which) s) (ordering_seen which levels s x y)
  unfolding ordering ordering_of_parts
  ordering_by which levels s no_value y hx hy parts = absurd (hx refl)
  ordering_by which levels s (a_leaf x) no_value hx hy parts = absurd (hy refl)
  ordering_by which levels s (a_leaf x) (a_leaf y) hx hy parts = refl
  ordering_by which levels s (a_leaf x) (a_node other qs) hx hy parts = refl
  ordering_by which levels s (a_node form ps) no_value hx hy parts = absurd (hy refl)
  ordering_by which levels s (a_node form ps) (a_leaf y) hx hy parts = refl
  ordering_by which levels s (a_node form ps) (a_node other qs) hx hy parts = simp (count_values (value_at shapes levels) ps, parts)

  -- the answer on the places from one on is that of this pair, and then of the pairs behind it
  pub equality_step : (levels : ℕ) (ps qs : List (Place L)) (i : ℕ) {p q : Place L} → slice_get ps i ≡ Some p → slice_get qs i ≡ Some q
      → equality_of_places m shapes levels (drop i ps) (drop i qs)
      ≡ equal_then (equality m shapes p.shape (value_at shapes levels p) (value_at shapes levels q)) (equality_of_places m shapes levels (drop (i + 1) ps) (drop (i + 1) qs))
  unfolding equality equality_of_parts
  equality_step levels [] qs i e f = absurd (cc)
  equality_step levels (p' ∷ ps) [] i e f = absurd (cc)
  equality_step levels (p' ∷ ps) (q' ∷ qs) zero {p} {q} e f =
      let same_p : p' ≡ p = cc in
      let same_q : q' ≡ q = cc in
      cc
  equality_step levels (p' ∷ ps) (q' ∷ qs) (suc i) e f =
      let next : suc i + 1 ≡ suc (i + 1) = omega arith in
      rw next (equality_step levels ps qs i e f)

  -- behind the last pair there is nothing that differs
  pub equality_end : (levels : ℕ) (ps qs : List (Place L)) (i : ℕ) → length ps ≤ i → equality_of_places m shapes levels (drop i ps) (drop i qs) ≡ Some true
  unfolding equality_of_parts
  equality_end levels ps qs i past = rw (drop_all i ps past) refl

  pub ordering_step : (which : Which) (levels : ℕ) (ps qs : List (Place L)) (i : ℕ) {p q : Place L} → slice_get ps i ≡ Some p → slice_get qs i ≡ Some q
      → ordering_of_places m shapes which levels (drop i ps) (drop i qs)
      ≡ order_then (ordering m shapes which p.shape (value_at shapes levels p) (value_at shapes levels q)) (ordering_of_places m shapes which levels (drop (i + 1) ps) (drop (i + 1) qs))
  unfolding ordering ordering_of_parts
  ordering_step which levels [] qs i e f = absurd (cc)
  ordering_step which levels (p' ∷ ps) [] i e f = absurd (cc)
  ordering_step which levels (p' ∷ ps) (q' ∷ qs) zero {p} {q} e f =
      let same_p : p' ≡ p = cc in
      let same_q : q' ≡ q = cc in
      cc
  ordering_step which levels (p' ∷ ps) (q' ∷ qs) (suc i) e f =
      let next : suc i + 1 ≡ suc (i + 1) = omega arith in
      rw next (ordering_step which levels ps qs i e f)

  -- behind the last place of one list, or of both
  pub ordering_longer : (which : Which) (levels : ℕ) (ps qs : List (Place L)) (i : ℕ) → i < length ps → length qs ≤ i
      → ordering_of_places m shapes which levels (drop i ps) (drop i qs) ≡ ordered Greater
  unfolding ordering_of_parts
  ordering_longer which levels [] qs i below past = absurd (omega arith)
  ordering_longer which levels (p ∷ ps) [] zero below past = refl
  ordering_longer which levels (p ∷ ps) (q ∷ qs) zero below past = absurd (omega arith)
  ordering_longer which levels (p ∷ ps) [] (suc i) below past =
      let r = ordering_longer which levels ps [] i (omega arith) (omega arith) in
      let e : drop i (nowhere {L = L}) ≡ nowhere = drop_all i nowhere (omega arith) in
      rw e at r
  ordering_longer which levels (p ∷ ps) (q ∷ qs) (suc i) below past = ordering_longer which levels ps qs i (omega arith) (omega arith)

  pub ordering_shorter : (which : Which) (levels : ℕ) (ps qs : List (Place L)) (i : ℕ) → length ps ≤ i → i < length qs
      → ordering_of_places m shapes which levels (drop i ps) (drop i qs) ≡ ordered Less
  unfolding ordering_of_parts
  ordering_shorter which levels ps [] i past below = absurd (omega arith)
  ordering_shorter which levels [] (q ∷ qs) zero past below = refl
  ordering_shorter which levels (p ∷ ps) (q ∷ qs) zero past below = absurd (omega arith)
  ordering_shorter which levels [] (q ∷ qs) (suc i) past below =
      let r = ordering_shorter which levels [] qs i (omega arith) (omega arith) in
      let e : drop i (nowhere {L = L}) ≡ nowhere = drop_all i nowhere (omega arith) in
      rw e at r
  ordering_shorter which levels (p ∷ ps) (q ∷ qs) (suc i) past below = ordering_shorter which levels ps qs i (omega arith) (omega arith)

  pub ordering_end : (which : Which) (levels : ℕ) (ps qs : List (Place L)) (i : ℕ) → length ps ≤ i → length qs ≤ i
      → ordering_of_places m shapes which levels (drop i ps) (drop i qs) ≡ ordered Equal
  unfolding ordering_of_parts
  ordering_end which levels ps qs i past also = rw (drop_all i ps past, drop_all i qs also) refl

-- places of which the shapes are alike
alike_shapes : {L : Type 0} (ps qs : List (Place L)) → Alike (shapes_of ps) (shapes_of qs) → (i : ℕ) (p q : Place L) → slice_get ps i ≡ Some p → slice_get qs i ≡ Some q → p.shape ≡ q.shape
alike_shapes [] qs alike i p q e f = absurd (cc)
alike_shapes (p' ∷ ps) [] alike i p q e f = absurd (cc)
alike_shapes (p' ∷ ps) (q' ∷ qs) alike zero p q e f =
    let same_p : p' ≡ p = cc in
    let same_q : q' ≡ q = cc in
    let same = alike.0 in
    cc
alike_shapes (p' ∷ ps) (q' ∷ qs) alike (suc i) p q e f = alike_shapes ps qs alike.1 i p q e f

-- a leaf that is seen fits the shape
leaf_here : {L : Type 0} (m : LeafModel L) (shapes : List Shape) (levels : ℕ) (p : Place L) (x : L) → IsReadableWithin m shapes levels p → a_leaf x ≡ seen shapes p → Fits m shapes p.shape (leaf x)
leaf_here m shapes levels p x r e = go r.value r.reads
  where
    go : (v : Value _) → Reads m shapes p v → Fits m shapes p.shape (leaf x)
    go (leaf y) reads = let same : y ≡ x = let f = reads.1 in cc in subst (λ z. Fits m shapes p.shape (leaf z)) same (reading_fits m shapes p (leaf y) reads)
    go (node form vs) reads = absurd (let f = reads.2 in cc)

-- two places of one shape that read as values
module _ {L : Type 0} {m : LeafModel L} {shapes : List Shape} {levels : ℕ} {a b : Place L} (ra : IsReadableWithin m shapes levels a) (rb : IsReadableWithin m shapes levels b) where
  equality_of : equality m shapes a.shape (value_at shapes levels a) (value_at shapes levels b)
      ≡ answer_if (is_answered shapes trait.PartialEq a.shape) (equality_seen m shapes (levels - 1) a.shape (seen shapes a) (seen shapes b))
  equality_of =
      rw (step ra, step rb) (equality_by m shapes (levels - 1) a.shape (seen shapes a) (seen shapes b) (something_seen ra) (something_seen rb) (has_parts m shapes a (seen shapes a) refl))

  ordering_of : (which : Which) → ordering m shapes which a.shape (value_at shapes levels a) (value_at shapes levels b)
      ≡ answer_if (is_answered shapes (capability_of which) a.shape) (ordering_seen m shapes which (levels - 1) a.shape (seen shapes a) (seen shapes b))
  ordering_of which =
      rw (step ra, step rb) (ordering_by m shapes which (levels - 1) a.shape (seen shapes a) (seen shapes b) (something_seen ra) (something_seen rb) (has_parts m shapes a (seen shapes a) refl))

  pub no_equality : false ≡ is_answered shapes trait.PartialEq a.shape → equality m shapes a.shape (value_at shapes levels a) (value_at shapes levels b) ≡ None
  no_equality is = rw (equality_of, ← is)

  pub no_ordering : (which : Which) → false ≡ is_answered shapes (capability_of which) a.shape → ordering m shapes which a.shape (value_at shapes levels a) (value_at shapes levels b) ≡ None
  no_ordering which is = rw (ordering_of which, ← is)

  -- the answer, where what is seen is known and there is one
  pub equality_of_seen : {x y : Seen L} → x ≡ seen shapes a → y ≡ seen shapes b → true ≡ is_answered shapes trait.PartialEq a.shape
      → equality m shapes a.shape (value_at shapes levels a) (value_at shapes levels b) ≡ equality_seen m shapes (levels - 1) a.shape x y
  equality_of_seen ea eb is = rw (equality_of, ← is, ← ea, ← eb)

  pub ordering_of_seen : (which : Which) {x y : Seen L} → x ≡ seen shapes a → y ≡ seen shapes b → true ≡ is_answered shapes (capability_of which) a.shape
      → ordering m shapes which a.shape (value_at shapes levels a) (value_at shapes levels b) ≡ ordering_seen m shapes which (levels - 1) a.shape x y
  ordering_of_seen which ea eb is = rw (ordering_of which, ← is, ← ea, ← eb)

  -- two leaves of a shape are of one kind, which has what the shape offers
  pub leaves_have : IsWellFormed m shapes → {x y : L} → a_leaf x ≡ seen shapes a → a_leaf y ≡ seen shapes b → a.shape ≡ b.shape → (c : Characteristic) → IsAsked c
      → true ≡ is_answered shapes c a.shape → Have m c x y
  leaves_have well {x} {y} ea eb same c asked is =
      have_leaves m shapes well a.shape x y (leaf_here m shapes levels a x ra ea) (subst (λ s. Fits m shapes s (leaf y)) (sym same) (leaf_here m shapes levels b y rb eb)) c asked (sym is)

  -- the parts of two nodes whose forms have one rank have the same shapes
  pub nodes_alike : IsWellFormed m shapes → {form other : Form} {ps qs : List (Place L)} → a_node form ps ≡ seen shapes a → a_node other qs ≡ seen shapes b → a.shape ≡ b.shape
      → rank_at shapes a.shape form ≡ rank_at shapes a.shape other → HaveSameShapes ps qs
  nodes_alike well {form} {other} {ps} {qs} ea eb same ranks =
      let here = shapes_of_seen shapes a form ps (sym ea) in
      let there = subst (λ s. HasForm (structure_at shapes s) other × (part_shapes (structure_at shapes s) other (length qs) ≡ shapes_of qs)) (sym same) (shapes_of_seen shapes b other qs (sym eb)) in
      let alike = parts_alike m shapes well a.shape form other (length ps) (length qs) here.0 there.0 ranks in
      record { each = alike_shapes ps qs (rw (here.1, there.1) at alike) }

pub asked_by : (which : Which) → IsAsked (capability_of which)
asked_by by_partial = tt
asked_by by_total = tt

-- what comes of ranks and numbers of parts that the code compares
other_test : (test : Bool) (o : Option Bool) → test ≡ false → Some false ≡ (if test then o else Some false)
other_test true o is = absurd (cc)
other_test false o is = refl

met_test : (test : Bool) (o : Option Bool) → test ≡ true → o ≡ (if test then o else Some false)
met_test true o is = refl
met_test false o is = absurd (cc)

pub other_ranks : (r r' a b : ℤ) (test : Bool) (o : Option Bool) → a ≡ r → b ≡ r' → ¬ (of_z w64 a ≡ of_z w64 b) → Some false ≡ (if int_eq r r' && test then o else Some false)
other_ranks r r' a b test o ours theirs differ =
    other_test (int_eq r r' && test) o (and_left (int_eq r r') test (false_from_ne_true (int_eq r r') (λ same. differ (ap (of_z w64) (ours ∙ (Decides-int_eq r r').0 same ∙ sym theirs)))))

pub other_counts : (n k x y : ℕ) (test : Bool) (o : Option Bool) → x ≡ n → y ≡ k → ¬ (x ≡ y) → Some false ≡ (if test && (n == k) then o else Some false)
other_counts n k x y test o ours theirs differ =
    other_test (test && (n == k)) o (and_right test (n == k) (ne_eqb n k (λ same. differ (ours ∙ same ∙ sym theirs))))

pub equal_counts : (r r' a b : ℤ) (n k x y : ℕ) (o : Option Bool) → a ≡ r → b ≡ r' → a ≡ b → x ≡ n → y ≡ k → x ≡ y → o ≡ (if int_eq r r' && (n == k) then o else Some false)
equal_counts r r' a b n k x y o ours theirs same one other also =
    met_test (int_eq r r' && (n == k)) o
    (and_from (int_eq r r') (n == k) ((Decides-int_eq r r').1 (sym ours ∙ same ∙ theirs)) (eq-eqb n k (sym one ∙ also ∙ other)))

pub rank_first : (order : Ordering) (r r' a b : ℤ) (next : Answer) → a ≡ r → b ≡ r' → order ≡ int_cmp a b → (order ≡ Equal → ⊥) → ordered order ≡ order_then (ordered (int_cmp r r')) next
rank_first Less r r' a b next ours theirs is other = ap (λ o. order_then (ordered o) next) (is ∙ (λ i. int_cmp (ours i) (theirs i)))
rank_first Equal r r' a b next ours theirs is other = absurd (other refl)
rank_first Greater r r' a b next ours theirs is other = ap (λ o. order_then (ordered o) next) (is ∙ (λ i. int_cmp (ours i) (theirs i)))

pub rank_same : (r r' a b : ℤ) (next : Answer) → a ≡ r → b ≡ r' → Equal ≡ int_cmp a b → next ≡ order_then (ordered (int_cmp r r')) next
rank_same r r' a b next ours theirs is = ap (λ o. order_then (ordered o) next) (is ∙ (λ i. int_cmp (ours i) (theirs i)))

pub ranks_equal : (r r' a b : ℤ) → a ≡ r → b ≡ r' → Equal ≡ int_cmp a b → r ≡ r'
ranks_equal r r' a b ours theirs is = sym ours ∙ (Decides-int_eq a b).0 (ap is_eq (sym is)) ∙ theirs
