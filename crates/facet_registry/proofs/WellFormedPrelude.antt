-- No shape of the prelude meets a cause for which shapes aren't sealed.
use Rattle.std.proofs.Common.{◌≡◌, ℕ, zero, suc, ◌+◌, ◌*◌, ◌≤◌, Bool, true, false, not, ◌&&◌, ◌||◌, IsTrue, List, [], ◌∷◌, All, Any, Contains, Option, None, Some, inl, inr, length, map, slice_get, sum_by, refl, sym, ap, ◌∙◌, subst, arith}
use Rattle.std.specs.Option.{option_map_or}
use Rattle.facet_base.specs.declared.characteristic.Characteristic.TheVariants as trait
use Rattle.facet_base.specs.declared.layout.ShapeId.{ShapeId}
use Rattle.facet_base.specs.declared.scalar_type.ScalarType.{ScalarType}
use Rattle.facet_base.specs.declared.scalar_type.ScalarType.TheVariants as scalar
use Rattle.facet_caps.specs.declared.type_ops.TypeOpsDirect.{TypeOpsDirect}
use Rattle.facet_caps.specs.declared.vtable.VTableDirect.{VTableDirect}
use Rattle.facet_causes.specs.Causes.{IsWellFormed, ShapeMeets}
use Rattle.facet_causes.specs.KeyNotOrd.{keys_of}
use Rattle.facet_causes.specs.LongName.{HasLongName}
use Rattle.facet_causes.specs.Reading.{OfShape, before_at, before_of, element_of, indices, inline_at, inline_of, kind_in, lacks_order, layout_at, parts_at, repeated_at, repetition_of}
use Rattle.facet_causes.specs.TooLarge.{IsTooLarge, each_counts}
use Rattle.facet_causes.specs.declared.cause.SealCause.{SealCause}
use Rattle.facet_causes.specs.declared.cause.SealCause.TheVariants as cause
use Rattle.facet_desc.specs.declared.repr.EnumRepr.{EnumRepr}
use Rattle.facet_graph.specs.Cost.{cost}
use Rattle.facet_graph.specs.Height.{IsWithin}
use Rattle.facet_graph.specs.Reach.{ReachesBad}
use Rattle.facet_graph.specs.Repeats.{HasRepeat, HaveOverlap}
use Rattle.facet_graph.specs.declared.graph.WeightedEdge.{WeightedEdge}
use Rattle.facet_leaf.specs.LeafLaws.{LeafLaws}
use Rattle.facet_leaf.specs.LeafModel.{LeafModel}
use Rattle.facet_outline.specs.BadLayout.{has_bad_layout, has_unsized_part, is_leaf_without_bytes, is_too_large}
use Rattle.facet_outline.specs.Discriminant.{AreOutsideRepr, IsOfRepr, discriminants_of_kind, repr_of_kind}
use Rattle.facet_outline.specs.Field.{bodies, has_field_misaligned, has_field_outside, spans_of, tag_bytes}
use Rattle.facet_outline.specs.Layout.{part_layout}
use Rattle.facet_outline.specs.Mismatch.{is_mismatched}
use Rattle.facet_outline.specs.Offered.{has_no_more, has_no_more_operations, has_unoffered_member, implies}
use Rattle.facet_outline.specs.Part.{inline_parts, parts}
use Rattle.facet_outline.specs.References.{eager_references, height_references, other_references, part_references, references}
use Rattle.facet_shape.specs.ShapeBuilder.{fresh_shape}
use Rattle.facet_shape.specs.declared.shape.Shape.{Shape}
use Rattle.facet_registry.specs.Prelude.{prelude_kinds, scalar_ops, scalar_shape, scalar_shapes, scalar_vtable}
use Rattle.facet_type_name.specs.Name.{bytes_of, full_name, name_pieces}

-- in an empty list there is none of which something holds
none_of : {A : Type 0} (P : A → Type 0) (xs : List A) → xs ≡ [] → Any P xs → ⊥
none_of P xs empty any = let (i, x, under, at, holds) = subst (Any P) empty any in omega (arith, under)

not_true : (b : Bool) → b ≡ false → IsTrue b → ⊥
not_true b is_false is_true = cc

-- a node without an edge is low, and costs what it costs itself
low_alone : (edges : ℕ → List ℕ) (s : ℕ) → edges s ≡ [] → IsWithin edges 100 s
unfolding IsWithin
low_alone edges s empty = subst (All (IsWithin edges 99)) (sym empty) (λ i d under. absurd (omega (arith, under)))

cost_alone : (edges : ℕ → List WeightedEdge) (own : ℕ → ℕ) (s : ℕ) → edges s ≡ [] → cost edges own 100 s ≡ own s + 0
unfolding cost
cost_alone edges own s empty = ap (λ es. own s + sum_by (λ (edge : WeightedEdge). edge.weight * cost edges own 99 edge.node) es) empty

-- what a record has is offered where the same is
implies_self : (b : Bool) → implies b b ≡ true
implies_self true = refl
implies_self false = refl

all_self : (a b : Bool) → a ≡ true → b ≡ true → (a && b) ≡ true
all_self a b is and = ap (λ x. x && b) is ∙ and

no_more_self : (v : VTableDirect) → has_no_more v v ≡ true
no_more_self v =
    λ i. (implies_self v.display i && implies_self v.debug i && implies_self v.parse i && implies_self v.parse_bytes i)
    && (implies_self v.partial_eq i && implies_self v.partial_cmp i && implies_self v.cmp i && implies_self v.hash i)
    && (implies_self v.invariants i && implies_self v.try_from i && implies_self v.try_borrow_inner i)

no_more_operations_self : (o : TypeOpsDirect) → has_no_more_operations o o ≡ true
no_more_operations_self o = λ i. implies_self o.default_in_place i && implies_self o.clone_into i && implies_self o.is_truthy i

none_more : (v : VTableDirect) (o : TypeOpsDirect) → (not (has_no_more v v) || not (has_no_more_operations o o)) ≡ false
none_more v o = λ i. not (no_more_self v i) || not (no_more_operations_self o i)

-- an order comes with a partial one, and that with equality
no_order_alone : (total partial equal : Bool) → (total ≡ true → partial ≡ true) → (partial ≡ true → equal ≡ true) → (((partial || total) && not equal) || (total && not partial)) ≡ false
no_order_alone true true true more most = refl
no_order_alone false true true more most = refl
no_order_alone false false true more most = refl
no_order_alone false false false more most = refl
no_order_alone true false equal more most = absurd (let e = more refl in cc)
no_order_alone total true false more most = absurd (let e = most refl in cc)

-- without discriminants none is outside
none_outside_repr : (r : EnumRepr) → AreOutsideRepr r [] → ⊥
none_outside_repr r (inl any) = none_of (λ z. ¬ IsOfRepr r z) [] refl any
none_outside_repr r (inr many) = omega (arith, many.1)

module _ {L : Type 0} (m : LeafModel L) where
  -- a scalar refers to nothing, and has no parts
  no_references : (id : ℕ) (k : ScalarType) → references (scalar_shape m id k) ≡ []
  unfolding scalar_shape fresh_shape references eager_references height_references part_references other_references
  no_references id scalar.Unit = refl
  no_references id _ = refl

  no_eager_references : (id : ℕ) (k : ScalarType) → eager_references (scalar_shape m id k) ≡ []
  unfolding scalar_shape fresh_shape eager_references height_references part_references
  no_eager_references id scalar.Unit = refl
  no_eager_references id _ = refl

  no_height_references : (id : ℕ) (k : ScalarType) → height_references (scalar_shape m id k) ≡ []
  unfolding scalar_shape fresh_shape height_references part_references
  no_height_references id scalar.Unit = refl
  no_height_references id _ = refl

  no_inline_parts : (shapes : List Shape) (id : ℕ) (k : ScalarType) → inline_parts (element_of shapes (scalar_shape m id k).def) (scalar_shape m id k) ≡ []
  unfolding scalar_shape fresh_shape inline_parts
  no_inline_parts shapes id scalar.Unit = refl
  no_inline_parts shapes id _ = refl

  no_keys : (shapes : List Shape) (id : ℕ) (k : ScalarType) → keys_of shapes (scalar_shape m id k) ≡ []
  unfolding scalar_shape fresh_shape
  no_keys shapes id scalar.Unit = refl
  no_keys shapes id _ = refl

  no_bodies : (shapes : List Shape) (id : ℕ) (k : ScalarType) → bodies (kind_in shapes (scalar_shape m id k)) (scalar_shape m id k).ty ≡ []
  unfolding scalar_shape fresh_shape
  no_bodies shapes id scalar.Unit = refl
  no_bodies shapes id _ = refl

  no_discriminants : (shapes : List Shape) (id : ℕ) (k : ScalarType) → discriminants_of_kind (kind_in shapes (scalar_shape m id k)) (scalar_shape m id k).ty ≡ []
  unfolding scalar_shape fresh_shape
  no_discriminants shapes id scalar.Unit = refl
  no_discriminants shapes id _ = refl

  -- what it says of itself fits together
  not_mismatched : LeafLaws m → (shapes : List Shape) (id : ℕ) (k : ScalarType) → is_mismatched (layout_at shapes) (scalar_shape m id k) ≡ false
  unfolding scalar_shape fresh_shape is_mismatched
  not_mismatched laws shapes id scalar.Unit = refl
  not_mismatched laws shapes id k = no_order_alone (m.can k trait.Ord) (m.can k trait.PartialOrd) (m.can k trait.PartialEq) (laws.ord_can_partial_ord k) (laws.partial_ord_can_partial_eq k)

  -- its layout is that of its kind
  all_sized : (shapes : List Shape) (id : ℕ) (k : ScalarType) → has_unsized_part (layout_at shapes) (element_of shapes (scalar_shape m id k).def) (scalar_shape m id k) ≡ false
  unfolding scalar_shape fresh_shape has_unsized_part parts
  all_sized shapes id scalar.Unit = refl
  all_sized shapes id _ = refl

  good_layout : (shapes : List Shape) (id : ℕ) (k : ScalarType) → has_bad_layout (layout_at shapes) (element_of shapes (scalar_shape m id k).def) (scalar_shape m id k) ≡ false
  unfolding scalar_shape fresh_shape has_bad_layout inline_parts lib.Count.ones
  good_layout shapes id scalar.Unit = refl
  good_layout shapes id _ = refl

  few_bytes : (id : ℕ) (k : ScalarType) → is_too_large (scalar_shape m id k).layout ≡ false
  unfolding scalar_shape fresh_shape
  few_bytes id scalar.Unit = refl
  few_bytes id _ = refl

  short_name : (name : ShapeId → List ℕ) (id : ℕ) (k : ScalarType) → length (bytes_of name (name_pieces true (scalar_shape m id k))) ≤ 6
  unfolding scalar_shape fresh_shape name_pieces
  short_name name id scalar.Unit = omega arith
  short_name name id _ = omega arith

  leaf_has_bytes : (shapes : List Shape) (id : ℕ) (k : ScalarType) → is_leaf_without_bytes (kind_in shapes (scalar_shape m id k)) (scalar_shape m id k).layout ≡ false
  unfolding scalar_shape fresh_shape
  leaf_has_bytes shapes id scalar.Unit = refl
  leaf_has_bytes shapes id _ = refl

  -- it has no fields
  none_outside : (shapes : List Shape) (id : ℕ) (k : ScalarType)
      → has_field_outside (layout_at shapes) (kind_in shapes (scalar_shape m id k)) (scalar_shape m id k).ty (part_layout (scalar_shape m id k).layout).size ≡ false
  unfolding scalar_shape fresh_shape
  none_outside shapes id scalar.Unit = refl
  none_outside shapes id _ = refl

  none_misaligned : (shapes : List Shape) (id : ℕ) (k : ScalarType) → has_field_misaligned (layout_at shapes) (kind_in shapes (scalar_shape m id k)) (scalar_shape m id k).ty ≡ false
  unfolding scalar_shape fresh_shape
  none_misaligned shapes id scalar.Unit = refl
  none_misaligned shapes id _ = refl

  -- it has what is offered for its kind, and nothing else
  all_offered : (shapes : List Shape) (id : ℕ) (k : ScalarType) → has_unoffered_member m (element_of shapes (scalar_shape m id k).def) (scalar_shape m id k) ≡ false
  unfolding scalar_shape fresh_shape has_unoffered_member
  all_offered shapes id scalar.Unit = refl
  all_offered shapes id scalar.Str = refl
  all_offered shapes id k = none_more (scalar_vtable m k) (scalar_ops m k)

  module _ (shapes : List Shape) (s id : ℕ) (k : ScalarType) (here : slice_get shapes s ≡ Some (scalar_shape m id k)) where
    -- no edge leads from it
    inline_none : inline_of shapes s ≡ []
    unfolding inline_of
    inline_none = ap (λ o. option_map_or (λ (t : Shape). inline_parts (element_of shapes t.def) t) o []) here ∙ no_inline_parts shapes id k

    before_none : before_of shapes s ≡ []
    unfolding before_of
    before_none = ap (λ o. option_map_or height_references o []) here ∙ no_height_references id k

    no_inline_edges : inline_at shapes s ≡ []
    no_inline_edges = ap indices inline_none

    no_edges_before : before_at shapes s ≡ []
    no_edges_before = ap indices before_none

    no_repeated_edges : repeated_at shapes s ≡ []
    no_repeated_edges = ap (λ (ids : List ShapeId). map (λ (one : ShapeId). record { node = one.0; weight = repetition_of shapes s }) ids) inline_none

    -- its full name is its identifier
    not_long : HasLongName shapes s → ⊥
    unfolding full_name
    not_long long =
        let name = λ (child : ShapeId). full_name shapes s child in
        let e = ap (λ o. length (option_map_or (λ (t : Shape). bytes_of name (name_pieces true t)) o [])) here in
        omega (arith, long, e, short_name name id k)

    not_large : IsTooLarge shapes s (scalar_shape m id k) → ⊥
    not_large (inl bytes) = not_true (is_too_large (scalar_shape m id k).layout) (few_bytes id k) bytes
    not_large (inr (inl parts)) = omega (arith, parts.1, cost_alone (repeated_at shapes) each_counts s no_repeated_edges)
    not_large (inr (inr (inl long))) = not_long long
    not_large (inr (inr (inr (inl deep)))) = deep (low_alone (inline_at shapes) s no_inline_edges)
    not_large (inr (inr (inr (inr high)))) = high (low_alone (before_at shapes) s no_edges_before)

    -- one clause a cause
    scalar_meets_none : LeafLaws m → (c : SealCause) → ShapeMeets m shapes c s (scalar_shape m id k) → ⊥
    scalar_meets_none laws cause.UnknownShape met = none_of (λ r. length shapes ≤ r.0) (references (scalar_shape m id k)) (no_references id k) met
    scalar_meets_none laws cause.EagerForward met = none_of (λ r. s ≤ r.0) (eager_references (scalar_shape m id k)) (no_eager_references id k) met
    scalar_meets_none laws cause.Mismatch met = not_true (is_mismatched (layout_at shapes) (scalar_shape m id k)) (not_mismatched laws shapes id k) met
    scalar_meets_none laws cause.UnsizedPart met = not_true (has_unsized_part (layout_at shapes) (element_of shapes (scalar_shape m id k).def) (scalar_shape m id k)) (all_sized shapes id k) met
    scalar_meets_none laws cause.InlineCycle met =
        let (i, under, at) = subst (λ es. Contains es met.next) no_inline_edges met.edge in
        omega (arith, under)
    scalar_meets_none laws cause.TooLarge met = not_large met
    scalar_meets_none laws cause.BadLayout met = not_true (has_bad_layout (layout_at shapes) (element_of shapes (scalar_shape m id k).def) (scalar_shape m id k)) (good_layout shapes id k) met
    scalar_meets_none laws cause.FieldOutside met =
        not_true (has_field_outside (layout_at shapes) (kind_in shapes (scalar_shape m id k)) (scalar_shape m id k).ty (part_layout (scalar_shape m id k).layout).size) (none_outside shapes id k) met
    scalar_meets_none laws cause.FieldMisaligned met = not_true (has_field_misaligned (layout_at shapes) (kind_in shapes (scalar_shape m id k)) (scalar_shape m id k).ty) (none_misaligned shapes id k) met
    scalar_meets_none laws cause.FieldOverlap met =
        none_of (λ body. HaveOverlap (spans_of (layout_at shapes) (tag_bytes (kind_in shapes (scalar_shape m id k)) (scalar_shape m id k).ty) body)) (bodies (kind_in shapes (scalar_shape m id k)) (scalar_shape m id k).ty) (no_bodies shapes id k) met
    scalar_meets_none laws cause.ZeroSizedScalar met = not_true (is_leaf_without_bytes (kind_in shapes (scalar_shape m id k)) (scalar_shape m id k).layout) (leaf_has_bytes shapes id k) met
    scalar_meets_none laws cause.DiscriminantRepeated met =
        let again = subst HasRepeat (no_discriminants shapes id k) met in
        omega (arith, again.twice)
    scalar_meets_none laws cause.DiscriminantRange met = none_outside_repr (repr_of_kind (kind_in shapes (scalar_shape m id k)) (scalar_shape m id k).ty) (subst (AreOutsideRepr (repr_of_kind (kind_in shapes (scalar_shape m id k)) (scalar_shape m id k).ty)) (no_discriminants shapes id k) met)
    scalar_meets_none laws cause.KeyNotOrd met = none_of (ReachesBad (parts_at shapes) (lacks_order shapes)) (indices (keys_of shapes (scalar_shape m id k))) (ap indices (no_keys shapes id k)) met
    scalar_meets_none laws cause.CapabilityMissing met = not_true (has_unoffered_member m (element_of shapes (scalar_shape m id k).def) (scalar_shape m id k)) (all_offered shapes id k) met

  -- what is found among scalars is the shape of one
  is_of_scalar : (P : Shape → Type 0) → ((id : ℕ) (k : ScalarType) → P (scalar_shape m id k)) → (id : ℕ) (kinds : List ScalarType) (s : ℕ) (shape : Shape) → slice_get (scalar_shapes m id kinds) s ≡ Some shape → P shape
  is_of_scalar P of id [] zero shape here = absurd (cc)
  is_of_scalar P of id [] (suc s) shape here = absurd (cc)
  is_of_scalar P of id (k ∷ kinds) zero shape here = subst P (let same : scalar_shape m id k ≡ shape = cc in same) (of id k)
  is_of_scalar P of id (k ∷ kinds) (suc s) shape here = is_of_scalar P of (id + 1) kinds s shape here

  found_meets_none : LeafLaws m → (shapes : List Shape) (id : ℕ) (kinds : List ScalarType) (c : SealCause) (s : ℕ) (found : Option Shape)
      → slice_get shapes s ≡ found → slice_get (scalar_shapes m id kinds) s ≡ found → OfShape (ShapeMeets m shapes c s) found → ⊥
  found_meets_none laws shapes id kinds c s None here among met = met
  found_meets_none laws shapes id kinds c s (Some shape) here among met =
      is_of_scalar (λ one. slice_get shapes s ≡ Some one → ShapeMeets m shapes c s one → ⊥) (λ i k at. scalar_meets_none shapes s i k at laws c) id kinds s shape among here met

  pub prelude_well_formed : LeafLaws m → IsWellFormed m (scalar_shapes m 0 prelude_kinds)
  prelude_well_formed laws c s below met =
      let shapes = scalar_shapes m 0 prelude_kinds in
      found_meets_none laws shapes 0 prelude_kinds c s (slice_get shapes s) refl refl met
