-- What a shape at the front of a longer list meets there, it meets without the others.
use Rattle.std.proofs.Common.{◌≡◌, ℕ, suc, ◌<◌, ◌≤◌, List, [], ◌∷◌, All, Any, IsTrue, Option, None, Some, get_or, length, map, slice_get, refl, sym, ap, ◌∙◌, subst, inl, inr, arith}
use Rattle.std.specs.Option.{option_to_list}
use Rattle.std.proofs.lemmas.Bool.{cases_lt}
use Rattle.std.proofs.lemmas.List.{get_or_default}
use Rattle.std.proofs.lemmas.List.Elements.{All-contains, All-map}
use Rattle.std.proofs.lemmas.Option.{slice_get_within}
use Rattle.facet_base.specs.declared.layout.ShapeId.{ShapeId}
use Rattle.facet_causes.specs.Causes.{IsWellFormed, Meets, ShapeMeets}
use Rattle.facet_causes.specs.First.{NoneOfFirst}
use Rattle.facet_causes.specs.Reading.{OfShape, before_at, element_of, indices, inline_at, inline_of, kind_in, lacks_order, layout_at, named_at, own_name_bytes_of, parts_at, repeated_at, repetition_of}
use Rattle.facet_causes.specs.TooLarge.{IsTooLarge, each_counts}
use Rattle.facet_causes.specs.declared.cause.SealCause.{SealCause}
use Rattle.facet_causes.specs.declared.cause.SealCause.TheVariants as cause
use Rattle.facet_causes.proofs.Agree.{all_bodies, all_by, all_placed, bad_layout_agree, mismatched_agree, misaligned_agree, outside_agree, spans_agree, unsized_agree}
use Rattle.facet_causes.proofs.Front.{AreKnown, before_same, before_stays, def_parts_front, element_same, fields_front, inline_front, inline_same, inline_stays, key_is_part, kind_same, lacks_order_same, layout_same, named_same, own_name_same, parts_front, parts_same, parts_stay, repeated_same}
use Rattle.facet_causes.proofs.NameLengths.{cost_is_length, named_stays}
use Rattle.facet_graph.specs.Cost.{unweighted}
use Rattle.facet_graph.specs.Reach.{ReachesBad, StaysWithin}
use Rattle.facet_graph.specs.Repeats.{HasRepeat, HaveOverlap}
use Rattle.facet_graph.specs.declared.graph.WeightedEdge.{WeightedEdge}
use Rattle.facet_graph.proofs.Carried.{cost_same, reaches_bad_same, reaches_itself_same, stays_same, too_costly_same, too_high_same}
use Rattle.facet_leaf.specs.LeafModel.{LeafModel}
use Rattle.facet_outline.specs.BadLayout.{has_bad_layout, has_unsized_part, is_leaf_without_bytes}
use Rattle.facet_outline.specs.Discriminant.{HasDiscriminantOutside, discriminants_of_kind}
use Rattle.facet_outline.specs.Field.{bodies, has_field_misaligned, has_field_outside, spans_of, tag_bytes}
use Rattle.facet_outline.specs.Layout.{part_layout}
use Rattle.facet_outline.specs.Offered.{has_unoffered_member}
use Rattle.facet_outline.specs.Part.{key_of_kind}
use Rattle.facet_outline.specs.References.{parts_of_def, references}
use Rattle.facet_shape.specs.declared.shape.Shape.{Shape}

-- the weighted edges lead where the others do
nodes_of : (weight : ℕ) (ids : List ShapeId) → map (λ (e : WeightedEdge). e.node) (map (λ (id : ShapeId). record { node = id.0; weight = weight }) ids) ≡ indices ids
nodes_of weight [] = refl
nodes_of weight (id ∷ ids) = ap (λ ns. id.0 ∷ ns) (nodes_of weight ids)

pub unweighted_inline : (xs : List Shape) → unweighted (repeated_at xs) ≡ inline_at xs
unweighted_inline xs = λ i s. nodes_of (repetition_of xs s) (inline_of xs s) i

-- where no shape has an unknown reference, they are known
pub known_by : {L : Type 0} (m : LeafModel L) (xs : List Shape) → ((s : ℕ) → s < length xs → ¬ Meets m xs cause.UnknownShape s) → AreKnown xs
known_by m xs none s shape is i d under = elim (cases_lt (get_or (references shape) i d).0 (length xs)) [
  | inl below ↦ below
  | inr above ↦ absurd (none s (slice_get_within xs s shape is) (subst (OfShape (ShapeMeets m xs cause.UnknownShape s)) (sym is)
      (i, get_or (references shape) i d, under, get_or_default (references shape) i (get_or (references shape) i d) d under, above)))
]

module _ {L : Type 0} (m : LeafModel L) (xs ys : List Shape) (longer : length xs ≤ length ys) (same : (s : ℕ) → s < length xs → slice_get ys s ≡ slice_get xs s) (known : AreKnown xs) where
  -- edges in the longer list lead to the front too, and are the same
  inline_back : StaysWithin (inline_at ys) (length xs)
  inline_back = stays_same (inline_at xs) (inline_at ys) (length xs) (inline_stays xs ys longer same known) (inline_same xs ys longer same known)

  parts_back : StaysWithin (parts_at ys) (length xs)
  parts_back = stays_same (parts_at xs) (parts_at ys) (length xs) (parts_stay xs ys longer same known) (parts_same xs ys longer same known)

  before_back : StaysWithin (before_at ys) (length xs)
  before_back = stays_same (before_at xs) (before_at ys) (length xs) (before_stays xs ys longer same known) (before_same xs ys longer same known)

  repeated_back : StaysWithin (unweighted (repeated_at ys)) (length xs)
  repeated_back = subst (λ edges. StaysWithin edges (length xs)) (sym (unweighted_inline ys)) inline_back

  large_front : (s : ℕ) (shape : Shape) → s < length xs → IsTooLarge ys s shape → IsTooLarge xs s shape
  large_front s shape below (inl bytes) = inl bytes
  large_front s shape below (inr (inl parts)) =
      inr (inl (too_costly_same (repeated_at ys) (repeated_at xs) each_counts each_counts (length xs) repeated_back (λ t under. sym (repeated_same xs ys longer same known t under)) (λ t under. refl) s below parts))
  large_front s shape below (inr (inr (inl long))) =
      let id : ShapeId = record { 0 = s } in
      let same_cost = cost_same (named_at ys) (named_at xs) (own_name_bytes_of ys) (own_name_bytes_of xs) (length xs) (named_stays ys (length xs) before_back) (λ t under. sym (named_same xs ys longer same known t under)) (λ t under. sym (own_name_same xs ys longer same known t under)) (suc s) s below in
      inr (inr (inl (subst (λ n. 65536 < n) (sym (cost_is_length ys (suc s) id) ∙ same_cost ∙ cost_is_length xs (suc s) id) long)))
  large_front s shape below (inr (inr (inr (inl deep)))) =
      inr (inr (inr (inl (too_high_same (inline_at ys) (inline_at xs) (length xs) inline_back (λ t under. sym (inline_same xs ys longer same known t under)) s below deep))))
  large_front s shape below (inr (inr (inr (inr high)))) =
      inr (inr (inr (inr (too_high_same (before_at ys) (before_at xs) (length xs) before_back (λ t under. sym (before_same xs ys longer same known t under)) s below high))))

  -- one clause a cause
  shape_meets_front : (c : SealCause) (s : ℕ) (shape : Shape) → slice_get xs s ≡ Some shape → ShapeMeets m ys c s shape → ShapeMeets m xs c s shape
  shape_meets_front cause.UnknownShape s shape is (i, id, under, at, above) = (i, id, under, at, omega (arith, above, longer))
  shape_meets_front cause.EagerForward s shape is met = met
  shape_meets_front cause.Mismatch s shape is met =
      subst IsTrue (mismatched_agree (layout_at ys) (layout_at xs) (λ id. id.0 < length xs) (layout_same xs ys longer same known) shape (def_parts_front xs ys longer same known s shape is)) met
  shape_meets_front cause.UnsizedPart s shape is met =
      subst IsTrue (ap (λ e. has_unsized_part (layout_at ys) e shape) (element_same xs ys longer same known s shape is)
      ∙ unsized_agree (layout_at ys) (layout_at xs) (λ id. id.0 < length xs) (layout_same xs ys longer same known) (element_of xs shape.def) shape (parts_front xs ys longer same known s shape is)) met
  shape_meets_front cause.InlineCycle s shape is met =
      reaches_itself_same (inline_at ys) (inline_at xs) (length xs) inline_back (λ t under. sym (inline_same xs ys longer same known t under)) s (slice_get_within xs s shape is) met
  shape_meets_front cause.TooLarge s shape is met = large_front s shape (slice_get_within xs s shape is) met
  shape_meets_front cause.BadLayout s shape is met =
      subst IsTrue (ap (λ e. has_bad_layout (layout_at ys) e shape) (element_same xs ys longer same known s shape is)
      ∙ bad_layout_agree (layout_at ys) (layout_at xs) (λ id. id.0 < length xs) (layout_same xs ys longer same known) (element_of xs shape.def) shape (def_parts_front xs ys longer same known s shape is) (inline_front xs ys longer same known s shape is)) met
  shape_meets_front cause.FieldOutside s shape is met =
      let size = (part_layout shape.layout).size in
      subst IsTrue (ap (λ k. has_field_outside (layout_at ys) k shape.ty size) (kind_same xs ys longer same known s shape is)
      ∙ outside_agree (layout_at ys) (layout_at xs) (λ id. id.0 < length xs) (layout_same xs ys longer same known) (kind_in xs shape) shape.ty size (all_placed (λ id. id.0 < length xs) (kind_in xs shape) shape.ty (fields_front xs ys longer same known s shape is))) met
  shape_meets_front cause.FieldMisaligned s shape is met =
      subst IsTrue (ap (λ k. has_field_misaligned (layout_at ys) k shape.ty) (kind_same xs ys longer same known s shape is)
      ∙ misaligned_agree (layout_at ys) (layout_at xs) (λ id. id.0 < length xs) (layout_same xs ys longer same known) (kind_in xs shape) shape.ty (all_placed (λ id. id.0 < length xs) (kind_in xs shape) shape.ty (fields_front xs ys longer same known s shape is))) met
  shape_meets_front cause.FieldOverlap s shape is met = there (subst (λ k. Any (λ body. HaveOverlap (spans_of (layout_at ys) (tag_bytes k shape.ty) body)) (bodies k shape.ty)) (kind_same xs ys longer same known s shape is) met)
    where
      there : Any (λ body. HaveOverlap (spans_of (layout_at ys) (tag_bytes (kind_in xs shape) shape.ty) body)) (bodies (kind_in xs shape) shape.ty)
          → Any (λ body. HaveOverlap (spans_of (layout_at xs) (tag_bytes (kind_in xs shape) shape.ty) body)) (bodies (kind_in xs shape) shape.ty)
      there (i, body, under, at, over) =
          let front = All-contains (λ body. All (λ f. f.shape.0 < length xs) body) (bodies (kind_in xs shape) shape.ty) body (all_bodies (λ id. id.0 < length xs) (kind_in xs shape) shape.ty (fields_front xs ys longer same known s shape is)) (i, under, at) in
          (i, body, under, at, subst HaveOverlap (spans_agree (layout_at ys) (layout_at xs) (λ id. id.0 < length xs) (layout_same xs ys longer same known) (tag_bytes (kind_in xs shape) shape.ty) body front) over)
  shape_meets_front cause.ZeroSizedScalar s shape is met = subst (λ k. IsTrue (is_leaf_without_bytes k shape.layout)) (kind_same xs ys longer same known s shape is) met
  shape_meets_front cause.DiscriminantRepeated s shape is met = subst (λ k. HasRepeat (discriminants_of_kind k shape.ty)) (kind_same xs ys longer same known s shape is) met
  shape_meets_front cause.DiscriminantRange s shape is met = subst (λ k. HasDiscriminantOutside k shape.ty) (kind_same xs ys longer same known s shape is) met
  shape_meets_front cause.KeyNotOrd s shape is met = there (subst (λ k. Any (ReachesBad (parts_at ys) (lacks_order ys)) (indices (option_to_list (key_of_kind k shape.def)))) (kind_same xs ys longer same known s shape is) met)
    where
      keys_front : All (λ id. id.0 < length xs) (option_to_list (key_of_kind (kind_in xs shape) shape.def))
      keys_front = all_by (λ id. id.0 < length xs) (option_to_list (key_of_kind (kind_in xs shape) shape.def))
          (λ id among. All-contains (λ id. id.0 < length xs) (parts_of_def shape.def) id (def_parts_front xs ys longer same known s shape is) (key_is_part (kind_in xs shape) shape.def id among))

      there : Any (ReachesBad (parts_at ys) (lacks_order ys)) (indices (option_to_list (key_of_kind (kind_in xs shape) shape.def))) → Any (ReachesBad (parts_at xs) (lacks_order xs)) (indices (option_to_list (key_of_kind (kind_in xs shape) shape.def)))
      there (i, t, under, at, bad) =
          let low = All-contains (λ u. u < length xs) (indices (option_to_list (key_of_kind (kind_in xs shape) shape.def))) t (All-map (λ u. u < length xs) (λ id. id.0) (option_to_list (key_of_kind (kind_in xs shape) shape.def)) keys_front) (i, under, at) in
          (i, t, under, at, reaches_bad_same (parts_at ys) (parts_at xs) (length xs) parts_back (λ u low. sym (parts_same xs ys longer same known u low)) (lacks_order ys) (lacks_order xs) (λ u low. sym (lacks_order_same xs ys longer same known u low)) t low bad)
  shape_meets_front cause.CapabilityMissing s shape is met = subst (λ e. IsTrue (has_unoffered_member m e shape)) (element_same xs ys longer same known s shape is) met

  pub meets_front : (c : SealCause) (s : ℕ) → s < length xs → Meets m ys c s → Meets m xs c s
  meets_front c s below met = go (slice_get xs s) refl (subst (OfShape (ShapeMeets m ys c s)) (same s below) met)
    where
      go : (o : Option Shape) → slice_get xs s ≡ o → OfShape (ShapeMeets m ys c s) o → OfShape (ShapeMeets m xs c s) o
      go None is met = met
      go (Some shape) is met = shape_meets_front c s shape is met

-- shapes that are well formed meet no cause among further ones either
pub front_meets_none : {L : Type 0} (m : LeafModel L) (xs ys : List Shape) → length xs ≤ length ys → ((s : ℕ) → s < length xs → slice_get ys s ≡ slice_get xs s) → IsWellFormed m xs → NoneOfFirst m ys (length xs)
front_meets_none m xs ys longer same well c s below met =
    well c s below (meets_front m xs ys longer same (known_by m xs (well cause.UnknownShape)) c s below met)
