-- Values of shapes that meet no cause are small and shallow, and those that begin with an item have a byte for it.
use Rattle.std.proofs.Common.{◌≡◌, ℕ, zero, suc, ◌<◌, ◌≤◌, ◌⊎◌, true, false, List, [], ◌∷◌, All, Contains, Some, length, slice_get, sym, subst, inl, inr, arith}
use Rattle.std.proofs.lemmas.Bool.{cases_lt, false_from_ne_true, false≢true, ltb-true, not-false}
use Rattle.std.proofs.lemmas.List.Elements.{All-cons, All-contains, All-head, All-nil, All-tail}
use Rattle.std.proofs.lemmas.Option.{slice_get_cases}
use Rattle.facet_base.specs.declared.layout.ShapeId.{ShapeId}
use Rattle.facet_base.specs.declared.layout.ShapeLayout.{ShapeLayout}
use Rattle.facet_base.specs.declared.layout.ShapeLayout.TheVariants as layout
use Rattle.facet_causes.specs.Arrangement.{tag_size_of_kind}
use Rattle.facet_causes.specs.Bounds.{HeightFalls, IsBounded, OwnItemHasByte, has_own_item}
use Rattle.facet_causes.specs.Causes.{IsWellFormed}
use Rattle.facet_causes.specs.Reading.{element_of, inline_at, kind_in, layout_at, repeated_at}
use Rattle.facet_causes.specs.TooLarge.{each_counts}
use Rattle.facet_causes.specs.declared.cause.SealCause.TheVariants as cause
use Rattle.facet_causes.proofs.KindsFit.{Fits, fits}
use Rattle.facet_causes.proofs.NoneMet.{each_shape, none_met}
use Rattle.facet_causes.proofs.PartLayouts.{of_kind, same_size, size_few}
use Rattle.facet_causes.proofs.PartsInside.{inside_of}
use Rattle.facet_causes.proofs.Sealed.{unweighted_inline}
use Rattle.facet_def.specs.declared.def.Def.{Def}
use Rattle.facet_desc.specs.declared.repr.EnumRepr.{EnumRepr}
use Rattle.facet_desc.specs.declared.repr.EnumRepr.TheVariants as repr
use Rattle.facet_desc.specs.declared.ty.Ty.{Ty}
use Rattle.facet_desc.specs.declared.ty.Ty.TheVariants as ty
use Rattle.facet_desc.specs.declared.ty.UserType.TheVariants as user
use Rattle.facet_graph.specs.Cost.{cost}
use Rattle.facet_graph.specs.Height.{IsWithin}
use Rattle.facet_leaf.specs.LeafModel.{LeafModel}
use Rattle.facet_outline.specs.BadLayout.{has_bytes, is_leaf_without_bytes, is_no_layout_of_kind}
use Rattle.facet_outline.specs.Discriminant.{tag_width}
use Rattle.facet_outline.specs.Layout.{box_layout, boxed_slice_layout, container_layout, part_layout}
use Rattle.facet_outline.specs.declared.value_kind.ValueKind.{ValueKind}
use Rattle.facet_outline.specs.declared.value_kind.ValueKind.TheVariants as kind
use Rattle.facet_shape.specs.declared.shape.Shape.{Shape}

-- what can be told of each element can be told of all
all_or_not : {X : Type 0} (P : X → Type 0) → ((x : X) → P x ⊎ ¬ P x) → (xs : List X) → All P xs ⊎ ¬ All P xs
all_or_not P each [] = inl (All-nil P)
all_or_not P each (x ∷ xs) = elim (each x) [
  | inl holds ↦ elim (all_or_not P each xs) [
    | inl all ↦ inl (All-cons P x xs holds all)
    | inr none ↦ inr (λ all. none (All-tail P x xs all))
  ]
  | inr fails ↦ inr (λ all. fails (All-head P x xs all))
]

module _ (edges : ℕ → List ℕ) where
  within_or_not : (k s : ℕ) → IsWithin edges k s ⊎ ¬ IsWithin edges k s
  unfolding IsWithin
  within_or_not zero s = inr (λ within. within)
  within_or_not (suc k) s = all_or_not (IsWithin edges k) (within_or_not k) (edges s)

  within_since : (k s : ℕ) → ¬ ¬ IsWithin edges k s → IsWithin edges k s
  within_since k s not_high = elim (within_or_not k s) [ inl within ↦ within | inr high ↦ absurd (not_high high) ]

  one_level_less : (s k part : ℕ) → IsWithin edges (suc k) s → Contains (edges s) part → IsWithin edges k part
  unfolding IsWithin
  one_level_less s k part within among = All-contains (IsWithin edges k) (edges s) part within among

tag_some : (r : EnumRepr) → 1 ≤ tag_width r
tag_some repr.U16 = omega arith
tag_some repr.I16 = omega arith
tag_some _ = omega arith

some_bytes : (l : ShapeLayout) → has_bytes l ≡ true → 0 < (part_layout l).size
some_bytes (layout.Sized l) some = ltb-true 0 l.size some
some_bytes layout.Unsized some = absurd (false≢true some)

own_byte : (layouts : ShapeId → ShapeLayout) (k : ValueKind) (d : Def) (t : Ty) (l : ShapeLayout) → Fits k d t → tag_size_of_kind k t ≤ (part_layout l).size → is_no_layout_of_kind layouts k d l ≡ false → is_leaf_without_bytes k l ≡ false
    → has_own_item k ≡ true → 0 < (part_layout l).size
own_byte layouts (kind.Leaf k) d t l fit tag of bytes own = some_bytes l (not-false (has_bytes l) bytes)
own_byte layouts kind.Option d t l fit tag of bytes own = omega (arith, tag)
own_byte layouts kind.Result d t l fit tag of bytes own = omega (arith, tag)
own_byte layouts kind.Enum d (ty.User (user.Enum e)) l fit tag of bytes own = let some = tag_some e.enum_repr in omega (arith, tag, some)
own_byte layouts kind.Enum d _ l fit tag of bytes own = absurd fit
own_byte layouts kind.List d t l fit tag of bytes own = let is = same_size l container_layout of in omega (arith, is)
own_byte layouts kind.Map d t l fit tag of bytes own = let is = same_size l container_layout of in omega (arith, is)
own_byte layouts kind.Set d t l fit tag of bytes own = let is = same_size l container_layout of in omega (arith, is)
own_byte layouts kind.Box d t l fit tag of bytes own = let is = same_size l box_layout of in omega (arith, is)
own_byte layouts kind.BoxedSlice d t l fit tag of bytes own = let is = same_size l boxed_slice_layout of in omega (arith, is)
own_byte layouts _ d t l fit tag of bytes own = absurd (false≢true own)

module _ {L : Type 0} (m : LeafModel L) (shapes : List Shape) (well : IsWellFormed m shapes) where
  within_of : (s : ℕ) (shape : Shape) → slice_get shapes s ≡ Some shape → IsWithin (inline_at shapes) 100 s
  within_of s shape is = within_since (inline_at shapes) 100 s (λ deep. none_met m shapes well cause.TooLarge s shape is (inr (inr (inr (inl deep)))))

  few_values : (s : ℕ) (shape : Shape) → slice_get shapes s ≡ Some shape → cost (repeated_at shapes) each_counts 100 s ≤ 65536
  few_values s shape is = elim (cases_lt 65536 (cost (repeated_at shapes) each_counts 100 s)) [
    | inl many ↦
        let within = subst (λ edges. IsWithin edges 100 s) (sym (unweighted_inline shapes)) (within_of s shape is) in
        absurd (none_met m shapes well cause.TooLarge s shape is (inr (inl (within, many))))
    | inr few ↦ few
  ]

  found : (s : ℕ) → s < length shapes → (shape : Shape) × (slice_get shapes s ≡ Some shape)
  found s below = elim (slice_get_cases shapes s).1 [ inl at ↦ (at.0, at.2) | inr past ↦ absurd (let behind = past.0 in omega (arith, below, behind)) ]

  -- the values of each shape are few and small
  pub values_are_bounded : (s : ℕ) (shape : Shape) → slice_get shapes s ≡ Some shape → IsBounded shapes s shape
  values_are_bounded s shape is = record { bytes = size_few m shapes well s shape is; values = few_values s shape is }

  -- their parts lie at most 100 levels deep
  pub heights_fall : (s : ℕ) → s < length shapes → HeightFalls shapes s
  heights_fall s below =
      let at = found s below in
      record { most = within_of s at.0 at.1; falls = one_level_less (inline_at shapes) s }

  own_byte_of : (s : ℕ) (shape : Shape) → slice_get shapes s ≡ Some shape → OwnItemHasByte shapes shape
  own_byte_of s shape is =
      own_byte (layout_at shapes) (kind_in shapes shape) shape.def shape.ty shape.layout (fits (element_of shapes shape.def) shape) (inside_of m shapes well s shape is).tag (of_kind m shapes well s shape is)
      (false_from_ne_true (is_leaf_without_bytes (kind_in shapes shape) shape.layout) (none_met m shapes well cause.ZeroSizedScalar s shape is))

  -- where they begin with an item of their own, they have a byte for it
  pub own_items_have_bytes : All (OwnItemHasByte shapes) shapes
  own_items_have_bytes = each_shape shapes (OwnItemHasByte shapes) own_byte_of
