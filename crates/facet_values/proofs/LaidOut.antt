-- The parts of the values of each sealed shape lie inside, apart from each other, and beside the tag.
use Rattle.std.proofs.Common.{◌≡◌, ℕ, zero, suc, ◌+◌, ◌<◌, ◌≤◌, ◌⊎◌, true, false, List, [], ◌∷◌, All, AllPairs, Option, None, Some, get_or, length, map, slice_get, unwrap_or, refl, sym, ap, ◌∙◌, subst, subst₂, inl, inr, arith}
use Rattle.std.specs.Option.{option_map_or}
use Rattle.std.proofs.lemmas.Bool.{and_from, cases_lt, false≢true, le-leb, lt-ltb, true≢false}
use Rattle.std.proofs.lemmas.List.{get_or-map, length-map}
use Rattle.std.proofs.lemmas.List.Elements.{All-cons, All-contains, All-head, All-nil, All-tail}
use Rattle.facet_base.proofs.Lists.{All_at, some_there}
use Rattle.facet_base.specs.ShapeLayout.{size_in_bytes}
use Rattle.facet_base.specs.declared.layout.ShapeId.{ShapeId}
use Rattle.facet_base.specs.declared.layout.ShapeLayout.{ShapeLayout}
use Rattle.facet_base.specs.declared.layout.ShapeLayout.TheVariants as layout
use Rattle.facet_block.specs.Span as block
use Rattle.facet_block.specs.Span.{IsApart, IsBeside, span}
use Rattle.facet_causes.proofs.Bounded.{own_items_have_bytes}
use Rattle.facet_causes.proofs.PartsAligned.{pairs_hold_both}
use Rattle.facet_causes.proofs.PartsApart as apart
use Rattle.facet_causes.proofs.PartsInside as inside
use Rattle.facet_causes.proofs.PartsKnown.{parts_are_sized, placed_are_inline}
use Rattle.facet_causes.specs.Arrangement.{arrangements, part_at, tag_size, tag_size_of_kind}
use Rattle.facet_causes.specs.Bounds as bounds
use Rattle.facet_causes.specs.Bounds.{OwnItemHasByte}
use Rattle.facet_causes.specs.Causes.{IsWellFormed}
use Rattle.facet_causes.specs.KnownParts.{PartsAreSized, PlacedAreInline}
use Rattle.facet_causes.specs.PartPlaces.{PartsAreApart as AreApart, PartsLieInside, ShareNoByte}
use Rattle.facet_causes.specs.Reading.{element_of, kind_in, layout_at}
use Rattle.facet_desc.specs.declared.repr.EnumRepr.{EnumRepr}
use Rattle.facet_desc.specs.declared.repr.EnumRepr.TheVariants as repr
use Rattle.facet_desc.specs.declared.ty.Ty.{Ty}
use Rattle.facet_desc.specs.declared.ty.Ty.TheVariants as ty
use Rattle.facet_desc.specs.declared.ty.UserType.TheVariants as user
use Rattle.facet_graph.specs.Repeats.{has_byte}
use Rattle.facet_graph.specs.declared.overlap.Span.{Span}
use Rattle.facet_leaf.specs.LeafModel.{LeafModel}
use Rattle.facet_outline.specs.Discriminant.{tag_width}
use Rattle.facet_outline.specs.Field.{span_of}
use Rattle.facet_outline.specs.Layout.{pair_layout, part_layout, value_offset}
use Rattle.facet_outline.specs.Part.{parts}
use Rattle.facet_outline.specs.declared.placed_fields.PlacedField.{PlacedField}
use Rattle.facet_outline.specs.declared.value_kind.ValueKind.{ValueKind}
use Rattle.facet_outline.specs.declared.value_kind.ValueKind.TheVariants as kind
use Rattle.facet_outline.proofs.PartReferences.{inline_is_part}
use Rattle.facet_registry.specs.Registry.{size_at}
use Rattle.facet_shape.specs.declared.shape.Shape.{Shape}
use Rattle.facet_trees.specs.Structure.{Structure, no_values, block_body, block_size, body_under, structure_at, structure_of_kind}
use Rattle.facet_values.specs.Laid.{HoldsApart, IsLaidOut, LieApart, LieBesideTag, LiesBehindTag, bodies_of, has_own_item}
use Rattle.facet_values.specs.Reading.{own_span, part_spans}

byte_there : (b : ℕ) (a : Span) → a.offset ≤ b → b < a.offset + a.size → has_byte b a ≡ true
byte_there b a from to = and_from _ _ (le-leb a.offset b from) (lt-ltb b (a.offset + a.size) to)

-- a byte lies before a span, behind it, or in it
beside_or_in : (x : ℕ) (a : Span) → IsBeside x (span a.offset a.size) ⊎ ((a.offset ≤ x) × (x < a.offset + a.size))
beside_or_in x a = elim (cases_lt x a.offset) [
  | inl before ↦ inl (inl before)
  | inr from ↦ elim (cases_lt x (a.offset + a.size)) [ inl to ↦ inr (from, to) | inr behind ↦ inl (inr behind) ]
]

-- spans that share no byte lie apart
lie_apart : (a b : Span) → ShareNoByte a b → IsApart (span a.offset a.size) (span b.offset b.size)
lie_apart a b none x = elim (beside_or_in x a) [
  | inl beside ↦ inl beside
  | inr first ↦ elim (beside_or_in x b) [
    | inl beside ↦ inr beside
    | inr second ↦
        let one = byte_there x a first.0 first.1 in
        let other = byte_there x b second.0 second.1 in
        absurd (true≢false (sym (and_from (has_byte x a) (has_byte x b) one other) ∙ none x))
  ]
]

-- what lies apart from a tag lies apart from its first byte
beside_first : (size : ℕ) (b : block.Span) → 1 ≤ size → IsApart (span 0 size) b → IsApart own_span b
beside_first size b some clear x = elim (clear x) [
  | inl (inl before) ↦ absurd (omega arith)
  | inl (inr behind) ↦ inl (inr (omega (arith, behind, some)))
  | inr beside ↦ inr beside
]

size_same : (l : ShapeLayout) → (part_layout l).size ≡ unwrap_or (size_in_bytes l) 0
size_same (layout.Sized l) = refl
size_same layout.Unsized = refl

size_found : (o : Option Shape) → (part_layout (option_map_or (λ (shape : Shape). shape.layout) o layout.Unsized)).size ≡ option_map_or (λ (shape : Shape). unwrap_or (size_in_bytes shape.layout) 0) o 0
size_found None = refl
size_found (Some shape) = size_same shape.layout

-- a part counts with its size
pub size_there : (shapes : List Shape) (id : ShapeId) → (part_at shapes id).size ≡ size_at shapes id.0
size_there shapes id = size_found (slice_get shapes id.0)

tag_some : (r : EnumRepr) → 1 ≤ tag_width r
tag_some repr.U16 = omega arith
tag_some repr.I16 = omega arith
tag_some _ = omega arith

module _ (shapes : List Shape) where
  none_apart : (size : ℕ) → LieApart shapes size []
  none_apart size = record {
    known = All-nil (λ part. part.shape.0 < length shapes);
    inside = All-nil (λ part. part.offset + size_at shapes part.shape.0 ≤ size);
    apart = λ i j d before within. absurd (omega (arith, within));
  }

  under_tag : (size tag : ℕ) (bodies : List (List PlacedField)) → All (LieApart shapes size) bodies → LieApart shapes size (body_under bodies tag)
  under_tag size tag bodies all = go (slice_get bodies tag) refl
    where
      go : (o : Option (List PlacedField)) → slice_get bodies tag ≡ o → LieApart shapes size (unwrap_or o [])
      go None is = none_apart size
      go (Some body) is = All_at (LieApart shapes size) bodies tag body all is

  -- the key lies before the value
  before_value : (key value offset : ℕ) → key ≤ offset → IsApart (span 0 key) (span offset value)
  before_value key value offset behind x = elim (cases_lt x offset) [ inl before ↦ inr (inl before) | inr from ↦ inl (inr (omega (arith, from, behind))) ]

  two_apart : (a b : block.Span) → IsApart a b → AllPairs IsApart (a ∷ b ∷ [])
  two_apart a b clear zero (suc zero) d before below = clear
  two_apart a b clear zero zero d before below = absurd (omega (arith, before))
  two_apart a b clear zero (suc (suc j)) d before below = absurd (omega (arith, below))
  two_apart a b clear (suc i) j d before below = absurd (omega (arith, before, below))

  one_apart : (a : block.Span) → AllPairs IsApart (a ∷ [])
  one_apart a i j d before below = absurd (omega (arith, before, below))

module _ {L : Type 0} (m : LeafModel L) (shapes : List Shape) (well : IsWellFormed m shapes) where
  -- what lies in a block of a sequence lies apart in it
  block_apart : (ids : List ShapeId) → All (λ id. id.0 < length shapes) ids → LieApart shapes (block_size shapes ids) (block_body shapes ids)
  block_apart [] known = none_apart shapes 0
  block_apart (part ∷ []) known =
      let placed : PlacedField = record { shape = part; offset = 0 } in
      let size = size_there shapes part in
      record {
        known = All-cons (λ (f : PlacedField). f.shape.0 < length shapes) placed [] (All-head (λ id. id.0 < length shapes) part [] known) (All-nil (λ (f : PlacedField). f.shape.0 < length shapes));
        inside = All-cons (λ (f : PlacedField). f.offset + size_at shapes f.shape.0 ≤ block_size shapes (part ∷ [])) placed [] (omega (arith, size)) (All-nil (λ (f : PlacedField). f.offset + size_at shapes f.shape.0 ≤ block_size shapes (part ∷ [])));
        apart = one_apart shapes (span 0 (size_at shapes part.0));
      }
  block_apart (key ∷ value ∷ []) known =
      let first : PlacedField = record { shape = key; offset = 0 } in
      let offset = value_offset (part_at shapes key) (part_at shapes value) in
      let second : PlacedField = record { shape = value; offset = offset } in
      let size = (pair_layout (part_at shapes key) (part_at shapes value)).size in
      let holds = pairs_hold_both m shapes well key value in
      let key_size = size_there shapes key in
      let value_size = size_there shapes value in
      record {
        known = All-cons (λ (f : PlacedField). f.shape.0 < length shapes) first (second ∷ []) (All-head (λ id. id.0 < length shapes) key (value ∷ []) known)
            (All-cons (λ (f : PlacedField). f.shape.0 < length shapes) second [] (All-head (λ id. id.0 < length shapes) value [] (All-tail (λ id. id.0 < length shapes) key (value ∷ []) known)) (All-nil (λ (f : PlacedField). f.shape.0 < length shapes)));
        inside = All-cons (λ (f : PlacedField). f.offset + size_at shapes f.shape.0 ≤ size) first (second ∷ []) (omega (arith, key_size, holds.key_before, holds.value_inside))
            (All-cons (λ (f : PlacedField). f.offset + size_at shapes f.shape.0 ≤ size) second [] (omega (arith, value_size, holds.value_inside)) (All-nil (λ (f : PlacedField). f.offset + size_at shapes f.shape.0 ≤ size)));
        apart = two_apart shapes (span 0 (size_at shapes key.0)) (span offset (size_at shapes value.0)) (before_value shapes (size_at shapes key.0) (size_at shapes value.0) offset (omega (arith, key_size, holds.key_before)));
      }
  block_apart (a ∷ b ∷ c ∷ ids) known = none_apart shapes 0

  module _ (s : ℕ) (shape : Shape) (found : slice_get shapes s ≡ Some shape) where
    own_size : (part_layout shape.layout).size ≡ size_at shapes s
    own_size = size_same shape.layout ∙ ap (λ o. option_map_or (λ (shape : Shape). unwrap_or (size_in_bytes shape.layout) 0) o 0) (sym found)

    parts_known : All (λ id. id.0 < length shapes) (parts (element_of shapes shape.def) shape)
    parts_known = (All_at (PartsAreSized shapes) shapes s shape (parts_are_sized m shapes well) found).known

    share_none : AreApart shapes shape
    share_none = All_at (AreApart shapes) shapes s shape (apart.parts_are_apart m shapes well) found

    abbrev own_tag : Span
    own_tag = record { offset = 0; size = tag_size shapes shape }

    module _ (i : ℕ) (ps : List PlacedField) (under : i < length (arrangements shapes shape)) where
      abbrev these : List PlacedField
      these = get_or (arrangements shapes shape) i ps

      -- the bytes of a part among those that lie side by side
      part_span : (j : ℕ) (d : block.Span) (part : PlacedField) → j < length these → get_or (part_spans shapes these) j d ≡ span (get_or these j part).offset (size_at shapes (get_or these j part).shape.0)
      part_span j d part within = get_or-map (λ part. span part.offset (size_at shapes part.shape.0)) these j part d within

      sized_span : (j : ℕ) (part : PlacedField) → j < length these → get_or (map (span_of (layout_at shapes)) these) j own_tag ≡ span_of (layout_at shapes) (get_or these j part)
      sized_span j part within = get_or-map (span_of (layout_at shapes)) these j part own_tag within

      apart_at : (j k : ℕ) (d : block.Span) (part : PlacedField) → j < k → k < length these → IsApart (get_or (part_spans shapes these) j d) (get_or (part_spans shapes these) k d)
      apart_at j k d part before within =
          let spans = span_of (layout_at shapes) in
          let one = get_or these j part in
          let other = get_or these k part in
          let none = share_none i ps under (suc j) (suc k) own_tag (omega (arith, before)) (omega (arith, within, length-map these spans)) in
          let none_of_two = subst₂ ShareNoByte (sized_span j part (omega (arith, before, within))) (sized_span k part within) none in
          let clear = subst₂ (λ n o. IsApart (span one.offset n) (span other.offset o)) (size_there shapes one.shape) (size_there shapes other.shape) (lie_apart (spans one) (spans other) none_of_two) in
          subst₂ IsApart (sym (part_span j d part (omega (arith, before, within)))) (sym (part_span k d part within)) clear

      some_part : (k : ℕ) → k < length these → PlacedField
      some_part k within = go these within
        where
          go : (body : List PlacedField) → k < length body → PlacedField
          go [] none = absurd (omega arith)
          go (part ∷ body) some = part

      those_apart : AllPairs IsApart (part_spans shapes these)
      those_apart j k d before within =
          let below : k < length these = omega (arith, within, length-map these (λ (part : PlacedField). span part.offset (size_at shapes part.shape.0))) in
          apart_at j k d (some_part k below) before below

    arranged : All (LieApart shapes (size_at shapes s)) (arrangements shapes shape)
    arranged i ps under = record {
      known = λ j part within.
          let among = All_at (PlacedAreInline shapes) shapes s shape (placed_are_inline shapes) found i ps under j part within in
          let element = element_of shapes shape.def in
          let id = (get_or (these i ps under) j part).shape in
          All-contains (λ id. id.0 < length shapes) (parts element shape) id parts_known (inline_is_part element shape id among);
      inside = λ j part within.
          let ends = (All_at (PartsLieInside shapes) shapes s shape (inside.parts_lie_inside m shapes well) found).parts i ps under j part within in
          let same = size_there shapes (get_or (these i ps under) j part).shape in
          omega (arith, ends, same, own_size);
      apart = those_apart i ps under;
    }

    beside_tag : 1 ≤ tag_size shapes shape → All (LieBesideTag shapes) (arrangements shapes shape)
    beside_tag some i ps under j part within =
        let spans = span_of (layout_at shapes) in
        let those = these i ps under in
        let one = get_or those j part in
        let none = share_none i ps under 0 (suc j) own_tag (omega arith) (omega (arith, within, length-map those spans)) in
        let none_of_two = subst (ShareNoByte own_tag) (sized_span i ps under j part within) none in
        let clear = subst (λ n. IsApart (span 0 (tag_size shapes shape)) (span one.offset n)) (size_there shapes one.shape) (lie_apart own_tag (spans one) none_of_two) in
        beside_first (tag_size shapes shape) (span one.offset (size_at shapes one.shape.0)) some clear

    own_byte : bounds.has_own_item (kind_in shapes shape) ≡ true → 0 < size_at shapes s
    own_byte has = omega (arith, All_at (OwnItemHasByte shapes) shapes s shape (own_items_have_bytes m shapes well) found has, own_size)

    -- what holds of a structure of the shape
    record IsLaidBy (t : Structure) : Type 0 where
      own : has_own_item t ≡ true → 0 < size_at shapes s
      bodies : All (LieApart shapes (size_at shapes s)) (bodies_of t)
      beside : LiesBehindTag shapes t
      blocks : HoldsApart shapes t

    plain_laid : (body : List PlacedField) → LieApart shapes (size_at shapes s) body → All (LieApart shapes (size_at shapes s)) (body ∷ [])
    plain_laid body apart = All-cons (LieApart shapes (size_at shapes s)) body [] apart (All-nil (LieApart shapes (size_at shapes s)))

    nothing_own : {P : Type 0} → false ≡ true → P
    nothing_own is = absurd (false≢true is)

    enum_beside : (t : Ty) → shape.ty ≡ t → kind_in shapes shape ≡ kind.Enum → All (LieBesideTag shapes) (arrangements shapes shape)
    unfolding arrangements
    enum_beside (ty.User (user.Enum e)) is of = beside_tag (subst (λ t. 1 ≤ tag_size_of_kind (kind_in shapes shape) t) (sym is) (subst (λ k. 1 ≤ tag_size_of_kind k (ty.User (user.Enum e))) (sym of) (tag_some e.enum_repr)))
    enum_beside t is of = rw (of, is) (All-nil (LieBesideTag shapes))

    of_kind : (k : ValueKind) → kind_in shapes shape ≡ k → IsLaidBy (structure_of_kind shapes k shape)
    of_kind kind.Unit is = record { own = nothing_own; bodies = plain_laid [] (none_apart shapes (size_at shapes s)); beside = tt; blocks = tt }
    of_kind (kind.Leaf k) is = record { own = λ has. own_byte (ap bounds.has_own_item is); bodies = All-nil (LieApart shapes (size_at shapes s)); beside = tt; blocks = tt }
    of_kind kind.Struct is = record { own = nothing_own; bodies = plain_laid _ (under_tag shapes (size_at shapes s) 0 (arrangements shapes shape) arranged); beside = tt; blocks = tt }
    of_kind kind.Array is = record { own = nothing_own; bodies = plain_laid _ (under_tag shapes (size_at shapes s) 0 (arrangements shapes shape) arranged); beside = tt; blocks = tt }
    of_kind kind.Enum is = record { own = λ has. own_byte (ap bounds.has_own_item is); bodies = arranged; beside = enum_beside shape.ty refl is; blocks = tt }
    of_kind kind.Option is = record { own = λ has. own_byte (ap bounds.has_own_item is); bodies = arranged; beside = beside_tag (rw is (omega arith)); blocks = tt }
    of_kind kind.Result is = record { own = λ has. own_byte (ap bounds.has_own_item is); bodies = arranged; beside = beside_tag (rw is (omega arith)); blocks = tt }
    of_kind kind.NoValue is = record { own = nothing_own; bodies = All-nil (LieApart shapes (size_at shapes s)); beside = tt; blocks = tt }
    of_kind kind.List is = record { own = λ has. own_byte (ap bounds.has_own_item is); bodies = All-nil (LieApart shapes (size_at shapes s)); beside = tt; blocks = block_apart _ parts_known }
    of_kind kind.BoxedSlice is = record { own = λ has. own_byte (ap bounds.has_own_item is); bodies = All-nil (LieApart shapes (size_at shapes s)); beside = tt; blocks = block_apart _ parts_known }
    of_kind kind.Map is = record { own = λ has. own_byte (ap bounds.has_own_item is); bodies = All-nil (LieApart shapes (size_at shapes s)); beside = tt; blocks = block_apart _ parts_known }
    of_kind kind.Set is = record { own = λ has. own_byte (ap bounds.has_own_item is); bodies = All-nil (LieApart shapes (size_at shapes s)); beside = tt; blocks = block_apart _ parts_known }
    of_kind kind.Box is = record { own = λ has. own_byte (ap bounds.has_own_item is); bodies = All-nil (LieApart shapes (size_at shapes s)); beside = tt; blocks = block_apart _ parts_known }

  -- the shape under an id that is there
  pub laid_out : (s : ℕ) → s < length shapes → IsLaidOut shapes s
  unfolding structure_at
  laid_out s below = go (slice_get shapes s) refl
    where
      go : (o : Option Shape) → slice_get shapes s ≡ o → IsLaidOut shapes s
      go None is = absurd (some_there shapes s below (sym is))
      go (Some shape) is =
          let by = ap (λ o. option_map_or (λ shape. structure_of_kind shapes (kind_in shapes shape) shape) o no_values) is in
          let laid = subst (IsLaidBy s shape is) (sym by) (of_kind s shape is (kind_in shapes shape) refl) in
          record { own = laid.own; bodies = laid.bodies; beside = laid.beside; blocks = laid.blocks }
