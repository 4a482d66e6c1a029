-- The tag and the inline parts of a value lie inside it.
use Rattle.std.proofs.Common.{◌≡◌, ℕ, suc, ◌+◌, ◌*◌, ◌<◌, ◌≤◌, false, nat_lt, max, min, List, [], ◌∷◌, ◌++◌, All, Option, Some, map, slice_get, sym, subst, arith, mul-le-mul_right}
use Rattle.std.specs.List.{flat_map, list_any}
use Rattle.std.proofs.lemmas.Bool.{ltb-false, or_parts, false_from_ne_true}
use Rattle.std.proofs.lemmas.List.Elements.{All-contains, All-cons, All-nil, Contains-append_left}
use Rattle.std.proofs.lemmas.List.FromFn.{get_or-map-range_with_len, length-map-range_with_len}
use Rattle.facet_base.specs.declared.layout.Layout.{Layout}
use Rattle.facet_base.specs.declared.layout.ShapeId.{ShapeId}
use Rattle.facet_base.specs.declared.layout.ShapeLayout.{ShapeLayout}
use Rattle.facet_causes.specs.Arrangement.{arrangements, arrangements_of_kind, in_a_row, single, tag_size_of_kind}
use Rattle.facet_causes.specs.Causes.{IsWellFormed}
use Rattle.facet_causes.specs.PartPlaces.{PartsLieInside}
use Rattle.facet_causes.specs.Reading.{element_of, kind_in, layout_at}
use Rattle.facet_causes.specs.declared.cause.SealCause.TheVariants as cause
use Rattle.facet_causes.proofs.Agree.{all_by, all_right, all_to}
use Rattle.facet_causes.proofs.KindsFit.{Fits, fits}
use Rattle.facet_causes.proofs.NoneMet.{each_shape, fails_of_each, none_met}
use Rattle.facet_causes.proofs.PartLayouts.{align_some, of_kind, rounded_few, same_size, size_few}
use Rattle.facet_def.specs.declared.def.Def.{Def}
use Rattle.facet_def.specs.declared.def.Def.TheVariants as def
use Rattle.facet_desc.specs.declared.ty.Ty.{Ty}
use Rattle.facet_desc.specs.declared.ty.Ty.TheVariants as ty
use Rattle.facet_desc.specs.declared.ty.UserType.TheVariants as user
use Rattle.facet_leaf.specs.LeafModel.{LeafModel}
use Rattle.facet_outline.specs.BadLayout.{is_no_layout_of_kind}
use Rattle.facet_outline.specs.Field.{bodies, ends_behind, has_field_outside, placed, placed_fields, tag_bytes}
use Rattle.facet_outline.specs.Layout.{array_layout, option_layout, part_layout, result_layout}
use Rattle.facet_outline.specs.declared.placed_fields.PlacedField.{PlacedField}
use Rattle.facet_outline.specs.declared.value_kind.ValueKind.{ValueKind}
use Rattle.facet_outline.specs.declared.value_kind.ValueKind.TheVariants as kind
use Rattle.facet_shape.specs.declared.shape.Shape.{Shape}

-- what holds of all elements of some lists, one behind another, holds of the elements of each
all_of_each : {X Y : Type 0} (P : Y → Type 0) (f : X → List Y) (xs : List X) → All P (flat_map f xs) → All (All P) (map f xs)
all_of_each P f [] all = All-nil (All P)
all_of_each P f (x ∷ xs) all =
    All-cons (All P) (f x) (map f xs)
    (all_by P (f x) (λ y among. All-contains P (f x ++ flat_map f xs) y all (Contains-append_left (f x) (flat_map f xs) y among)))
    (all_of_each P f xs (all_right P (f x) (flat_map f xs) all))

-- what holds of all fields holds of those that lie side by side
pub all_of_bodies : (P : PlacedField → Type 0) (k : ValueKind) (t : Ty) → All P (placed_fields k t) → All (All P) (bodies k t)
all_of_bodies P kind.Struct (ty.User (user.Struct s)) all = All-cons (All P) (placed s) [] all (All-nil (All P))
all_of_bodies P kind.Enum (ty.User (user.Enum e)) all = all_of_each P (λ v. placed v.body) e.variants.items all
all_of_bodies P kind.Struct _ all = All-nil (All P)
all_of_bodies P kind.Enum _ all = All-nil (All P)
all_of_bodies P _ t all = All-nil (All P)

-- two lists of parts
pub all_of_two : (P : List PlacedField → Type 0) (one other : List PlacedField) → P one → P other → All P (one ∷ other ∷ [])
all_of_two P one other first second = All-cons P one (other ∷ []) first (All-cons P other [] second (All-nil P))

pub all_of_one : {X : Type 0} (P : X → Type 0) (x : X) → P x → All P (x ∷ [])
all_of_one P x holds = All-cons P x [] holds (All-nil P)

-- what holds of a part at each multiple of the size holds of parts in a row
pub all_in_a_row : (P : PlacedField → Type 0) (id : ShapeId) (n size : ℕ) → ((i : ℕ) → i < n → P (record { shape = id; offset = i * size })) → All P (in_a_row id n size)
all_in_a_row P id n size each i d below =
    let place : ℕ → PlacedField = λ j. record { shape = id; offset = j * size } in
    let under : i < n = omega (arith, below, length-map-range_with_len place 0 n) in
    subst P (sym (get_or-map-range_with_len place 0 n i i d under (omega arith))) (each i under)

-- the part of an option, and the greater part of a result, end within its size
pub option_ends : (l : ShapeLayout) (p : Layout) → (part_layout l).size ≡ (option_layout p).size → (part_layout l).size ≤ 65536 → p.align + p.size ≤ (part_layout l).size
option_ends l p is few = rounded_few (p.align + p.size) p.align (part_layout l).size is few

pub result_ends : (l : ShapeLayout) (p e : Layout) → (part_layout l).size ≡ (result_layout p e).size → (part_layout l).size ≤ 65536 → max p.align e.align + max p.size e.size ≤ (part_layout l).size
result_ends l p e is few = rounded_few (max p.align e.align + max p.size e.size) (max p.align e.align) (part_layout l).size is few

suc_below : (i n : ℕ) → i < n → suc i ≤ n
suc_below i n below = omega (arith, below)

module _ (layouts : ShapeId → ShapeLayout) where
  abbrev Ends : ℕ → PlacedField → Type 0
  Ends size part = part.offset + (part_layout (layouts part.shape)).size ≤ size

  tag_ends : (k : ValueKind) (d : Def) (t : Ty) (l : ShapeLayout) → Fits k d t → has_field_outside layouts k t (part_layout l).size ≡ false → is_no_layout_of_kind layouts k d l ≡ false → (part_layout l).size ≤ 65536
      → tag_size_of_kind k t ≤ (part_layout l).size
  tag_ends kind.Option (def.Option o) t l fit outside of few =
      let p = part_layout (layouts o.t) in
      let ends = option_ends l p (same_size l (option_layout p) of) few in
      let some = align_some (layouts o.t) in
      omega (arith, ends, some)
  tag_ends kind.Result (def.Result r) t l fit outside of few =
      let p = part_layout (layouts r.t) in
      let e = part_layout (layouts r.e) in
      let ends = result_ends l p e (same_size l (result_layout p e) of) few in
      let some = align_some (layouts r.t) in
      omega (arith, ends, some)
  tag_ends kind.Option _ t l fit outside of few = absurd fit
  tag_ends kind.Result _ t l fit outside of few = absurd fit
  tag_ends k d t l fit outside of few = ltb-false (part_layout l).size (tag_bytes k t) (or_parts (list_any (ends_behind layouts (part_layout l).size) (placed_fields k t)) (nat_lt (part_layout l).size (tag_bytes k t)) outside).1

  fields_end : (k : ValueKind) (t : Ty) (size : ℕ) → has_field_outside layouts k t size ≡ false → All (All (Ends size)) (bodies k t)
  fields_end k t size outside =
      let none = fails_of_each (ends_behind layouts size) (placed_fields k t) (or_parts (list_any (ends_behind layouts size) (placed_fields k t)) (nat_lt size (tag_bytes k t)) outside).0 in
      all_of_bodies (Ends size) k t (all_to (λ f. ends_behind layouts size f ≡ false) (Ends size) (λ f not_behind. ltb-false size (f.offset + (part_layout (layouts f.shape)).size) not_behind) (placed_fields k t) none)

  parts_end : (k : ValueKind) (d : Def) (t : Ty) (l : ShapeLayout) → has_field_outside layouts k t (part_layout l).size ≡ false → is_no_layout_of_kind layouts k d l ≡ false → (part_layout l).size ≤ 65536
      → All (All (Ends (part_layout l).size)) (arrangements_of_kind layouts k d t)
  parts_end kind.Option (def.Option o) t l outside of few =
      let p = part_layout (layouts o.t) in
      let ends = option_ends l p (same_size l (option_layout p) of) few in
      all_of_two (All (Ends (part_layout l).size)) [] (single o.t (min p.align 4294967295)) (All-nil (Ends (part_layout l).size)) (all_of_one (Ends (part_layout l).size) (record { shape = o.t; offset = min p.align 4294967295 }) (omega (arith, ends)))
  parts_end kind.Result (def.Result r) t l outside of few =
      let p = part_layout (layouts r.t) in
      let e = part_layout (layouts r.e) in
      let offset = min (max p.align e.align) 4294967295 in
      let ends = result_ends l p e (same_size l (result_layout p e) of) few in
      all_of_two (All (Ends (part_layout l).size)) (single r.t offset) (single r.e offset)
      (all_of_one (Ends (part_layout l).size) (record { shape = r.t; offset = offset }) (omega (arith, ends)))
      (all_of_one (Ends (part_layout l).size) (record { shape = r.e; offset = offset }) (omega (arith, ends)))
  parts_end kind.Array (def.Array a) t l outside of few =
      let element = part_layout (layouts a.t) in
      let is = same_size l (array_layout a.n element) of in
      all_of_one (All (Ends (part_layout l).size)) (in_a_row a.t a.n element.size) (all_in_a_row (Ends (part_layout l).size) a.t a.n element.size (λ i below.
      let upto = mul-le-mul_right element.size (suc_below i a.n below) in
      omega (arith, upto, is, few)))
  parts_end k d t l outside of few = fields_end k t (part_layout l).size outside

module _ {L : Type 0} (m : LeafModel L) (shapes : List Shape) (well : IsWellFormed m shapes) where
  pub inside_of : (s : ℕ) (shape : Shape) → slice_get shapes s ≡ Some shape → PartsLieInside shapes shape
  unfolding arrangements
  inside_of s shape is =
      let outside = false_from_ne_true _ (none_met m shapes well cause.FieldOutside s shape is) in
      let of = of_kind m shapes well s shape is in
      let few = size_few m shapes well s shape is in
      record {
        tag = tag_ends (layout_at shapes) (kind_in shapes shape) shape.def shape.ty shape.layout (fits (element_of shapes shape.def) shape) outside of few;
        parts = parts_end (layout_at shapes) (kind_in shapes shape) shape.def shape.ty shape.layout outside of few;
      }

  -- the tag and each inline part of each shape lie inside
  pub parts_lie_inside : All (PartsLieInside shapes) shapes
  parts_lie_inside = each_shape shapes (PartsLieInside shapes) inside_of
