-- Causes that look at the layouts of other shapes are the same where these layouts are.
use Rattle.std.proofs.Common.{◌≡◌, ℕ, ◌+◌, ◌%◌, ◌==◌, ◌||◌, ◌&&◌, not, nat_lt, Bool, false, List, [], ◌∷◌, ◌++◌, All, Contains, Option, Some, get_or, map, refl, ap}
use Rattle.std.specs.List.{flat_map, list_any}
use Rattle.std.specs.Option.{option_map_or}
use Rattle.std.proofs.lemmas.List.Elements.{All-append, All-cons, All-contains, All-head, All-map, All-nil, All-tail, Contains-append_left, Contains-append_right, Contains-get_or}
use Rattle.facet_base.specs.declared.layout.ShapeId.{ShapeId}
use Rattle.facet_base.specs.declared.layout.ShapeLayout.{ShapeLayout}
use Rattle.facet_base.specs.declared.layout.ShapeLayout.TheVariants as layout
use Rattle.facet_caps.specs.VTableErased.{capabilities_of}
use Rattle.facet_def.specs.declared.def.Def.{Def}
use Rattle.facet_def.specs.declared.def.Def.TheVariants as def
use Rattle.facet_desc.specs.declared.field.Field.{Field}
use Rattle.facet_desc.specs.declared.variant.Variant.{Variant}
use Rattle.facet_desc.specs.declared.ty.Ty.{Ty}
use Rattle.facet_desc.specs.declared.ty.Ty.TheVariants as ty
use Rattle.facet_desc.specs.declared.ty.UserType.TheVariants as user
use Rattle.facet_outline.specs.BadLayout.{aligns_fields, has_bad_layout, has_unsized_part, has_values, is_aligned_below_parts, is_below, is_no_scalar_layout, is_uneven, is_unsized, layout_of_kind, layout_of_parts, same_layout}
use Rattle.facet_outline.specs.Field.{bodies, ends_behind, has_field_misaligned, has_field_outside, is_misaligned, is_packed_struct, placed, placed_fields, span_of, spans_of, tag_bytes}
use Rattle.facet_outline.specs.Layout.{array_layout, option_layout, option_offset, part_layout, result_layout}
use Rattle.facet_outline.specs.Mismatch.{has_no_type, has_order_alone, has_other_parameters, is_box_without_content, is_defined_user_type, is_mismatched, is_option_type, is_other_option, is_other_scalar, is_other_sequence, is_packed_wrongly}
use Rattle.facet_outline.specs.Part.{fields_of_type, inline_parts, parts}
use Rattle.facet_outline.specs.References.{fields_of_struct, parts_of_def}
use Rattle.facet_outline.specs.ValueKind.{kind_of}
use Rattle.facet_outline.specs.declared.placed_fields.PlacedField.{PlacedField}
use Rattle.facet_outline.specs.declared.value_kind.ValueKind.{ValueKind}
use Rattle.facet_outline.specs.declared.value_kind.ValueKind.TheVariants as kind
use Rattle.facet_shape.specs.declared.shape.Shape.{Shape}

-- what holds of each element that is among them holds of all
pub all_by : {X : Type 0} (P : X → Type 0) (xs : List X) → ((x : X) → Contains xs x → P x) → All P xs
all_by P xs each = λ i d under. each (get_or xs i d) (Contains-get_or xs i d under)

all_left : {X : Type 0} (P : X → Type 0) (xs ys : List X) → All P (xs ++ ys) → All P xs
all_left P xs ys all = all_by P xs (λ x among. All-contains P (xs ++ ys) x all (Contains-append_left xs ys x among))

pub all_right : {X : Type 0} (P : X → Type 0) (xs ys : List X) → All P (xs ++ ys) → All P ys
all_right P xs ys all = all_by P ys (λ x among. All-contains P (xs ++ ys) x all (Contains-append_right xs ys x among))

pub all_before_map : {X Y : Type 0} (P : Y → Type 0) (f : X → Y) (xs : List X) → All P (map f xs) → All (λ x. P (f x)) xs
all_before_map P f [] all = All-nil (λ x. P (f x))
all_before_map P f (x ∷ xs) all = All-cons (λ x. P (f x)) x xs (All-head P (f x) (map f xs) all) (all_before_map P f xs (All-tail P (f x) (map f xs) all))

any_same : {X : Type 0} (p q : X → Bool) (xs : List X) → All (λ x. p x ≡ q x) xs → list_any p xs ≡ list_any q xs
any_same p q [] all = refl
any_same p q (x ∷ xs) all = λ i. All-head (λ x. p x ≡ q x) x xs all i || any_same p q xs (All-tail (λ x. p x ≡ q x) x xs all) i

map_same : {X Y : Type 0} (f g : X → Y) (xs : List X) → All (λ x. f x ≡ g x) xs → map f xs ≡ map g xs
map_same f g [] all = refl
map_same f g (x ∷ xs) all = λ i. All-head (λ x. f x ≡ g x) x xs all i ∷ map_same f g xs (All-tail (λ x. f x ≡ g x) x xs all) i

pub all_to : {X : Type 0} (P Q : X → Type 0) → ((x : X) → P x → Q x) → (xs : List X) → All P xs → All Q xs
all_to P Q to xs all = λ i d under. to (get_or xs i d) (all i d under)

-- where all fields of a type are so, those that are placed are
abbrev place : Field → PlacedField
place f = record { shape = f.shape; offset = f.offset }

module _ (P : ShapeId → Type 0) where
  fields_placed : (fields : List Field) → All P (map (λ f. f.shape) fields) → All (λ f. P f.shape) (map place fields)
  fields_placed fields all = All-map (λ (f : PlacedField). P f.shape) place fields (all_before_map P (λ f. f.shape) fields all)

  variants_placed : (variants : List Variant) → All P (flat_map (λ v. fields_of_struct v.body) variants) → All (λ f. P f.shape) (flat_map (λ v. placed v.body) variants)
  variants_placed [] all = All-nil (λ f. P f.shape)
  variants_placed (v ∷ variants) all =
      let rest = flat_map (λ v. fields_of_struct v.body) variants in
      All-append (λ f. P f.shape) (placed v.body) (flat_map (λ v. placed v.body) variants) (fields_placed v.body.fields.items (all_left P (fields_of_struct v.body) rest all)) (variants_placed variants (all_right P (fields_of_struct v.body) rest all))

  variants_side_by_side : (variants : List Variant) → All P (flat_map (λ v. fields_of_struct v.body) variants) → All (λ body. All (λ f. P f.shape) body) (map (λ v. placed v.body) variants)
  variants_side_by_side [] all = All-nil (λ body. All (λ f. P f.shape) body)
  variants_side_by_side (v ∷ variants) all =
      let rest = flat_map (λ v. fields_of_struct v.body) variants in
      All-cons (λ body. All (λ f. P f.shape) body) (placed v.body) (map (λ v. placed v.body) variants) (fields_placed v.body.fields.items (all_left P (fields_of_struct v.body) rest all)) (variants_side_by_side variants (all_right P (fields_of_struct v.body) rest all))

  pub all_placed : (k : ValueKind) (t : Ty) → All P (fields_of_type t) → All (λ f. P f.shape) (placed_fields k t)
  all_placed kind.Struct (ty.User (user.Struct s)) all = fields_placed s.fields.items all
  all_placed kind.Enum (ty.User (user.Enum e)) all = variants_placed e.variants.items all
  all_placed kind.Struct _ all = All-nil (λ f. P f.shape)
  all_placed kind.Enum _ all = All-nil (λ f. P f.shape)
  all_placed _ t all = All-nil (λ f. P f.shape)

  pub all_bodies : (k : ValueKind) (t : Ty) → All P (fields_of_type t) → All (λ body. All (λ f. P f.shape) body) (bodies k t)
  all_bodies kind.Struct (ty.User (user.Struct s)) all = All-cons (λ body. All (λ f. P f.shape) body) (placed s) [] (fields_placed s.fields.items all) (All-nil (λ body. All (λ f. P f.shape) body))
  all_bodies kind.Enum (ty.User (user.Enum e)) all = variants_side_by_side e.variants.items all
  all_bodies kind.Struct _ all = All-nil (λ body. All (λ f. P f.shape) body)
  all_bodies kind.Enum _ all = All-nil (λ body. All (λ f. P f.shape) body)
  all_bodies _ t all = All-nil (λ body. All (λ f. P f.shape) body)

-- where two lists of layouts agree on P, causes that look at layouts of P alone are the same
module _ (l l' : ShapeId → ShapeLayout) (P : ShapeId → Type 0) (agree : (id : ShapeId) → P id → l id ≡ l' id) where
  ids_agree : {A : Type 0} (f : ShapeLayout → A) (ids : List ShapeId) → All P ids → All (λ id. f (l id) ≡ f (l' id)) ids
  ids_agree f ids all = all_to P (λ id. f (l id) ≡ f (l' id)) (λ id holds. ap f (agree id holds)) ids all

  option_agree : (d : Def) (t : Ty) → All P (parts_of_def d) → is_other_option l d t ≡ is_other_option l' d t
  option_agree (def.Option o) t all = ap (λ m. not (is_option_type o.t (option_offset (part_layout m)) t)) (agree o.t (All-head P o.t [] all))
  option_agree _ t all = refl

  pub mismatched_agree : (s : Shape) → All P (parts_of_def s.def) → is_mismatched l s ≡ is_mismatched l' s
  unfolding is_mismatched
  mismatched_agree s all =
      let other = option_agree s.def s.ty all in
      λ i.
      has_no_type s.ty
      || is_other_sequence s.def s.ty
      || is_defined_user_type s.def s.ty
      || other i
      || has_other_parameters s.def s.type_params.items
      || is_box_without_content s.def s.type_params.items
      || is_other_scalar s.scalar s.def
      || is_packed_wrongly s.ty
      || has_order_alone (capabilities_of s.vtable)

  pub unsized_agree : (element : Option ShapeId) (s : Shape) → All P (parts element s) → has_unsized_part l element s ≡ has_unsized_part l' element s
  unfolding has_unsized_part
  unsized_agree element s all =
      ap (λ b. (has_values (kind_of element s) && is_unsized s.layout) || b) (any_same (λ id. is_unsized (l id)) (λ id. is_unsized (l' id)) (parts element s) (ids_agree is_unsized (parts element s) all))

  layout_of_parts_agree : (d : Def) → All P (parts_of_def d) → layout_of_parts l d ≡ layout_of_parts l' d
  layout_of_parts_agree (def.Option o) all = ap (λ m. Some (option_layout (part_layout m))) (agree o.t (All-head P o.t [] all))
  layout_of_parts_agree (def.Result r) all =
      let one = agree r.t (All-head P r.t (r.e ∷ []) all) in
      let two = agree r.e (All-head P r.e [] (All-tail P r.t (r.e ∷ []) all)) in
      λ i. Some (result_layout (part_layout (one i)) (part_layout (two i)))
  layout_of_parts_agree (def.Array a) all = ap (λ m. Some (array_layout a.n (part_layout m))) (agree a.t (All-head P a.t [] all))
  layout_of_parts_agree _ all = refl

  layout_of_kind_agree : (k : ValueKind) (d : Def) → All P (parts_of_def d) → layout_of_kind l k d ≡ layout_of_kind l' k d
  layout_of_kind_agree kind.Option d all = layout_of_parts_agree d all
  layout_of_kind_agree kind.Result d all = layout_of_parts_agree d all
  layout_of_kind_agree kind.Array d all = layout_of_parts_agree d all
  layout_of_kind_agree _ d all = refl

  below_agree : (element : Option ShapeId) (s : Shape) → All P (inline_parts element s) → is_aligned_below_parts l element s ≡ is_aligned_below_parts l' element s
  below_agree element s all =
      let align = (part_layout s.layout).align in
      ap (λ b. (aligns_fields (kind_of element s) s.ty && b) || nat_lt align (tag_bytes (kind_of element s) s.ty))
      (any_same (is_below l align) (is_below l' align) (inline_parts element s) (ids_agree (λ m. nat_lt align (part_layout m).align) (inline_parts element s) all))

  pub bad_layout_agree : (element : Option ShapeId) (s : Shape) → All P (parts_of_def s.def) → All P (inline_parts element s) → has_bad_layout l element s ≡ has_bad_layout l' element s
  unfolding has_bad_layout
  bad_layout_agree element s of_def inline =
      let kind_layout = ap (λ o. option_map_or (λ m. not (same_layout s.layout (layout.Sized m))) o false) (layout_of_kind_agree (kind_of element s) s.def of_def) in
      let below = below_agree element s inline in
      λ i. is_uneven s.layout || is_no_scalar_layout (kind_of element s) s.layout || kind_layout i || below i

  pub outside_agree : (k : ValueKind) (t : Ty) (size : ℕ) → All (λ f. P f.shape) (placed_fields k t) → has_field_outside l k t size ≡ has_field_outside l' k t size
  outside_agree k t size all =
      ap (λ b. b || nat_lt size (tag_bytes k t))
      (any_same (ends_behind l size) (ends_behind l' size) (placed_fields k t) (all_to (λ f. P f.shape) (λ f. ends_behind l size f ≡ ends_behind l' size f) (λ f holds. ap (λ m. nat_lt size (f.offset + (part_layout m).size)) (agree f.shape holds)) (placed_fields k t) all))

  pub misaligned_agree : (k : ValueKind) (t : Ty) → All (λ f. P f.shape) (placed_fields k t) → has_field_misaligned l k t ≡ has_field_misaligned l' k t
  misaligned_agree k t all =
      ap (λ b. not (is_packed_struct k t) && b)
      (any_same (is_misaligned l) (is_misaligned l') (placed_fields k t) (all_to (λ f. P f.shape) (λ f. is_misaligned l f ≡ is_misaligned l' f) (λ f holds. ap (λ m. not (f.offset % (part_layout m).align == 0)) (agree f.shape holds)) (placed_fields k t) all))

  pub spans_agree : (tag : ℕ) (body : List PlacedField) → All (λ f. P f.shape) body → spans_of l tag body ≡ spans_of l' tag body
  spans_agree tag body all =
      ap (λ spans. record { offset = 0; size = tag } ∷ spans)
      (map_same (span_of l) (span_of l') body (all_to (λ f. P f.shape) (λ f. span_of l f ≡ span_of l' f) (λ f holds. ap (λ m. record { offset = f.offset; size = (part_layout m).size }) (agree f.shape holds)) body all))
