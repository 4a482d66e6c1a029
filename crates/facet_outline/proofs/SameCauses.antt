-- Whether a shape meets a cause depends on the items of its lists alone.
use Rattle.std.proofs.Common.{◌≡◌, ◌||◌, ◌&&◌, ℕ, true, false, not, nat_lt, List, [], ◌∷◌, Option, bytes_eq, codes, refl, ap, ◌∙◌, map}
use Rattle.std.specs.List.{list_any}
use Rattle.std.specs.Option.{option_map_or}
use Rattle.facet_base.specs.declared.layout.ShapeId.{ShapeId}
use Rattle.facet_base.specs.declared.layout.ShapeLayout.{ShapeLayout}
use Rattle.facet_caps.specs.TypeOps.{operations_of}
use Rattle.facet_caps.specs.VTableErased.{capabilities_of}
use Rattle.facet_caps.specs.declared.type_ops.TypeOps.{TypeOps}
use Rattle.facet_caps.specs.declared.vtable.VTableDirect.{VTableDirect}
use Rattle.facet_def.specs.declared.def.Def.{Def}
use Rattle.facet_def.specs.declared.def.Def.TheVariants as def
use Rattle.facet_desc.specs.WithoutSpare.{enum_without_spare, field_without_spare, struct_without_spare, ty_without_spare, variant_without_spare}
use Rattle.facet_desc.specs.declared.enum_type.EnumType.{EnumType}
use Rattle.facet_desc.specs.declared.field.Field.{Field}
use Rattle.facet_desc.specs.declared.struct_type.StructType.{StructType}
use Rattle.facet_desc.specs.declared.ty.Ty.{Ty}
use Rattle.facet_desc.specs.declared.ty.Ty.TheVariants as ty
use Rattle.facet_desc.specs.declared.ty.UserType.TheVariants as user
use Rattle.facet_desc.specs.declared.variant.Variant.{Variant}
use Rattle.facet_leaf.specs.LeafModel.{LeafModel}
use Rattle.facet_outline.specs.BadLayout.{aligns_fields, has_bad_layout, has_unsized_part, has_values, is_aligned_below_parts, is_below, is_no_layout_of_kind, is_no_scalar_layout, is_uneven, is_unsized}
use Rattle.facet_outline.specs.Field.{tag_bytes}
use Rattle.facet_outline.specs.Layout.{option_offset, part_layout}
use Rattle.facet_outline.specs.Mismatch.{
  are_option_variants,
  has_no_field,
  has_no_type,
  has_order_alone,
  has_other_parameters,
  is_box_without_content,
  is_defined_user_type,
  is_mismatched,
  is_only_field,
  is_option_type,
  is_other_option,
  is_other_scalar,
  is_other_sequence,
  is_packed_wrongly,
  is_struct_or_enum,
}
use Rattle.facet_outline.specs.Offered.{has_unoffered_of_kind, has_no_more, has_no_more_operations, hashing, is_single, has_unoffered_member, offered_operations, wraps_a_field}
use Rattle.facet_outline.specs.Part.{inline_parts}
use Rattle.facet_outline.specs.ValueKind.{kind_of}
use Rattle.facet_outline.specs.declared.value_kind.ValueKind.{ValueKind}
use Rattle.facet_outline.specs.declared.value_kind.ValueKind.TheVariants as kind
use Rattle.facet_outline.proofs.SameItems.{inline_parts_same, is_packed_struct_same, kind_same, parts_same, tag_bytes_same}
use Rattle.facet_shape.specs.Ty.{is_transparent_base}
use Rattle.facet_shape.specs.WithoutSpare.{shape_without_spare}
use Rattle.facet_shape.specs.declared.shape.Shape.{Shape}

-- the definition and the type
has_no_type_same : (t : Ty) → has_no_type (ty_without_spare t) ≡ has_no_type t
has_no_type_same (ty.User u) = refl
has_no_type_same (ty.Pointer p) = refl
has_no_type_same _ = refl

is_other_sequence_same : (d : Def) (t : Ty) → is_other_sequence d (ty_without_spare t) ≡ is_other_sequence d t
is_other_sequence_same (def.Array a) t = array t
  where
    array : (u : Ty) → is_other_sequence (def.Array a) (ty_without_spare u) ≡ is_other_sequence (def.Array a) u
    array (ty.User v) = refl
    array (ty.Pointer v) = refl
    array _ = refl
is_other_sequence_same (def.Slice s) t = slice t
  where
    slice : (u : Ty) → is_other_sequence (def.Slice s) (ty_without_spare u) ≡ is_other_sequence (def.Slice s) u
    slice (ty.User v) = refl
    slice (ty.Pointer v) = refl
    slice _ = refl
is_other_sequence_same _ t = refl

is_struct_or_enum_same : (t : Ty) → is_struct_or_enum (ty_without_spare t) ≡ is_struct_or_enum t
is_struct_or_enum_same (ty.User (user.Struct s)) = refl
is_struct_or_enum_same (ty.User (user.Enum e)) = refl
is_struct_or_enum_same (ty.User user.Opaque) = refl
is_struct_or_enum_same _ = refl

is_defined_user_type_same : (d : Def) (t : Ty) → is_defined_user_type d (ty_without_spare t) ≡ is_defined_user_type d t
is_defined_user_type_same def.Undefined t = refl
is_defined_user_type_same (def.Option o) t = refl
is_defined_user_type_same _ t = is_struct_or_enum_same t

-- the type of an option
is_only_field_same : (id : ShapeId) (offset : ℕ) (fields : List Field) → is_only_field id offset (map field_without_spare fields) ≡ is_only_field id offset fields
unfolding field_without_spare
is_only_field_same id offset [] = refl
is_only_field_same id offset (f ∷ []) = refl
is_only_field_same id offset (f ∷ g ∷ fields) = refl

has_no_field_same : (fields : List Field) → has_no_field (map field_without_spare fields) ≡ has_no_field fields
has_no_field_same [] = refl
has_no_field_same (f ∷ fields) = refl

are_option_variants_same : (id : ShapeId) (offset : ℕ) (variants : List Variant) → are_option_variants id offset (map variant_without_spare variants) ≡ are_option_variants id offset variants
unfolding variant_without_spare struct_without_spare
are_option_variants_same id offset [] = refl
are_option_variants_same id offset (v ∷ []) = refl
are_option_variants_same id offset (none ∷ some ∷ []) = λ i.
    bytes_eq none.name (codes "None") && has_no_field_same none.body.fields.items i
    && bytes_eq some.name (codes "Some") && is_only_field_same id offset some.body.fields.items i
are_option_variants_same id offset (v ∷ w ∷ x ∷ variants) = refl

is_option_enum_same : (id : ShapeId) (offset : ℕ) (e : EnumType) → are_option_variants id offset (enum_without_spare e).variants.items ≡ are_option_variants id offset e.variants.items
unfolding enum_without_spare
is_option_enum_same id offset e = are_option_variants_same id offset e.variants.items

is_option_type_same : (id : ShapeId) (offset : ℕ) (t : Ty) → is_option_type id offset (ty_without_spare t) ≡ is_option_type id offset t
is_option_type_same id offset (ty.User (user.Struct s)) = refl
is_option_type_same id offset (ty.User (user.Enum e)) = is_option_enum_same id offset e
is_option_type_same id offset (ty.User user.Opaque) = refl
is_option_type_same id offset _ = refl

-- its representation
packed_enum_same : (e : EnumType) → (enum_without_spare e).repr.packed ≡ e.repr.packed
unfolding enum_without_spare
packed_enum_same e = refl

packed_transparent_same : (s : StructType) → ((struct_without_spare s).repr.packed && is_transparent_base (struct_without_spare s).repr.base) ≡ (s.repr.packed && is_transparent_base s.repr.base)
unfolding struct_without_spare
packed_transparent_same s = refl

is_packed_wrongly_same : (t : Ty) → is_packed_wrongly (ty_without_spare t) ≡ is_packed_wrongly t
is_packed_wrongly_same (ty.User (user.Struct s)) = packed_transparent_same s
is_packed_wrongly_same (ty.User (user.Enum e)) = packed_enum_same e
is_packed_wrongly_same (ty.User user.Opaque) = refl
is_packed_wrongly_same _ = refl

is_single_same : (fields : List Field) → is_single (map field_without_spare fields) ≡ is_single fields
is_single_same [] = refl
is_single_same (f ∷ []) = refl
is_single_same (f ∷ g ∷ fields) = refl

wraps_struct_same : (s : StructType) → (is_transparent_base (struct_without_spare s).repr.base && is_single (struct_without_spare s).fields.items) ≡ (is_transparent_base s.repr.base && is_single s.fields.items)
unfolding struct_without_spare
wraps_struct_same s = ap (λ one. is_transparent_base s.repr.base && one) (is_single_same s.fields.items)

wraps_a_field_same : (t : Ty) → wraps_a_field (ty_without_spare t) ≡ wraps_a_field t
wraps_a_field_same (ty.User (user.Struct s)) = wraps_struct_same s
wraps_a_field_same (ty.User (user.Enum e)) = refl
wraps_a_field_same (ty.User user.Opaque) = refl
wraps_a_field_same _ = refl

aligns_fields_same : (k : ValueKind) (t : Ty) → aligns_fields k (ty_without_spare t) ≡ aligns_fields k t
aligns_fields_same kind.Struct t = ap not (is_packed_struct_same kind.Struct t)
aligns_fields_same _ t = refl

module _ (layouts : ShapeId → ShapeLayout) where
  is_other_option_same : (d : Def) (t : Ty) → is_other_option layouts d (ty_without_spare t) ≡ is_other_option layouts d t
  is_other_option_same (def.Option o) t = ap not (is_option_type_same o.t (option_offset (part_layout (layouts o.t))) t)
  is_other_option_same _ t = refl

  pub is_mismatched_same : (s : Shape) → is_mismatched layouts (shape_without_spare s) ≡ is_mismatched layouts s
  unfolding is_mismatched
  is_mismatched_same s = λ i.
      has_no_type_same s.ty i
      || is_other_sequence_same s.def s.ty i
      || is_defined_user_type_same s.def s.ty i
      || is_other_option_same s.def s.ty i
      || has_other_parameters s.def s.type_params.items
      || is_box_without_content s.def s.type_params.items
      || is_other_scalar s.scalar s.def
      || is_packed_wrongly_same s.ty i
      || has_order_alone (capabilities_of s.vtable)

  pub has_unsized_part_same : (element : Option ShapeId) (s : Shape) → has_unsized_part layouts element (shape_without_spare s) ≡ has_unsized_part layouts element s
  unfolding has_unsized_part
  has_unsized_part_same element s = λ i. (has_values (kind_same element s i) && is_unsized s.layout) || list_any (λ id. is_unsized (layouts id)) (parts_same element s i)

  is_aligned_below_parts_same : (element : Option ShapeId) (s : Shape) → is_aligned_below_parts layouts element (shape_without_spare s) ≡ is_aligned_below_parts layouts element s
  is_aligned_below_parts_same element s =
      let align = (part_layout s.layout).align in
      let k = kind_of element s in
      (λ i. (aligns_fields (kind_same element s i) (ty_without_spare s.ty) && list_any (is_below layouts align) (inline_parts_same element s i)) || nat_lt align (tag_bytes (kind_same element s i) (ty_without_spare s.ty)))
      ∙ (λ i. (aligns_fields_same k s.ty i && list_any (is_below layouts align) (inline_parts element s)) || nat_lt align (tag_bytes_same k s.ty i))

  pub has_bad_layout_same : (element : Option ShapeId) (s : Shape) → has_bad_layout layouts element (shape_without_spare s) ≡ has_bad_layout layouts element s
  unfolding has_bad_layout
  has_bad_layout_same element s = λ i.
      is_uneven s.layout
      || is_no_scalar_layout (kind_same element s i) s.layout
      || is_no_layout_of_kind layouts (kind_same element s i) s.def s.layout
      || is_aligned_below_parts_same element s i

module _ {L : Type 0} (m : LeafModel L) where
  has_unoffered_of_kind_same : (k : ValueKind) (t : Ty) (v : VTableDirect) (ops : Option TypeOps) → has_unoffered_of_kind m k (ty_without_spare t) v ops ≡ has_unoffered_of_kind m k t v ops
  has_unoffered_of_kind_same kind.Struct t v ops = λ i.
      not (has_no_more v (record hashing { invariants = true; try_borrow_inner = wraps_a_field_same t i }))
      || option_map_or (λ o. not (has_no_more_operations (operations_of o) (offered_operations m kind.Struct))) ops false
  has_unoffered_of_kind_same _ t v ops = refl

  pub has_unoffered_member_same : (element : Option ShapeId) (s : Shape) → has_unoffered_member m element (shape_without_spare s) ≡ has_unoffered_member m element s
  unfolding has_unoffered_member
  has_unoffered_member_same element s =
      ap (λ k. has_unoffered_of_kind m k (ty_without_spare s.ty) (capabilities_of s.vtable) s.type_ops) (kind_same element s)
      ∙ has_unoffered_of_kind_same (kind_of element s) s.ty (capabilities_of s.vtable) s.type_ops
