-- The variants of an option, as they are built.
use Rattle.std.proofs.Common.{◌≡◌, ℕ, ℤ, List, [], ◌∷◌, Some, false, map, ap, ◌∙◌}
use Rattle.facet_base.specs.Many.{ManyValue, of_items}
use Rattle.facet_base.specs.declared.layout.Layout.{Layout}
use Rattle.facet_base.specs.declared.layout.ShapeId.{ShapeId}
use Rattle.facet_desc.specs.Variant.{fresh_variant}
use Rattle.facet_desc.specs.WithoutSpare.{enum_without_spare, field_without_spare, struct_without_spare, ty_without_spare, variant_without_spare}
use Rattle.facet_desc.specs.declared.field.Field.{Field}
use Rattle.facet_desc.specs.declared.repr.EnumRepr.TheVariants as width
use Rattle.facet_desc.specs.declared.struct_type.StructKind.TheVariants as struct_kind
use Rattle.facet_desc.specs.declared.ty.Ty.TheVariants as ty
use Rattle.facet_desc.specs.declared.ty.UserType.TheVariants as user
use Rattle.facet_desc.specs.declared.variant.Variant.{Variant}
use Rattle.facet_makers.specs.Types.{none_variant, option_type, rust_repr, rust_struct, some_variant}

-- a discriminant has no list
pub numbered : (d : ℤ) (v known : Variant) → variant_without_spare v ≡ known → variant_without_spare (record v { discriminant = Some d }) ≡ record known { discriminant = Some d }
unfolding variant_without_spare
numbered d v known is = ap (λ (w : Variant). record w { discriminant = Some d }) is

-- a tuple of one field
pub tuple_of_one : (v : Variant) (name : List ℕ) (fields : ManyValue Field) (f field : Field) → variant_without_spare v ≡ fresh_variant name (struct_without_spare v.body) → v.body ≡ record { repr = rust_repr; kind = struct_kind.TupleStruct; fields = fields } → fields.items ≡ f ∷ [] → field_without_spare f ≡ field → variant_without_spare v ≡ fresh_variant name (rust_struct struct_kind.TupleStruct (field ∷ []))
unfolding struct_without_spare
tuple_of_one v name fields f field fresh body items is =
    fresh
    ∙ ap (λ b. fresh_variant name (struct_without_spare b)) body
    ∙ ap (λ (xs : List Field). fresh_variant name (rust_struct struct_kind.TupleStruct (map field_without_spare xs))) items
    ∙ ap (λ (x : Field). fresh_variant name (rust_struct struct_kind.TupleStruct (x ∷ []))) is

-- the type of the two
pub option_type_built : (t : ShapeId) (part : Layout) (variants : ManyValue Variant) (a b : Variant) → variants.items ≡ a ∷ b ∷ [] → variant_without_spare a ≡ none_variant → variant_without_spare b ≡ some_variant t part → ty_without_spare (ty.User (user.Enum (record { repr = rust_repr; enum_repr = width.Rust; variants = variants; is_cow = false }))) ≡ option_type t part
unfolding enum_without_spare option_type
option_type_built t part variants a b items none some =
    let enum = λ (xs : List Variant). ty.User (user.Enum (record { repr = rust_repr; enum_repr = width.Rust; variants = of_items xs; is_cow = false })) in
    ap (λ (xs : List Variant). enum (map variant_without_spare xs)) items
    ∙ ap (λ (x : Variant). enum (x ∷ variant_without_spare b ∷ [])) none
    ∙ ap (λ (y : Variant). enum (none_variant ∷ y ∷ [])) some
