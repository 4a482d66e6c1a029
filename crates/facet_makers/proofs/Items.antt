-- A shape by the items of its lists is told by its lists once more.
use Rattle.std.proofs.Common.{◌≡◌, List, [], ◌∷◌, ◌++◌, length, map, refl, ap}
use Rattle.facet_base.specs.Many.{of_items}
use Rattle.facet_desc.specs.WithoutSpare.{enum_without_spare, field_without_spare, pointer_without_spare, struct_without_spare, ty_without_spare, user_without_spare, variant_without_spare}
use Rattle.facet_desc.specs.declared.enum_type.EnumType.{EnumType}
use Rattle.facet_desc.specs.declared.field.Field.{Field}
use Rattle.facet_desc.specs.declared.pointer.PointerType.{PointerType}
use Rattle.facet_desc.specs.declared.pointer.PointerType.TheVariants as pointer
use Rattle.facet_desc.specs.declared.struct_type.StructType.{StructType}
use Rattle.facet_desc.specs.declared.ty.Ty.{Ty}
use Rattle.facet_desc.specs.declared.ty.Ty.TheVariants as ty
use Rattle.facet_desc.specs.declared.ty.UserType.{UserType}
use Rattle.facet_desc.specs.declared.ty.UserType.TheVariants as user
use Rattle.facet_desc.specs.declared.variant.Variant.{Variant}
use Rattle.facet_shape.specs.WithoutSpare.{shape_without_spare}
use Rattle.facet_shape.specs.declared.shape.Shape.{Shape}
use Rattle.facet_registry.specs.Registry.{Registry, all_shapes, with_draft, with_id}

map_twice : {A : Type 0} (f : A → A) → ((x : A) → f (f x) ≡ f x) → (xs : List A) → map f (map f xs) ≡ map f xs
map_twice f h [] = refl
map_twice f h (x ∷ xs) = let e = h x in let i = map_twice f h xs in cc

field_twice : (f : Field) → field_without_spare (field_without_spare f) ≡ field_without_spare f
unfolding field_without_spare
field_twice f = refl

struct_twice : (s : StructType) → struct_without_spare (struct_without_spare s) ≡ struct_without_spare s
unfolding struct_without_spare
struct_twice s = ap (λ fields. record s { fields = of_items fields }) (map_twice field_without_spare field_twice s.fields.items)

variant_twice : (v : Variant) → variant_without_spare (variant_without_spare v) ≡ variant_without_spare v
unfolding variant_without_spare
variant_twice v = ap (λ body. record (variant_without_spare v) { body = body }) (struct_twice v.body)

enum_twice : (e : EnumType) → enum_without_spare (enum_without_spare e) ≡ enum_without_spare e
unfolding enum_without_spare
enum_twice e = ap (λ variants. record e { variants = of_items variants }) (map_twice variant_without_spare variant_twice e.variants.items)

user_twice : (u : UserType) → user_without_spare (user_without_spare u) ≡ user_without_spare u
user_twice (user.Struct s) = ap user.Struct (struct_twice s)
user_twice (user.Enum e) = ap user.Enum (enum_twice e)
user_twice user.Opaque = refl

pointer_twice : (p : PointerType) → pointer_without_spare (pointer_without_spare p) ≡ pointer_without_spare p
pointer_twice (pointer.Function f) = refl
pointer_twice (pointer.Reference p) = refl
pointer_twice (pointer.Raw p) = refl

ty_twice : (t : Ty) → ty_without_spare (ty_without_spare t) ≡ ty_without_spare t
ty_twice (ty.User u) = ap ty.User (user_twice u)
ty_twice (ty.Pointer p) = ap ty.Pointer (pointer_twice p)
ty_twice ty.Undefined = refl
ty_twice (ty.Primitive p) = refl
ty_twice (ty.Sequence s) = refl

shape_twice : (s : Shape) → shape_without_spare (shape_without_spare s) ≡ shape_without_spare s
shape_twice s = ap (λ t. record (shape_without_spare s) { ty = t }) (ty_twice s.ty)

-- a draft is told by its lists
pub draft_by_items : (registry : Registry) (s : Shape) → with_draft registry (shape_without_spare s) ≡ with_draft registry s
draft_by_items registry s = ap (λ t. record registry { drafts = registry.drafts ++ with_id (length (all_shapes registry)) t ∷ [] }) (shape_twice s)
