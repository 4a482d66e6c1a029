-- Descriptions with each list compared by its items: its spare capacity is no part of the description.
use Rattle.std.specs.Prelude.{map}
use Rattle.facet_base.specs.Many.{of_items, without_spare}
use Rattle.facet_desc.specs.declared.enum_type.EnumType.{EnumType}
use Rattle.facet_desc.specs.declared.field.Field.{Field}
use Rattle.facet_desc.specs.declared.pointer.PointerType.{PointerType}
use Rattle.facet_desc.specs.declared.pointer.PointerType.TheVariants as pointer
use Rattle.facet_desc.specs.declared.struct_type.StructType.{StructType}
use Rattle.facet_desc.specs.declared.ty.Ty.{Ty}
use Rattle.facet_desc.specs.declared.ty.Ty.TheVariants as ty
use Rattle.facet_desc.specs.declared.ty.UserType.{UserType}
use Rattle.facet_desc.specs.declared.ty.UserType.TheVariants as user
use Rattle.facet_desc.specs.declared.variant.Variant.{Variant}

-- the field by the items of its lists
unfoldable pub field_without_spare : Field → Field
field_without_spare f =
    record f {
      attributes = without_spare f.attributes;
      doc = without_spare f.doc;
      format_proxies = without_spare f.format_proxies;
    }

-- the struct by the items of its lists
unfoldable pub struct_without_spare : StructType → StructType
struct_without_spare s = record s { fields = of_items (map field_without_spare s.fields.items) }

-- the variant by the items of its lists
unfoldable pub variant_without_spare : Variant → Variant
variant_without_spare v =
    record v {
      attributes = without_spare v.attributes;
      body = struct_without_spare v.body;
      doc = without_spare v.doc;
    }

-- the enum by the items of its lists
unfoldable pub enum_without_spare : EnumType → EnumType
enum_without_spare e = record e { variants = of_items (map variant_without_spare e.variants.items) }

-- the declared type by the items of its lists
abbrev pub user_without_spare : UserType → UserType
user_without_spare (user.Struct s) = user.Struct (struct_without_spare s)
user_without_spare (user.Enum e) = user.Enum (enum_without_spare e)
user_without_spare user.Opaque = user.Opaque

-- the pointer by the items of its lists
abbrev pub pointer_without_spare : PointerType → PointerType
pointer_without_spare (pointer.Function f) = pointer.Function (record f { parameters = without_spare f.parameters })
pointer_without_spare p = p

-- the type by the items of its lists
abbrev pub ty_without_spare : Ty → Ty
ty_without_spare (ty.User u) = ty.User (user_without_spare u)
ty_without_spare (ty.Pointer p) = ty.Pointer (pointer_without_spare p)
ty_without_spare t = t
