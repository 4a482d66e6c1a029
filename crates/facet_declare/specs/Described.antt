-- The shape that a declaration of a type of its own describes, as it is given to the builder.
use Rattle.std.specs.Prelude.{ℕ, false, List, Some, map}
use Rattle.facet_base.specs.Many.{of_items}
use Rattle.facet_base.specs.declared.layout.ShapeLayout.{ShapeLayout}
use Rattle.facet_base.specs.declared.scalar_type.ScalarType.{ScalarType}
use Rattle.facet_caps.specs.EmptyRecords.{empty_direct}
use Rattle.facet_caps.specs.declared.type_ops.TypeOps.TheVariants as ops
use Rattle.facet_caps.specs.declared.type_ops.TypeOpsDirect.{TypeOpsDirect}
use Rattle.facet_caps.specs.declared.vtable.VTableDirect.{VTableDirect}
use Rattle.facet_caps.specs.declared.vtable_erased.VTableErased.TheVariants as erased
use Rattle.facet_declaration.specs.declared.parts.FieldDecl.{FieldDecl}
use Rattle.facet_declaration.specs.declared.parts.VariantDecl.{VariantDecl}
use Rattle.facet_declare.specs.Options.{Options, with_options}
use Rattle.facet_declare.specs.Parts.{declared_struct, declared_variant}
use Rattle.facet_def.specs.declared.def.Def.TheVariants as def
use Rattle.facet_desc.specs.declared.repr.EnumRepr.{EnumRepr}
use Rattle.facet_desc.specs.declared.struct_type.StructKind.{StructKind}
use Rattle.facet_desc.specs.declared.ty.Ty.{Ty}
use Rattle.facet_desc.specs.declared.ty.Ty.TheVariants as ty
use Rattle.facet_desc.specs.declared.ty.UserType.TheVariants as user
use Rattle.facet_makers.specs.Types.{opaque}
use Rattle.facet_outline.specs.Layout.{sized}
use Rattle.facet_shape.specs.ShapeBuilder.{fresh_shape}
use Rattle.facet_shape.specs.declared.shape.Shape.{Shape}
use Rattle.facet_words.specs.declared.caps.Caps.{Caps}

-- the capabilities that the letters name
abbrev pub capabilities : Caps → VTableDirect
capabilities c =
    record empty_direct {
      display = c.display;
      debug = c.debug;
      hash = c.hash;
      parse = c.parse;
      partial_eq = c.partial_eq;
      partial_cmp = c.partial_cmp;
      cmp = c.cmp;
    }

-- the operations that they name
abbrev pub operations : Caps → TypeOpsDirect
operations c = record { drop_in_place = false; default_in_place = c.default_in_place; clone_into = c.clone_into; is_truthy = false }

-- a type of which nothing but its name, its layout and the options is known
abbrev pub opaque_described : List ℕ → ShapeLayout → Options → Shape
opaque_described name layout options = with_options options (record (fresh_shape name layout) { ty = opaque })

-- the shape whose values can do what the letters name
abbrev pub capable : Caps → Shape → Shape
capable c s = record s { vtable = erased.Direct (capabilities c); type_ops = Some (ops.Direct (operations c)) }

-- a type of a size and an alignment with these capabilities
abbrev pub type_described : List ℕ → ℕ → ℕ → Caps → Options → Ty → Shape
type_described name size align c options t = with_options options (record (capable c (fresh_shape name (sized size align))) { ty = t })

-- a struct of a kind
abbrev pub struct_described : StructKind → List ℕ → ℕ → ℕ → Caps → Options → List FieldDecl → Shape
struct_described k name size align c options fields =
    type_described name size align c options (ty.User (user.Struct (declared_struct options.repr k fields)))

-- an enum
abbrev pub enum_described : List ℕ → ℕ → ℕ → EnumRepr → Caps → Options → List VariantDecl → Shape
enum_described name size align r c options variants =
    type_described name size align c options
    (ty.User (user.Enum (record { repr = options.repr; enum_repr = r; variants = of_items (map declared_variant variants); is_cow = false })))

-- a scalar of a kind
abbrev pub scalar_described : List ℕ → ScalarType → ℕ → ℕ → Caps → Shape
scalar_described name k size align c = record (capable c (fresh_shape name (sized size align))) { ty = opaque; def = def.Scalar; scalar = Some k }
