-- The fields and variants that a declaration describes.
use Rattle.std.specs.Prelude.{ℕ, Bool, true, false, List, map}
use Rattle.facet_base.specs.Many.{of_items}
use Rattle.facet_declaration.specs.declared.parts.FieldDecl.{FieldDecl}
use Rattle.facet_declaration.specs.declared.parts.VariantDecl.{VariantDecl}
use Rattle.facet_desc.specs.Field.{fresh_field}
use Rattle.facet_desc.specs.StructType.{unit_struct}
use Rattle.facet_desc.specs.Variant.{fresh_variant}
use Rattle.facet_desc.specs.declared.field.Field.{Field}
use Rattle.facet_desc.specs.declared.repr.Repr.{Repr}
use Rattle.facet_desc.specs.declared.struct_type.StructKind.{StructKind}
use Rattle.facet_desc.specs.declared.struct_type.StructKind.TheVariants as kind
use Rattle.facet_desc.specs.declared.struct_type.StructType.{StructType}
use Rattle.facet_desc.specs.declared.variant.Variant.{Variant}
use Rattle.facet_makers.specs.Types.{rust_repr}

-- the flags of a field: SENSITIVE, which is 1, or none
abbrev pub field_flags : Bool → ℕ
field_flags true = 1
field_flags false = 0

-- a field
abbrev pub declared_field : FieldDecl → Field
declared_field f = record (fresh_field f.name f.shape f.offset) { flags = record { bits = field_flags f.sensitive } }

-- a struct of these fields
abbrev pub declared_struct : Repr → StructKind → List FieldDecl → StructType
declared_struct r k fields = record { repr = r; kind = k; fields = of_items (map declared_field fields) }

-- what a variant of a kind holds: without fields nothing, else they lie as Rust chooses
abbrev pub declared_body : StructKind → List FieldDecl → StructType
declared_body kind.Unit fields = unit_struct
declared_body k fields = declared_struct rust_repr k fields

-- a variant
abbrev pub declared_variant : VariantDecl → Variant
declared_variant v = record (fresh_variant v.name (declared_body v.kind v.fields)) { discriminant = v.discriminant }
