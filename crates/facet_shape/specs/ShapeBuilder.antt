-- What a builder of shapes begins with, and what it builds.
use Rattle.std.specs.Prelude.{◌==◌, ◌||◌, ℕ, Bool, List, [], Option, None, Some, if◌then◌else◌, length, nat_lt, option_map}
use Rattle.std.specs.Int.RustNames.{bit_or}
use Rattle.facet_base.specs.DeclId.{extern_text}
use Rattle.facet_base.specs.Fnv.{fnv, fnv_start}
use Rattle.facet_base.specs.Many.{of_items}
use Rattle.facet_base.specs.declared.layout.ShapeLayout.{ShapeLayout}
use Rattle.facet_base.specs.declared.variance.Variance.TheVariants as variance
use Rattle.facet_caps.specs.EmptyRecords.{empty_direct}
use Rattle.facet_caps.specs.declared.vtable_erased.VTableErased.TheVariants as erased
use Rattle.facet_def.specs.Def.{type_of}
use Rattle.facet_def.specs.declared.def.Def.{Def}
use Rattle.facet_def.specs.declared.def.Def.TheVariants as def
use Rattle.facet_desc.specs.Ty.{kind_text}
use Rattle.facet_desc.specs.declared.ty.Ty.{Ty}
use Rattle.facet_desc.specs.declared.ty.Ty.TheVariants as ty
use Rattle.facet_shape.specs.declared.shape.Shape.{Shape}

-- the shape of a type of an identifier and a layout, of which nothing else is set
unfoldable pub fresh_shape : List ℕ → ShapeLayout → Shape
fresh_shape identifier layout =
    record {
      id = record { 0 = 0 };
      decl_id = record { 0 = 0 };
      layout = layout;
      vtable = erased.Direct empty_direct;
      type_ops = None;
      marker_traits = record { bits = 0 };
      ty = ty.Undefined;
      def = def.Undefined;
      type_identifier = identifier;
      module_path = None;
      source_file = None;
      source_line = None;
      source_column = None;
      type_params = of_items [];
      const_params = of_items [];
      doc = of_items [];
      attributes = of_items [];
      type_tag = None;
      inner = None;
      builder_shape = None;
      type_name = None;
      proxy = None;
      format_proxies = of_items [];
      opaque_adapter = None;
      variance = record { base = variance.Bivariant; deps = of_items [] };
      flags = record { bits = 0 };
      tag = None;
      content = None;
      rename = None;
      scalar = None;
    }

-- the shape with a flag beside those that it has
abbrev pub with_flag : ℕ → Shape → Shape
with_flag flag s = record s { flags = record { bits = bit_or s.flags.bits flag } }

-- the shape with a marker trait beside those that it has
abbrev pub with_marker : ℕ → Shape → Shape
with_marker marker s = record s { marker_traits = record { bits = bit_or s.marker_traits.bits marker } }

-- the type, and the definition's default type in place of an undefined one
abbrev pub type_or_default : Ty → Def → Ty
type_or_default ty.Undefined definition = type_of definition
type_or_default t _ = t

-- the shape with that type
abbrev pub with_resolved_type : Shape → Shape
with_resolved_type s = record s { ty = type_or_default s.ty s.def }

-- it is the shape of a generic type
abbrev pub has_parameters : Shape → Bool
has_parameters s = nat_lt 0 (length s.type_params.items) || nat_lt 0 (length s.const_params.items)

-- the hash of the identifier, or of a generic type that of its module path, kind and identifier, which requires a path
abbrev pub hashed_id : Shape → Option ℕ
hashed_id s =
    if has_parameters s
    then option_map (λ path. fnv fnv_start (extern_text path (kind_text s.ty) s.type_identifier)) s.module_path
    else Some (fnv fnv_start s.type_identifier)

-- the declaration id: the given one where it isn't 0, else that hash
abbrev pub declared_id : Shape → Option ℕ
declared_id s = if s.decl_id.0 == 0 then hashed_id s else Some s.decl_id.0

-- the shape with its declaration id, where there is one
abbrev pub with_declared_id : Shape → Option Shape
with_declared_id s = option_map (λ n. record s { decl_id = record { 0 = n } }) (declared_id s)

-- what is built: the shape with its type, and then with its declaration id
abbrev pub built : Shape → Option Shape
built s = with_declared_id (with_resolved_type s)
