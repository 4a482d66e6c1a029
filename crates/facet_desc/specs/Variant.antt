-- Which variant of an enum is looked for, and what a builder of variants begins with.
use Rattle.std.specs.Prelude.{ℕ, List, [], Option, None, bytes_eq, find, if◌then◌else◌}
use Rattle.facet_base.specs.Many.{of_items}
use Rattle.facet_desc.specs.declared.enum_type.EnumType.{EnumType}
use Rattle.facet_desc.specs.declared.struct_type.StructType.{StructType}
use Rattle.facet_desc.specs.declared.variant.Variant.{Variant}

-- the first variant of a name
abbrev pub variant_named : List ℕ → List Variant → Option Variant
variant_named name variants = find (λ v. bytes_eq v.name name) variants

-- the first variant of that name, where the enum's values are borrowed or owned
abbrev pub cow_variant : List ℕ → EnumType → Option Variant
cow_variant name e = if e.is_cow then variant_named name e.variants.items else None

-- the variant of a name and a body, of which nothing else is set
unfoldable pub fresh_variant : List ℕ → StructType → Variant
fresh_variant name body =
    record {
      name = name;
      rename = None;
      discriminant = None;
      attributes = of_items [];
      body = body;
      doc = of_items [];
    }
