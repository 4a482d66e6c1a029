-- What a builder of fields begins with.
use Rattle.std.specs.Prelude.{ℕ, List, [], None}
use Rattle.facet_base.specs.Many.{of_items}
use Rattle.facet_base.specs.declared.layout.ShapeId.{ShapeId}
use Rattle.facet_desc.specs.declared.field.Field.{Field}

-- the field of a name and a shape at an offset in bytes, of which nothing else is set
unfoldable pub fresh_field : List ℕ → ShapeId → ℕ → Field
fresh_field name shape offset =
    record {
      name = name;
      rename = None;
      alias = None;
      shape = shape;
      offset = offset;
      flags = record { bits = 0 };
      attributes = of_items [];
      doc = of_items [];
      default = None;
      skip_serializing_if = None;
      invariants = None;
      proxy = None;
      format_proxies = of_items [];
      metadata = None;
    }
