-- Shapes with each list compared by its items: its spare capacity is no part of the description.
use Rattle.facet_base.specs.Many.{without_spare}
use Rattle.facet_desc.specs.WithoutSpare.{ty_without_spare}
use Rattle.facet_shape.specs.declared.shape.Shape.{Shape}

-- the shape by the items of its lists
abbrev pub shape_without_spare : Shape → Shape
shape_without_spare s =
    record s {
      ty = ty_without_spare s.ty;
      type_params = without_spare s.type_params;
      const_params = without_spare s.const_params;
      doc = without_spare s.doc;
      attributes = without_spare s.attributes;
      format_proxies = without_spare s.format_proxies;
      variance = record (s.variance) { deps = without_spare s.variance.deps };
    }
