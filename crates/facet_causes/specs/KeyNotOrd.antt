-- Maps and sets whose keys can't be kept in an order.
use Rattle.std.specs.Prelude.{List, Any}
use Rattle.std.specs.Option.{option_to_list}
use Rattle.facet_base.specs.declared.layout.ShapeId.{ShapeId}
use Rattle.facet_causes.specs.Reading.{indices, kind_in, lacks_order, parts_at}
use Rattle.facet_graph.specs.Reach.{ReachesBad}
use Rattle.facet_outline.specs.Part.{key_of_kind}
use Rattle.facet_shape.specs.declared.shape.Shape.{Shape}

-- the key of a map, or the item of a set
abbrev pub keys_of : List Shape → Shape → List ShapeId
keys_of shapes shape = option_to_list (key_of_kind (kind_in shapes shape) shape.def)

-- it is a map or a set, and from its key or item a shape without an order is reached by parts
abbrev pub HasKeyWithoutOrder : List Shape → Shape → Type 0
HasKeyWithoutOrder shapes shape = Any (ReachesBad (parts_at shapes) (lacks_order shapes)) (indices (keys_of shapes shape))
