use Rattle.facet_outline.proofs.SameItems.{bodies_same, discriminants_of_kind_same, is_packed_struct_same, placed_fields_same, repr_of_kind_same, tag_bytes_same}
use Rattle.facet_outline.proofs.laws.readings_of_a_kind_are_of_items.Goals as goal

pub returns : goal.returns
returns c =
    record {
      placed_fields = placed_fields_same;
      bodies = bodies_same;
      is_packed_struct = is_packed_struct_same;
      repr = repr_of_kind_same;
      tag_bytes = tag_bytes_same;
      discriminants = discriminants_of_kind_same;
    }
