use Rattle.facet_outline.proofs.SameItems.{eager_references_same, height_references_same, inline_parts_same, kind_same, parts_same, references_same}
use Rattle.facet_outline.proofs.laws.readings_are_of_items.Goals as goal

pub returns : goal.returns
returns c =
    record {
      kind = kind_same;
      inline_parts = inline_parts_same;
      parts = parts_same;
      height_references = height_references_same;
      eager_references = eager_references_same;
      references = references_same;
    }
