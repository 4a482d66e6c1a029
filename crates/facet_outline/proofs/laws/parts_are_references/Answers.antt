use Rattle.facet_outline.proofs.PartReferences.{eager_is_reference, height_is_eager, inline_is_part, part_is_reference}
use Rattle.facet_outline.proofs.laws.parts_are_references.Goals as goal

pub returns : goal.returns
returns c =
    record {
      inline_parts = inline_is_part;
      parts = part_is_reference;
      height = height_is_eager;
      eager = eager_is_reference;
    }
