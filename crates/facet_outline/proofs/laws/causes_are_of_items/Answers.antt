use Rattle.facet_outline.proofs.SameCauses.{has_bad_layout_same, has_unsized_part_same, is_mismatched_same, has_unoffered_member_same}
use Rattle.facet_outline.proofs.laws.causes_are_of_items.Goals as goal

pub returns : goal.returns
returns g c =
    record {
      mismatched = is_mismatched_same;
      unsized_part = has_unsized_part_same;
      bad_layout = has_bad_layout_same;
      capability = has_unoffered_member_same g.L.Leaf.model;
    }
