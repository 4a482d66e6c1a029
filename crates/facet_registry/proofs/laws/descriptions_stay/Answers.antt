use Rattle.facet_registry.proofs.SealedReadings.{kind_stays, offer_stays, pair_value_offset_stays, part_offset_stays, size_stays, tag_width_stays}
use Rattle.facet_registry.proofs.laws.descriptions_stay.Goals as goal

pub returns : goal.returns
returns g c =
    let m = g.L.Leaf.model in
    record {
      kind = λ xs ys s well below. kind_stays m xs ys well s below;
      size = λ xs ys s well below. size_stays m xs ys well s below;
      can = λ xs ys s of well below. offer_stays m xs ys well s below of;
      tag = λ xs ys s well below. tag_width_stays m xs ys well s below;
      part = λ xs ys s well below. part_offset_stays m xs ys well s below;
      pair = λ xs ys s well below. pair_value_offset_stays m xs ys well s below;
    }
