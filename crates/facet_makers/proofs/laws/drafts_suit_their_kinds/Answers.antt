use Rattle.facet_makers.proofs.Suits.{array_suits, box_suits, boxed_slice_suits, list_suits, map_suits, option_suits, result_suits, set_suits, slice_suits, tuple_suits}
use Rattle.facet_makers.proofs.laws.drafts_suit_their_kinds.Goals as goal

pub returns : goal.returns
returns g c =
    let m = g.L.Leaf.model in
    record {
      option = option_suits m;
      result = result_suits m;
      list = list_suits m;
      map = map_suits m;
      set = set_suits m;
      array = array_suits m;
      slice = slice_suits m;
      boxed = box_suits m;
      boxed_slice = boxed_slice_suits m;
      tuple = tuple_suits m;
    }
