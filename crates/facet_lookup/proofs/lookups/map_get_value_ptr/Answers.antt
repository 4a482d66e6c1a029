use Rattle.std.proofs.Common.{sym, ◌∙◌}
use Rattle.facet_lookup.specs.Find.{key_shape, keys_in}
use Rattle.facet_lookup.proofs.FoundValues.{found_below}
use Rattle.facet_lookup.proofs.lookups.map_get_value_ptr.Goals as goal

pub value_in-requires-clause-below : goal.value_in-requires-clause-below
value_in-requires-clause-below g c = λ v reads.
    found_below g.L.Leaf.model c.args.shapes.now.sealed (key_shape c.args.shapes.now.sealed c.args.s.0) c.requires.key.value (keys_in v) c.in-Ok.i
    (sym (c.find_key.ensures.found v c.requires.key.value reads c.requires.key.reads) ∙ c.in-Ok.is)
