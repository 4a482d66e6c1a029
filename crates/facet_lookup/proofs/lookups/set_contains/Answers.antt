use Rattle.std.proofs.Common.{sym, ◌∙◌}
use Rattle.facet_lookup.specs.Find.{key_shape, keys_in}
use Rattle.facet_lookup.proofs.FoundValues.{key_absent, key_there}
use Rattle.facet_lookup.proofs.lookups.set_contains.Goals as goal

pub returns-in-Ok-clause-found : goal.returns-in-Ok-clause-found
returns-in-Ok-clause-found g c = λ v k reads key_reads.
    key_there g.L.Leaf.model c.args.shapes.now.sealed (key_shape c.args.shapes.now.sealed c.args.s.0) k (keys_in v) c.in-Ok.field-0 (sym (c.find_key.ensures.found v k reads key_reads) ∙ c.in-Ok.is)

pub returns-in-Err-clause-found : goal.returns-in-Err-clause-found
returns-in-Err-clause-found g c = λ v k reads key_reads.
    key_absent g.L.Leaf.model c.args.shapes.now.sealed (key_shape c.args.shapes.now.sealed c.args.s.0) k (keys_in v) c.in-Err.field-0 (sym (c.find_key.ensures.found v k reads key_reads) ∙ c.in-Err.is)
