use Rattle.std.proofs.Common.{◌∙◌, ap}
use Rattle.std.specs.Int.{div_ceil}
use Rattle.facet_walk.specs.Look.{places_of}
use Rattle.facet_readable.proofs.KeyLookups.{count_of_map}
use Rattle.facet_readable.proofs.ascending.key_count.Goals as goal

pub returns-in-Map : goal.returns-in-Map
returns-in-Map g c = c.div_ceil.ensures ∙ ap (λ n. div_ceil n 2) c.len.ensures ∙ count_of_map c.args.form (places_of c.args.parts) c.in-Map.is
