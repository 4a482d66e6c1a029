use Rattle.std.proofs.Common.{IsSomeAnd, ◌*◌, ◌∙◌, arith, subst}
use Rattle.facet_walk.specs.Look.{IsInside, places_of}
use Rattle.facet_readable.proofs.KeyLookups.{key_of_map}
use Rattle.facet_readable.proofs.Neighbours.{within}
use Rattle.facet_readable.proofs.ascending.key_at.Goals as goal

pub overflow_mul-i : goal.overflow_mul-i
overflow_mul-i g c =
    let inside = subst (λ o. IsSomeAnd o IsInside) (key_of_map c.args.form (places_of c.args.parts) c.args.i c.in-Map.is) c.requires in
    let below = within IsInside (places_of c.args.parts) (2 * c.args.i) inside in
    omega (arith, below, c.len-count.type_inv, c.len-count.ensures)

pub part-requires : goal.part-requires
part-requires g c = subst (λ o. IsSomeAnd o IsInside) (key_of_map c.args.form (places_of c.args.parts) c.args.i c.in-Map.is) c.requires

pub returns-in-Map : goal.returns-in-Map
returns-in-Map g c = key_of_map c.args.form (places_of c.args.parts) c.args.i c.in-Map.is ∙ c.part.ensures
