use Rattle.std.proofs.Common.{refl, sym, subst}
use Rattle.facet_values.specs.Place.{place_in}
use Rattle.facet_values.specs.Reading.{IsReadable}
use Rattle.facet_walk.specs.Look.{place_of}
use Rattle.facet_readable.proofs.OrderedKeys.{answer_of_places}
use Rattle.facet_readable.proofs.ascending.is_less.Goals as goal

pub call_cmp-requires-clause-second : goal.call_cmp-requires-clause-second
call_cmp-requires-clause-second g c =
    subst (λ s. IsReadable g.L.Leaf.model c.args.shapes.now.sealed (place_in s c.args.b.at.block.now c.args.b.at.offset)) (sym c.requires.same) c.requires.second

pub returns-in-Some-Less : goal.returns-in-Some-Less
returns-in-Some-Less g c =
    let found = rw c.in-Some-Less.field-0-is at c.in-Some-Less.ensures.found in
    let is = answer_of_places g.L.Leaf.model c.args.shapes.now.sealed (place_of c.args.a) (place_of c.args.b) _ c.requires.same found in
    (λ e. sym is, λ less. refl)

pub returns-in-Some-Equal : goal.returns-in-Some-Equal
returns-in-Some-Equal g c =
    let found = rw c.in-Some-Equal.field-0-is at c.in-Some-Equal.ensures.found in
    let is = answer_of_places g.L.Leaf.model c.args.shapes.now.sealed (place_of c.args.a) (place_of c.args.b) _ c.requires.same found in
    (λ e. absurd (cc), λ less. absurd (cc))

pub returns-in-Some-Greater : goal.returns-in-Some-Greater
returns-in-Some-Greater g c =
    let found = rw c.in-Some-Greater.field-0-is at c.in-Some-Greater.ensures.found in
    let is = answer_of_places g.L.Leaf.model c.args.shapes.now.sealed (place_of c.args.a) (place_of c.args.b) _ c.requires.same found in
    (λ e. absurd (cc), λ less. absurd (cc))

pub returns-in-None : goal.returns-in-None
returns-in-None g c =
    let is = answer_of_places g.L.Leaf.model c.args.shapes.now.sealed (place_of c.args.a) (place_of c.args.b) _ c.requires.same c.in-None.ensures.found in
    (λ e. absurd (cc), λ less. absurd (cc))
