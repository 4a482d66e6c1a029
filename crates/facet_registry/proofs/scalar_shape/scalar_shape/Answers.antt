use Rattle.std.proofs.Common.{◌∙◌, ap, sym}
use Rattle.std.specs.Result.{result_ok}
use Rattle.facet_registry.proofs.Scalars.{is_fresh, scalar_built, scalar_is_built}
use Rattle.facet_registry.proofs.scalar_shape.scalar_shape.Goals as goal

pub unreachable-requires : goal.unreachable-requires
unreachable-requires g c =
    let is = is_fresh c.args.kind c.for_unsized-fresh.result _ c.for_unsized-fresh.ensures (c.in_ok-identifier.ensures ∙ c.identifier.ensures) in
    scalar_is_built g.L.Leaf.model c.args.kind c.for_unsized-fresh.result is c.in_ok-described.field-0 c.in_ok-described.ensures (sym (ap result_ok c.in-Err.is) ∙ c.build.ensures)

pub returns : goal.returns
returns g c =
    let is = is_fresh c.args.kind c.for_unsized-fresh.result _ c.for_unsized-fresh.ensures (c.in_ok-identifier.ensures ∙ c.identifier.ensures) in
    scalar_built g.L.Leaf.model c.args.kind c.for_unsized-fresh.result is c.in_ok-described.field-0 c.in-Ok.shape c.in_ok-described.ensures c.in-Ok.ensures c.args.id.0
