use Rattle.std.proofs.Common.{subst, sym}
use Rattle.facet_causes.specs.Causes.{IsWellFormed}
use Rattle.facet_causes.specs.First.{Explains}
use Rattle.facet_registry.proofs.WellFormedPrelude.{prelude_well_formed}
use Rattle.facet_registry.proofs.registry.prelude_tables.Goals as goal

pub unreachable-requires : goal.unreachable-requires
unreachable-requires g c =
    let m = g.L.Leaf.model in
    let shapes = c.args.shapes.now in
    let error = c.in-Err-Refused.field-0-0 in
    let well : IsWellFormed m shapes = subst (IsWellFormed m) (sym c.requires) (prelude_well_formed m g.met.L.Leaf.laws) in
    let first = subst (Explains m shapes) c.in-Err-Refused.field-0-is c.in-Err-Refused.ensures.refused in
    well error.cause error.shape.0 first.least.0 first.least.1
