use Rattle.facet_shape.specs.WithoutSpare.{shape_without_spare}
use Rattle.facet_contain.proofs.ContainerKinds.{always_result, result_parts_are}
use Rattle.facet_contain.proofs.definitions.result_parts.Goals as goal

pub returns : goal.returns
returns g c = result_parts_are c.args.shapes.now.sealed c.args.s.0 (shape_without_spare c.sealed_shape.result.now) c.sealed_shape.ensures c.requires.kind c.in-Result.result c.in-Result.is

pub unreachable-requires : goal.unreachable-requires
unreachable-requires g c = always_result c.args.shapes.now.sealed c.args.s.0 (shape_without_spare c.sealed_shape.result.now) c.sealed_shape.ensures c.requires.kind c.in_default.not-Result
