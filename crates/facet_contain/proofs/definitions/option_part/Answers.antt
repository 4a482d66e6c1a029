use Rattle.facet_shape.specs.WithoutSpare.{shape_without_spare}
use Rattle.facet_contain.proofs.ContainerKinds.{always_option, option_part_is}
use Rattle.facet_contain.proofs.definitions.option_part.Goals as goal

pub returns : goal.returns
returns g c = option_part_is c.args.shapes.now.sealed c.args.s.0 (shape_without_spare c.sealed_shape.result.now) c.sealed_shape.ensures c.requires.kind c.in-Option.option c.in-Option.is

pub unreachable-requires : goal.unreachable-requires
unreachable-requires g c = always_option c.args.shapes.now.sealed c.args.s.0 (shape_without_spare c.sealed_shape.result.now) c.sealed_shape.ensures c.requires.kind c.in_default.not-Option
