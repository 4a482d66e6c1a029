use Rattle.std.proofs.Common.{arith, length-append, sym}
use Rattle.facet_base.specs.declared.characteristic.Characteristic.TheVariants.{FromStr}
use Rattle.facet_session.proofs.commands.put.parse.Goals as goal
use Rattle.facet_registry.proofs.SealedLeaves.{sealed_leaves}

pub kind_of-requires : goal.kind_of-requires
kind_of-requires g c = omega (arith, length-append c.args.shapes.now.sealed c.args.shapes.now.drafts, c.requires.sealed)

pub parse-requires : goal.parse-requires
parse-requires g c = (sealed_leaves g.L.Leaf.model c.args.shapes.now.sealed c.requires.registry.well_formed c.args.shape.0 c.requires.sealed).capable c.in-Leaf.kind FromStr (sym (c.in-Leaf.ensures.sealed c.requires.sealed)) c.requires.parses
