use Rattle.facet_walk.specs.Look.{place_of}
use Rattle.facet_compare.proofs.KnownLeaves.{leaf_lies, leaf_seen, of_known}
use Rattle.facet_compare.proofs.look.see_value.Goals as goal

pub get-requires : goal.get-requires
get-requires g c = leaf_lies c.args.shapes.now.sealed (place_of c.args.place) (of_known c.args.shapes.now.sealed c.if-is_known.ensures c.requires.leaves) c.requires.some

pub returns-then-is_known : goal.returns-then-is_known
returns-then-is_known g c = leaf_seen c.args.shapes.now.sealed (place_of c.args.place) (of_known c.args.shapes.now.sealed c.if-is_known.ensures c.requires.leaves) c.get.result.now c.get.ensures
