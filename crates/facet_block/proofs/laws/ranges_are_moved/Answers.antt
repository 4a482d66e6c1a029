use Rattle.facet_block.proofs.Ranges.{arrived_moved_in, changed_moved_in, cleared_moved_out}
use Rattle.facet_block.proofs.laws.ranges_are_moved.Goals as goal

pub returns : goal.returns
returns g c =
    let a = c.args in
    record {
      arrived = arrived_moved_in a.destination.now a.at a.source.now a.from a.size c.requires.inside c.requires.source_inside;
      changed = changed_moved_in a.destination.now a.at a.source.now a.from a.size c.requires.inside c.requires.source_inside;
      cleared = cleared_moved_out a.source.now a.from a.size c.requires.source_inside;
    }
