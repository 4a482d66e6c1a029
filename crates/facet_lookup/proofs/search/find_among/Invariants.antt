use Rattle.std.proofs.Common.{◌-◌, length}
use Rattle.facet_block.specs.Seq.{filled_of}
use Rattle.facet_lookup.specs.Find.{keys_at}
use Rattle.facet_values.specs.Reading.{value_at}
use Rattle.facet_walk.specs.Look.{pointed}
use Rattle.facet_lookup.proofs.KeySearch.{IsBetween, IsHalved}
use Rattle.facet_lookup.proofs.search.find_among.Given as goal

abbrev pub decreases-loop-low : goal.decreases-loop-low
decreases-loop-low g l = l.high - l.low

-- the keys before the range are less, and those behind it greater; the range was halved at each step
abbrev pub invariant-loop-low : goal.invariant-loop-low
invariant-loop-low g l =
    IsBetween g.L.Leaf.model l.shapes.sealed l.s.0 (value_at l.shapes.sealed 100 (pointed l.s l.key)) (keys_at l.shapes.sealed l.s.0 (filled_of l.blocks)) l.low l.high
    × IsHalved (length (filled_of l.blocks)) l.fn.steps l.steps (l.high - l.low)
