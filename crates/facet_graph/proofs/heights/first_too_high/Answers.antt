use Rattle.facet_graph.proofs.Tables.{low_within}
use Rattle.facet_graph.proofs.heights.first_too_high.Goals as goal

pub loop-node-init : goal.loop-node-init
loop-node-init g c = λ s below high. high (low_within _ s _ (c.requires.first s below))
