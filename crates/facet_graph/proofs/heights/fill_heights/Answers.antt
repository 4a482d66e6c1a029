use Rattle.std.proofs.Common.{arith}
use Rattle.std.proofs.lemmas.Grind.{common_steps}
use Rattle.facet_graph.proofs.Tables.{low_positive}
use Rattle.facet_graph.proofs.heights.fill_heights.Goals as goal

pub fill_blanks-requires-clause-before : goal.fill_blanks-requires-clause-before
fill_blanks-requires-clause-before g c = λ s below.
    let some = low_positive _ s _ (c.requires.known s (omega (arith, below, c.len-first.ensures))) in
    grind (arith, common_steps, some)
