use Rattle.std.proofs.Common.{arith}
use Rattle.facet_block.specs.Seq.{filled_of}
use Rattle.facet_iterate.proofs.Ends.{gives_first}
use Rattle.facet_iterate.proofs.elements.ListIterIterator.next.Goals as goal

pub returns-clause-steps : goal.returns-clause-steps
returns-clause-steps g c =
    let it = c.self.inside in
    rw (← c.self.view_is) (gives_first (filled_of it.blocks.now) it.first it.end (omega (arith, c.if-self.false, c.self.invariant.0)) c.self.invariant.1 c.start_in-element.result c.start_in-element.ensures)
