use Rattle.std.proofs.Common.{IsSomeAnd, ◌<◌, arith, length, subst, sym}
use Rattle.facet_values.proofs.KindStructures.{structure_of_leaf}
use Rattle.facet_values.specs.Reading.{IsReadableWithin}
use Rattle.facet_compare.proofs.leaves.leaves_among.Goals as goal

pub returns-in-Leaf-clause-leaves : goal.returns-in-Leaf-clause-leaves
returns-in-Leaf-clause-leaves g c =
    let sealed = c.args.shapes.now.sealed in
    let first = subst (λ o. IsSomeAnd o (λ q. (q.shape < length sealed) × IsReadableWithin g.L.Leaf.model sealed c.args.levels q)) c.part.ensures (c.requires.each 0 (omega (arith, c.len.ensures, c.if-len-eq0.false))) in
    (c.in-Leaf.field-0, structure_of_leaf sealed c.part.result.shape.0 c.in-Leaf.field-0 (sym (c.in-Leaf.ensures.sealed first.0)))
