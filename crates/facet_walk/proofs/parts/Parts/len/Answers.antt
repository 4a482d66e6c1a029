use Rattle.std.proofs.Common.{◌*◌, ◌∙◌, length, ap, sym}
use Rattle.facet_block.specs.Seq.{filled_of}
use Rattle.facet_walk.specs.Look.{places_of}
use Rattle.facet_walk.proofs.PartLookups.{length_elements, length_pairs, length_row}
use Rattle.facet_walk.proofs.parts.Parts.len.Goals as goal

pub returns-in-Row : goal.returns-in-Row
returns-in-Row g c = length_row c.in-Row.at c.in-Row.shape c.in-Row.count c.in-Row.size ∙ sym (ap (λ a. length (places_of a)) c.in-Row.is)

pub returns-in-Elements : goal.returns-in-Elements
returns-in-Elements g c =
    c.len.ensures ∙ length_elements c.in-Elements.field-0 (filled_of c.in-Elements.blocks.now) ∙ sym (ap (λ a. length (places_of a)) c.in-Elements.is)

pub returns-in-Pairs : goal.returns-in-Pairs
returns-in-Pairs g c =
    ap (λ n. 2 * n) c.len-in-Pairs.ensures
    ∙ length_pairs c.in-Pairs.key c.in-Pairs.value c.in-Pairs.offset (filled_of c.in-Pairs.blocks.now)
    ∙ sym (ap (λ a. length (places_of a)) c.in-Pairs.is)
