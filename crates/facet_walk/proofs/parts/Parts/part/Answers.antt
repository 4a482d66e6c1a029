use Rattle.std.proofs.Common.{◌+◌, ◌*◌, ◌/◌, ◌<◌, ◌∙◌, length, slice_get, Some, ap, sym, subst}
use Rattle.facet_block.specs.Seq.{filled_of}
use Rattle.facet_values.specs.Place.{place_in}
use Rattle.facet_walk.specs.Look.{IsInside, places_of}
use Rattle.facet_walk.proofs.PartLookups.{elements_lookup, even_lookup, fields_lookup, found_mapped, held, length_row, odd_lookup, row_lookup, within}
use Rattle.facet_walk.proofs.parts.Parts.part.Goals as goal

pub place_of_field-requires : goal.place_of_field-requires
place_of_field-requires g c =
    let at = c.in-Fields.at in
    found_mapped IsInside (places_of c.args.self.now) c.args.i (λ f. place_in f.shape.0 at.block.now (at.offset + f.offset)) (slice_get c.in-Fields.fields.now c.args.i)
    (ap (λ a. slice_get (places_of a) c.args.i) c.in-Fields.is ∙ fields_lookup at c.in-Fields.fields.now c.args.i)
    c.requires

pub place_in_row-requires-clause-below : goal.place_in_row-requires-clause-below
place_in_row-requires-clause-below g c =
    subst (λ n. c.args.i < n)
    (ap (λ a. length (places_of a)) c.in-Row.is ∙ sym (length_row c.in-Row.at c.in-Row.shape c.in-Row.count c.in-Row.size))
    (within IsInside (places_of c.args.self.now) c.args.i c.requires)

pub place_in_row-requires-clause-inside : goal.place_in_row-requires-clause-inside
place_in_row-requires-clause-inside g c =
    let at = c.in-Row.at in
    let below = subst (λ n. c.args.i < n)
    (ap (λ a. length (places_of a)) c.in-Row.is ∙ sym (length_row at c.in-Row.shape c.in-Row.count c.in-Row.size))
    (within IsInside (places_of c.args.self.now) c.args.i c.requires) in
    held IsInside (places_of c.args.self.now) c.args.i (place_in c.in-Row.shape.0 at.block.now (at.offset + c.args.i * c.in-Row.size))
    (ap (λ a. slice_get (places_of a) c.args.i) c.in-Row.is ∙ row_lookup at c.in-Row.shape c.in-Row.count c.in-Row.size c.args.i below)
    c.requires

pub place_in_block-requires : goal.place_in_block-requires
place_in_block-requires g c =
    let id = c.in-Elements.shape in
    let blocks = filled_of c.in-Elements.blocks.now in
    found_mapped IsInside (places_of c.args.self.now) c.args.i (λ block. place_in id.0 block 0) (slice_get blocks c.args.i)
    (ap (λ a. slice_get (places_of a) c.args.i) c.in-Elements.is ∙ elements_lookup id blocks c.args.i)
    c.requires

pub place_in_block-requires-then-i-eq0 : goal.place_in_block-requires-then-i-eq0
place_in_block-requires-then-i-eq0 g c =
    let key = c.in-Pairs.key in
    let blocks = filled_of c.in-Pairs.blocks.now in
    found_mapped IsInside (places_of c.args.self.now) c.args.i (λ block. place_in key.0 block 0) (slice_get blocks (c.args.i / 2))
    (ap (λ a. slice_get (places_of a) c.args.i) c.in-Pairs.is ∙ even_lookup key c.in-Pairs.value c.in-Pairs.offset blocks c.args.i c.if-i-eq0.true)
    c.requires

pub place_in_block-requires-else-i-eq0 : goal.place_in_block-requires-else-i-eq0
place_in_block-requires-else-i-eq0 g c =
    let value = c.in-Pairs.value in
    let offset = c.in-Pairs.offset in
    let blocks = filled_of c.in-Pairs.blocks.now in
    found_mapped IsInside (places_of c.args.self.now) c.args.i (λ block. place_in value.0 block offset) (slice_get blocks (c.args.i / 2))
    (ap (λ a. slice_get (places_of a) c.args.i) c.in-Pairs.is ∙ odd_lookup c.in-Pairs.key value offset blocks c.args.i c.if-i-eq0.false)
    c.requires

pub returns-in-Fields : goal.returns-in-Fields
returns-in-Fields g c =
    ap (λ a. slice_get (places_of a) c.args.i) c.in-Fields.is ∙ fields_lookup c.in-Fields.at c.in-Fields.fields.now c.args.i ∙ c.place_of_field.ensures

pub returns-in-Row : goal.returns-in-Row
returns-in-Row g c =
    let at = c.in-Row.at in
    let below = subst (λ n. c.args.i < n)
    (ap (λ a. length (places_of a)) c.in-Row.is ∙ sym (length_row at c.in-Row.shape c.in-Row.count c.in-Row.size))
    (within IsInside (places_of c.args.self.now) c.args.i c.requires) in
    ap (λ a. slice_get (places_of a) c.args.i) c.in-Row.is
    ∙ row_lookup at c.in-Row.shape c.in-Row.count c.in-Row.size c.args.i below
    ∙ ap Some (sym c.place_in_row.ensures)

pub returns-in-Elements : goal.returns-in-Elements
returns-in-Elements g c =
    ap (λ a. slice_get (places_of a) c.args.i) c.in-Elements.is
    ∙ elements_lookup c.in-Elements.shape (filled_of c.in-Elements.blocks.now) c.args.i
    ∙ c.place_in_block.ensures

pub returns-then-i-eq0 : goal.returns-then-i-eq0
returns-then-i-eq0 g c =
    ap (λ a. slice_get (places_of a) c.args.i) c.in-Pairs.is
    ∙ even_lookup c.in-Pairs.key c.in-Pairs.value c.in-Pairs.offset (filled_of c.in-Pairs.blocks.now) c.args.i c.if-i-eq0.true
    ∙ c.place_in_block-then-i-eq0.ensures

pub returns-else-i-eq0 : goal.returns-else-i-eq0
returns-else-i-eq0 g c =
    ap (λ a. slice_get (places_of a) c.args.i) c.in-Pairs.is
    ∙ odd_lookup c.in-Pairs.key c.in-Pairs.value c.in-Pairs.offset (filled_of c.in-Pairs.blocks.now) c.args.i c.if-i-eq0.false
    ∙ c.place_in_block-else-i-eq0.ensures
