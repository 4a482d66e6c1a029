use Rattle.std.proofs.Common.{◌∙◌, refl, ap, subst, arith, length, slice_get, Ok, Err, Some, None}
use Rattle.std.proofs.lemmas.List.{length-map}
use Rattle.facet_block.specs.Block.{size_of}
use Rattle.facet_make.proofs.CloneSteps.{inline_at_stop, leaf_can_clone, leaf_cloned, leaf_of_shape, other_case, part_after, part_behind, part_inside, part_vacant, plain_cloned, plain_ranges, plain_same, variant_below, variant_byte, variant_case, variant_empty, variant_inline, variant_inside, variant_kind, variant_made, variant_stopped, variant_vacant}
use Rattle.facet_make.proofs.ClonedNodes.{clone_refused, inline_seen, nothing_cloned, part_of_place, parts_cloned, plain_seen, tag_seen, variant_cloned}
use Rattle.facet_make.proofs.MadeByStructure.{own_byte, own_empty, stopped_at_once}
use Rattle.facet_make.proofs.PartsMade.{PartsMade-end, PartsMade-none, PartsMade-readable, PartsMade-room, PartsMade-step, PartsMade-stop, PartsMade-vacant}
use Rattle.facet_make.proofs.TaggedMade.{inline_apart}
use Rattle.facet_make.specs.Clone.{is_cloned}
use Rattle.facet_make.specs.Walk.{AfterOne}
use Rattle.facet_registry.specs.Registry.{size_at}
use Rattle.facet_trees.specs.Structure.{scalar}
use Rattle.facet_values.proofs.LaidOut.{laid_out}
use Rattle.facet_values.specs.Place.{part_place}
use Rattle.facet_values.specs.Replaced.{body_at}
use Rattle.facet_walk.proofs.ReadableParts.{known_at, levels_positive, parts_seen, readable_at}
use Rattle.facet_walk.specs.Look.{place_of, places_of}
use Rattle.facet_make.proofs.clone.+clones.Goals as goal

pub clone_at-returns-then-not-offers : goal.clone_at-returns-then-not-offers
clone_at-returns-then-not-offers g t c = stopped_at_once (clone_refused g.L.Leaf.model c.args.shapes.now.sealed c.args.source.shape.0 _ (c.if-not-offers.ensures.sealed c.requires.sealed)) c.requires.room

pub clone_at-put_clone-requires-clause-can : goal.clone_at-put_clone-requires-clause-can
clone_at-put_clone-requires-clause-can g t c =
    let seen = rw c.in-Some-Leaf.field-0-is at c.in-Some-Leaf.ensures in
    leaf_can_clone g.L.Leaf.model c.args.shapes.now.sealed c.requires.readable seen c.requires.well_formed (c.if-not-offers.ensures.sealed c.requires.sealed)

pub clone_at-put_clone-requires-clause-below : goal.clone_at-put_clone-requires-clause-below
clone_at-put_clone-requires-clause-below g t c =
    let m = g.L.Leaf.model in
    let shapes = c.args.shapes.now.sealed in
    let seen = rw c.in-Some-Leaf.field-0-is at c.in-Some-Leaf.ensures in
    let s = c.args.source.shape.0 in
    own_byte m shapes s c.args.at c.args.block.now (laid_out m shapes c.requires.well_formed s c.requires.sealed) c.requires.vacant (scalar _) (leaf_of_shape m shapes c.requires.readable seen) refl

pub clone_at-put_clone-requires-clause-empty : goal.clone_at-put_clone-requires-clause-empty
clone_at-put_clone-requires-clause-empty g t c =
    let m = g.L.Leaf.model in
    let shapes = c.args.shapes.now.sealed in
    let seen = rw c.in-Some-Leaf.field-0-is at c.in-Some-Leaf.ensures in
    let s = c.args.source.shape.0 in
    own_empty m shapes s c.args.at c.args.block.now (laid_out m shapes c.requires.well_formed s c.requires.sealed) c.requires.vacant (scalar _) (leaf_of_shape m shapes c.requires.readable seen) refl

pub clone_at-returns-in-Ok : goal.clone_at-returns-in-Ok
clone_at-returns-in-Ok g t c =
    let m = g.L.Leaf.model in
    let shapes = c.args.shapes.now.sealed in
    let seen = rw c.in-Some-Leaf.field-0-is at c.in-Some-Leaf.ensures in
    leaf_cloned m shapes c.requires.readable seen c.requires.well_formed g.met.L.Leaf.laws (c.if-not-offers.ensures.sealed c.requires.sealed)
    (laid_out m shapes c.requires.well_formed c.args.source.shape.0 c.requires.sealed) c.requires.vacant c.in-Ok.ensures.put c.put_clone.ensures.leaves c.put_clone.ensures.spare

pub clone_at-clone_parts-requires : goal.clone_at-clone_parts-requires
clone_at-clone_parts-requires g t c κs within =
    let m = g.L.Leaf.model in
    let shapes = c.args.shapes.now.sealed in
    let seen = rw c.in-Some-Node.field-0-is at c.in-Some-Node.ensures in
    let p = place_of c.args.source in
    let laid = laid_out m shapes c.requires.well_formed c.args.source.shape.0 c.requires.sealed in
    let here = plain_seen shapes p c.in-Some-Node.form (places_of c.in-Some-Node.parts) c.in-Parts.ensures seen in
    let inline = inline_seen shapes p c.in-Some-Node.form (places_of c.in-Some-Node.parts) (parts_cloned c.in-Some-Node.form c.in-Parts.ensures) seen in (
      omega (arith, c.decreases, levels_positive c.requires.readable),
      (
        within,
        (
          c.requires.well_formed,
          (
            c.requires.sealed,
            (
              inline.places,
              (
                parts_seen c.requires.readable c.requires.well_formed c.requires.sealed seen,
                (
                  c.requires.vacant.inside,
                  (plain_same m shapes here c.args.block.now c.args.at, (plain_ranges m shapes here c.args.at c.args.block.now laid c.requires.vacant, c.requires.room)),
                ),
              ),
            ),
          ),
        ),
      ),
    )

pub clone_at-returns-in-Parts : goal.clone_at-returns-in-Parts
clone_at-returns-in-Parts g t c =
    let m = g.L.Leaf.model in
    let shapes = c.args.shapes.now.sealed in
    let seen = rw c.in-Some-Node.field-0-is at c.in-Some-Node.ensures in
    let p = place_of c.args.source in
    let laid = laid_out m shapes c.requires.well_formed c.args.source.shape.0 c.requires.sealed in
    let cloned = parts_cloned c.in-Some-Node.form c.in-Parts.ensures in
    let here = plain_seen shapes p c.in-Some-Node.form (places_of c.in-Some-Node.parts) c.in-Parts.ensures seen in
    let inline = inline_seen shapes p c.in-Some-Node.form (places_of c.in-Some-Node.parts) cloned seen in
    plain_cloned m shapes here c.args.levels c.args.at c.args.held c.args.block.now c.clone_parts.new.block c.args.log.now c.clone_parts.new.log c.clone_parts.result c.requires.readable seen (c.if-not-offers.ensures.sealed c.requires.sealed) cloned inline laid c.requires.vacant c.clone_parts.ensures

pub clone_at-clone_variant-requires : goal.clone_at-clone_variant-requires
clone_at-clone_variant-requires g t c κs within =
    let m = g.L.Leaf.model in
    let shapes = c.args.shapes.now.sealed in
    let seen = rw c.in-Some-Node.field-0-is at c.in-Some-Node.ensures in
    let p = place_of c.args.source in
    let is = c.in-TagAndParts.ensures in
    let parts = places_of c.in-Some-Node.parts in
    let same = variant_cloned c.in-Some-Node.form c.in-TagAndParts.tag is in
    let inline = inline_seen shapes p c.in-Some-Node.form parts (ap is_cloned same) seen in (
      omega (arith, c.decreases),
      (
        within,
        (
          c.requires.well_formed,
          (
            c.requires.sealed,
            (
              levels_positive c.requires.readable,
              (
                tag_seen shapes p c.in-Some-Node.form c.in-TagAndParts.tag parts is seen,
                (inline.places, (parts_seen c.requires.readable c.requires.well_formed c.requires.sealed seen, (c.requires.vacant, c.requires.room))),
              ),
            ),
          ),
        ),
      ),
    )

pub clone_at-returns-in-TagAndParts : goal.clone_at-returns-in-TagAndParts
clone_at-returns-in-TagAndParts g t c =
    let m = g.L.Leaf.model in
    let shapes = c.args.shapes.now.sealed in
    let seen = rw c.in-Some-Node.field-0-is at c.in-Some-Node.ensures in
    let p = place_of c.args.source in
    let is = c.in-TagAndParts.ensures in
    let form = c.in-Some-Node.form in
    let same = variant_cloned form c.in-TagAndParts.tag is in
    let cloned = ap is_cloned same in
    let inline = inline_seen shapes p form (places_of c.in-Some-Node.parts) cloned seen in
    subst (λ case. AfterOne m shapes c.args.levels case c.args.source.shape.0 c.args.at c.args.held c.args.block.now c.clone_variant.new.block c.args.log.now c.clone_variant.new.log c.clone_variant.result)
    (variant_case m shapes form c.in-TagAndParts.tag same c.requires.readable seen (c.if-not-offers.ensures.sealed c.requires.sealed) cloned inline) c.clone_variant.ensures

pub clone_at-returns-in-Nothing : goal.clone_at-returns-in-Nothing
clone_at-returns-in-Nothing g t c =
    let seen = rw c.in-Some-Node.field-0-is at c.in-Some-Node.ensures in
    stopped_at_once
    (other_case g.L.Leaf.model c.args.shapes.now.sealed c.in-Some-Node.form c.requires.readable seen (c.if-not-offers.ensures.sealed c.requires.sealed) (nothing_cloned c.in-Some-Node.form c.in-Nothing.ensures))
    c.requires.room

pub clone_variant-put_tag-requires-clause-below : goal.clone_variant-put_tag-requires-clause-below
clone_variant-put_tag-requires-clause-below g t c =
    let m = g.L.Leaf.model in
    let shapes = c.args.shapes.now.sealed in
    variant_byte m shapes c.requires.tagged (laid_out m shapes c.requires.well_formed c.args.source.shape.0 c.requires.sealed) c.requires.vacant

pub clone_variant-put_tag-requires-clause-empty : goal.clone_variant-put_tag-requires-clause-empty
clone_variant-put_tag-requires-clause-empty g t c =
    let m = g.L.Leaf.model in
    let shapes = c.args.shapes.now.sealed in
    variant_empty m shapes c.requires.tagged (laid_out m shapes c.requires.well_formed c.args.source.shape.0 c.requires.sealed) c.requires.vacant

pub clone_variant-clone_parts-requires : goal.clone_variant-clone_parts-requires
clone_variant-clone_parts-requires g t c κs within =
    let m = g.L.Leaf.model in
    let shapes = c.args.shapes.now.sealed in
    let laid = laid_out m shapes c.requires.well_formed c.args.source.shape.0 c.requires.sealed in
    let has = c.requires.tagged in (
      omega (arith, c.decreases, c.requires.deep),
      (
        within,
        (
          c.requires.well_formed,
          (
            c.requires.sealed,
            (
              c.requires.parts,
              (
                c.requires.readable,
                (
                  rw c.put_tag.ensures (variant_inside m shapes has laid c.requires.vacant),
                  (
                    rw c.put_tag.ensures (variant_inline m shapes has laid c.requires.vacant),
                    (rw c.put_tag.ensures (variant_vacant m shapes has laid c.requires.vacant), c.requires.room),
                  ),
                ),
              ),
            ),
          ),
        ),
      ),
    )

pub clone_variant-returns-in-Ok-Some : goal.clone_variant-returns-in-Ok-Some
clone_variant-returns-in-Ok-Some g t c =
    let m = g.L.Leaf.model in
    let shapes = c.args.shapes.now.sealed in
    let laid = laid_out m shapes c.requires.well_formed c.args.source.shape.0 c.requires.sealed in
    variant_made m shapes c.requires.tagged laid c.requires.vacant c.requires.deep c.put_tag.ensures (rw c.in-Ok-Some.field-0-is at c.in-Ok-Some.ensures)

pub clone_variant-take_tag-requires-clause-below : goal.clone_variant-take_tag-requires-clause-below
clone_variant-take_tag-requires-clause-below g t c =
    let m = g.L.Leaf.model in
    let shapes = c.args.shapes.now.sealed in
    let laid = laid_out m shapes c.requires.well_formed c.args.source.shape.0 c.requires.sealed in
    variant_below m shapes c.requires.tagged laid c.requires.vacant c.requires.deep c.put_tag.ensures (rw c.in-Ok-None.field-0-is at c.in-Ok-None.ensures)

pub clone_variant-take_tag-requires-clause-tag : goal.clone_variant-take_tag-requires-clause-tag
clone_variant-take_tag-requires-clause-tag g t c =
    let m = g.L.Leaf.model in
    let shapes = c.args.shapes.now.sealed in
    let laid = laid_out m shapes c.requires.well_formed c.args.source.shape.0 c.requires.sealed in
    variant_kind m shapes c.requires.tagged laid c.requires.vacant c.requires.deep c.put_tag.ensures (rw c.in-Ok-None.field-0-is at c.in-Ok-None.ensures)

pub clone_variant-take_tag-requires-in-Err-clause-below : goal.clone_variant-take_tag-requires-in-Err-clause-below
clone_variant-take_tag-requires-in-Err-clause-below g t c =
    let m = g.L.Leaf.model in
    let shapes = c.args.shapes.now.sealed in
    let laid = laid_out m shapes c.requires.well_formed c.args.source.shape.0 c.requires.sealed in
    variant_below m shapes c.requires.tagged laid c.requires.vacant c.requires.deep c.put_tag.ensures c.in-Err.ensures

pub clone_variant-take_tag-requires-in-Err-clause-tag : goal.clone_variant-take_tag-requires-in-Err-clause-tag
clone_variant-take_tag-requires-in-Err-clause-tag g t c =
    let m = g.L.Leaf.model in
    let shapes = c.args.shapes.now.sealed in
    let laid = laid_out m shapes c.requires.well_formed c.args.source.shape.0 c.requires.sealed in
    variant_kind m shapes c.requires.tagged laid c.requires.vacant c.requires.deep c.put_tag.ensures c.in-Err.ensures

pub clone_variant-returns-in-Ok-None : goal.clone_variant-returns-in-Ok-None
clone_variant-returns-in-Ok-None g t c =
    let m = g.L.Leaf.model in
    let shapes = c.args.shapes.now.sealed in
    let laid = laid_out m shapes c.requires.well_formed c.args.source.shape.0 c.requires.sealed in
    variant_stopped m shapes c.requires.tagged laid c.requires.vacant c.requires.deep c.put_tag.ensures (Ok None) (rw c.in-Ok-None.field-0-is at c.in-Ok-None.ensures) c.take_tag.ensures

pub clone_variant-returns-in-Err : goal.clone_variant-returns-in-Err
clone_variant-returns-in-Err g t c =
    let m = g.L.Leaf.model in
    let shapes = c.args.shapes.now.sealed in
    let laid = laid_out m shapes c.requires.well_formed c.args.source.shape.0 c.requires.sealed in
    variant_stopped m shapes c.requires.tagged laid c.requires.vacant c.requires.deep c.put_tag.ensures (Err c.in-Err.error) c.in-Err.ensures c.take_tag-in-Err.ensures

pub clone_parts-loop-i-init : goal.clone_parts-loop-i-init
clone_parts-loop-i-init g t c = PartsMade-none c.requires.room

pub clone_parts-same_part-offset-requires-clause-behind : goal.clone_parts-same_part-offset-requires-clause-behind
clone_parts-same_part-offset-requires-clause-behind g t c =
    let p = place_of c.args.source in
    part_behind (part_of_place p (body_at c.args.shapes.now.sealed p) c.loop-i.i (place_of c.part-part.result) (ap (λ ps. slice_get ps c.loop-i.i) c.requires.parts ∙ c.part-part.ensures))

pub clone_parts-same_part-offset-requires-clause-inside : goal.clone_parts-same_part-offset-requires-clause-inside
clone_parts-same_part-offset-requires-clause-inside g t c =
    let m = g.L.Leaf.model in
    let shapes = c.args.shapes.now.sealed in
    let p = place_of c.args.source in
    let here = part_of_place p (body_at shapes p) c.loop-i.i (place_of c.part-part.result) (ap (λ ps. slice_get ps c.loop-i.i) c.requires.parts ∙ c.part-part.ensures) in
    let apart = inline_apart shapes p.shape (laid_out m shapes c.requires.well_formed p.shape c.requires.sealed) p.block p.offset in
    part_inside c.args.at (size_at shapes here.part.shape.0) c.loop-i.block here (PartsMade-vacant c.loop-i.invariant here.there apart c.requires.vacant)

pub clone_parts-clone_at-requires : goal.clone_parts-clone_at-requires
clone_parts-clone_at-requires g t c κs within =
    let m = g.L.Leaf.model in
    let shapes = c.args.shapes.now.sealed in
    let p = place_of c.args.source in
    let here = part_of_place p (body_at shapes p) c.loop-i.i (place_of c.part-part.result) (ap (λ ps. slice_get ps c.loop-i.i) c.requires.parts ∙ c.part-part.ensures) in
    let apart = inline_apart shapes p.shape (laid_out m shapes c.requires.well_formed p.shape c.requires.sealed) p.block p.offset in (
      omega (arith, c.decreases),
      (
        within,
        (
          c.requires.well_formed,
          (
            known_at c.requires.readable c.loop-i.i c.part-part.ensures,
            (
              readable_at c.requires.readable c.loop-i.i c.part-part.ensures,
              (part_vacant m shapes here c.args.at c.same_part-offset.result c.same_part-offset.ensures (PartsMade-vacant c.loop-i.invariant here.there apart c.requires.vacant), c.loop-i.invariant.room),
            ),
          ),
        ),
      ),
    )

pub clone_parts-loop-i-preserved : goal.clone_parts-loop-i-preserved
clone_parts-loop-i-preserved g t c =
    let m = g.L.Leaf.model in
    let shapes = c.args.shapes.now.sealed in
    let p = place_of c.args.source in
    let laid = laid_out m shapes c.requires.well_formed in
    let here = part_of_place p (body_at shapes p) c.loop-i.i (place_of c.part-part.result) (ap (λ ps. slice_get ps c.loop-i.i) c.requires.parts ∙ c.part-part.ensures) in
    let apart = inline_apart shapes p.shape (laid p.shape c.requires.sealed) p.block p.offset in
    PartsMade-step c.loop-i.invariant here.there apart c.requires.vacant laid
    (part_after m shapes here c.args.at c.same_part-offset.result c.same_part-offset.ensures c.args.levels c.loop-i.together c.loop-i.block c.clone_at.new.block c.loop-i.log c.clone_at.new.log (Ok (Some c.in-Ok-Some.made)) (rw c.in-Ok-Some.field-0-is at c.in-Ok-Some.ensures))

pub clone_parts-returns : goal.clone_parts-returns
clone_parts-returns g t c =
    let p = place_of c.args.source in
    let many = length-map (body_at c.args.shapes.now.sealed p) (part_place p) in
    PartsMade-end c.loop-i.invariant (omega (arith, many, ap length c.requires.parts, c.len-i-end.ensures, c.loop-i-test.false))

pub clone_parts-drop_parts-requires-clause-inside : goal.clone_parts-drop_parts-requires-clause-inside
clone_parts-drop_parts-requires-clause-inside g t c =
    let stopped = rw c.in-Ok-None.field-0-is at c.in-Ok-None.ensures in
    omega (arith, ap size_of stopped.back.block, c.loop-i.invariant.changed.size, c.requires.inside)

pub clone_parts-drop_parts-requires-in-Err-clause-inside : goal.clone_parts-drop_parts-requires-in-Err-clause-inside
clone_parts-drop_parts-requires-in-Err-clause-inside g t c = let stopped = c.in-Err.ensures in omega (arith, ap size_of stopped.back.block, c.loop-i.invariant.changed.size, c.requires.inside)

pub clone_parts-drop_parts-requires-clause-readable : goal.clone_parts-drop_parts-requires-clause-readable
clone_parts-drop_parts-requires-clause-readable g t c =
    let m = g.L.Leaf.model in
    let shapes = c.args.shapes.now.sealed in
    let p = place_of c.args.source in
    let laid = laid_out m shapes c.requires.well_formed p.shape c.requires.sealed in
    let here = part_of_place p (body_at shapes p) c.loop-i.i (place_of c.part-part.result) (ap (λ ps. slice_get ps c.loop-i.i) c.requires.parts ∙ c.part-part.ensures) in
    let stopped = part_after m shapes here c.args.at c.same_part-offset.result c.same_part-offset.ensures c.args.levels c.loop-i.together c.loop-i.block c.clone_at.new.block c.loop-i.log c.clone_at.new.log (Ok None) (rw c.in-Ok-None.field-0-is at c.in-Ok-None.ensures) in
    PartsMade-readable c.loop-i.invariant here.there (inline_apart shapes p.shape laid p.block p.offset) stopped p.shape
    (inline_at_stop shapes p.shape laid c.args.block.now c.loop-i.block c.args.at c.loop-i.i (body_at shapes p) c.requires.inline c.loop-i.invariant.changed stopped.back.block)

pub clone_parts-drop_parts-requires-clause-room : goal.clone_parts-drop_parts-requires-clause-room
clone_parts-drop_parts-requires-clause-room g t c =
    let m = g.L.Leaf.model in
    let shapes = c.args.shapes.now.sealed in
    let p = place_of c.args.source in
    let laid = laid_out m shapes c.requires.well_formed p.shape c.requires.sealed in
    let here = part_of_place p (body_at shapes p) c.loop-i.i (place_of c.part-part.result) (ap (λ ps. slice_get ps c.loop-i.i) c.requires.parts ∙ c.part-part.ensures) in
    let stopped = part_after m shapes here c.args.at c.same_part-offset.result c.same_part-offset.ensures c.args.levels c.loop-i.together c.loop-i.block c.clone_at.new.block c.loop-i.log c.clone_at.new.log (Ok None) (rw c.in-Ok-None.field-0-is at c.in-Ok-None.ensures) in
    PartsMade-room c.loop-i.invariant here.there (inline_apart shapes p.shape laid p.block p.offset) stopped p.shape
    (inline_at_stop shapes p.shape laid c.args.block.now c.loop-i.block c.args.at c.loop-i.i (body_at shapes p) c.requires.inline c.loop-i.invariant.changed stopped.back.block)

pub clone_parts-returns-in-Ok-None : goal.clone_parts-returns-in-Ok-None
clone_parts-returns-in-Ok-None g t c =
    let m = g.L.Leaf.model in
    let shapes = c.args.shapes.now.sealed in
    let p = place_of c.args.source in
    let laid = laid_out m shapes c.requires.well_formed p.shape c.requires.sealed in
    let here = part_of_place p (body_at shapes p) c.loop-i.i (place_of c.part-part.result) (ap (λ ps. slice_get ps c.loop-i.i) c.requires.parts ∙ c.part-part.ensures) in
    let stopped = part_after m shapes here c.args.at c.same_part-offset.result c.same_part-offset.ensures c.args.levels c.loop-i.together c.loop-i.block c.clone_at.new.block c.loop-i.log c.clone_at.new.log (Ok None) (rw c.in-Ok-None.field-0-is at c.in-Ok-None.ensures) in
    PartsMade-stop c.loop-i.invariant here.there (inline_apart shapes p.shape laid p.block p.offset) stopped p.shape
    (inline_at_stop shapes p.shape laid c.args.block.now c.loop-i.block c.args.at c.loop-i.i (body_at shapes p) c.requires.inline c.loop-i.invariant.changed stopped.back.block) c.requires.vacant
    c.drop_parts.ensures.cleared c.drop_parts.ensures.leaves c.drop_parts.ensures.spare

pub clone_parts-drop_parts-requires-in-Err-clause-readable : goal.clone_parts-drop_parts-requires-in-Err-clause-readable
clone_parts-drop_parts-requires-in-Err-clause-readable g t c =
    let m = g.L.Leaf.model in
    let shapes = c.args.shapes.now.sealed in
    let p = place_of c.args.source in
    let laid = laid_out m shapes c.requires.well_formed p.shape c.requires.sealed in
    let here = part_of_place p (body_at shapes p) c.loop-i.i (place_of c.part-part.result) (ap (λ ps. slice_get ps c.loop-i.i) c.requires.parts ∙ c.part-part.ensures) in
    let stopped = part_after m shapes here c.args.at c.same_part-offset.result c.same_part-offset.ensures c.args.levels c.loop-i.together c.loop-i.block c.clone_at.new.block c.loop-i.log c.clone_at.new.log (Err c.in-Err.error) c.in-Err.ensures in
    PartsMade-readable c.loop-i.invariant here.there (inline_apart shapes p.shape laid p.block p.offset) stopped p.shape
    (inline_at_stop shapes p.shape laid c.args.block.now c.loop-i.block c.args.at c.loop-i.i (body_at shapes p) c.requires.inline c.loop-i.invariant.changed stopped.back.block)

pub clone_parts-drop_parts-requires-in-Err-clause-room : goal.clone_parts-drop_parts-requires-in-Err-clause-room
clone_parts-drop_parts-requires-in-Err-clause-room g t c =
    let m = g.L.Leaf.model in
    let shapes = c.args.shapes.now.sealed in
    let p = place_of c.args.source in
    let laid = laid_out m shapes c.requires.well_formed p.shape c.requires.sealed in
    let here = part_of_place p (body_at shapes p) c.loop-i.i (place_of c.part-part.result) (ap (λ ps. slice_get ps c.loop-i.i) c.requires.parts ∙ c.part-part.ensures) in
    let stopped = part_after m shapes here c.args.at c.same_part-offset.result c.same_part-offset.ensures c.args.levels c.loop-i.together c.loop-i.block c.clone_at.new.block c.loop-i.log c.clone_at.new.log (Err c.in-Err.error) c.in-Err.ensures in
    PartsMade-room c.loop-i.invariant here.there (inline_apart shapes p.shape laid p.block p.offset) stopped p.shape
    (inline_at_stop shapes p.shape laid c.args.block.now c.loop-i.block c.args.at c.loop-i.i (body_at shapes p) c.requires.inline c.loop-i.invariant.changed stopped.back.block)

pub clone_parts-returns-in-Err : goal.clone_parts-returns-in-Err
clone_parts-returns-in-Err g t c =
    let m = g.L.Leaf.model in
    let shapes = c.args.shapes.now.sealed in
    let p = place_of c.args.source in
    let laid = laid_out m shapes c.requires.well_formed p.shape c.requires.sealed in
    let here = part_of_place p (body_at shapes p) c.loop-i.i (place_of c.part-part.result) (ap (λ ps. slice_get ps c.loop-i.i) c.requires.parts ∙ c.part-part.ensures) in
    let stopped = part_after m shapes here c.args.at c.same_part-offset.result c.same_part-offset.ensures c.args.levels c.loop-i.together c.loop-i.block c.clone_at.new.block c.loop-i.log c.clone_at.new.log (Err c.in-Err.error) c.in-Err.ensures in
    PartsMade-stop c.loop-i.invariant here.there (inline_apart shapes p.shape laid p.block p.offset) stopped p.shape
    (inline_at_stop shapes p.shape laid c.args.block.now c.loop-i.block c.args.at c.loop-i.i (body_at shapes p) c.requires.inline c.loop-i.invariant.changed stopped.back.block) c.requires.vacant
    c.drop_parts-in-Err.ensures.cleared c.drop_parts-in-Err.ensures.leaves c.drop_parts-in-Err.ensures.spare
