use Rattle.std.proofs.Common.{◌*◌, ◌<◌, ◌≤◌, Some, inl, refl, subst, suc, sym}
use Rattle.facet_base.proofs.Lists.{All_at, some_there}
use Rattle.facet_block.specs.Block.{size_of}
use Rattle.facet_block.specs.Seq.{filled_of}
use Rattle.facet_contain.proofs.ContainerParts.{holds_pairs}
use Rattle.facet_contain.proofs.HeldParts.{leads_to}
use Rattle.facet_contain.specs.Parts.{part_shape, parts_of}
use Rattle.facet_iterate.proofs.ReadStarts.{is_map, pairs_lead, pairs_read, values_inside}
use Rattle.facet_iterate.specs.Elements.{starts, with_values}
use Rattle.facet_trees.specs.declared.form.Form.TheVariants as form
use Rattle.facet_walk.specs.Look.{pointed}
use Rattle.facet_lookup.proofs.FoundValues.{value_points}
use Rattle.facet_lookup.proofs.KeyedPlaces.{keys_counted}
use Rattle.facet_lookup.proofs.lookups.value_in.Goals as goal

pub seq-requires : goal.seq-requires
seq-requires g c = holds_pairs c.requires.readable c.requires.kind

pub new-requires : goal.new-requires
new-requires g c =
    All_at (λ block. c.pair_value_offset.result ≤ size_of block) (filled_of c.seq.result.now) c.args.i c.in-Some.block.now
    (values_inside c.requires.readable c.seq.result.now c.seq.ensures (is_map c.args.shapes.now.sealed c.args.s.0 c.requires.kind) c.pair_value_offset.result c.pair_value_offset.ensures) (sym c.in-Some.ensures)

pub unreachable-requires : goal.unreachable-requires
unreachable-requires g c =
    let r = c.requires.readable in
    some_there (filled_of c.seq.result.now) c.args.i
    (subst (λ n. c.args.i < n) (sym (keys_counted g.L.Leaf.model c.args.shapes.now.sealed (pointed c.args.s c.args.p) r c.seq.result.now c.seq.ensures (inl c.requires.kind) r.value r.reads)) (c.requires.below r.value r.reads))
    c.in-None.ensures

pub returns-clause-part : goal.returns-clause-part
returns-clause-part g c = λ v reads.
    let shapes = c.args.shapes.now.sealed in
    let blocks = filled_of c.seq.result.now in
    let offset = c.pair_value_offset.result in
    value_points g.L.Leaf.model shapes (part_shape shapes c.args.s.0 form.Map 0) (part_shape shapes c.args.s.0 form.Map 1) offset blocks (parts_of v)
    (pairs_read c.requires.readable c.seq.result.now c.seq.ensures (is_map shapes c.args.s.0 c.requires.kind) offset c.pair_value_offset.ensures (with_values offset (starts blocks)) refl v reads)
    c.args.i c.in-Some.block.now (sym c.in-Some.ensures) c.new.result c.new.ensures.same_block c.new.ensures.offset

pub returns-clause-readable : goal.returns-clause-readable
returns-clause-readable g c =
    let shapes = c.args.shapes.now.sealed in
    let blocks = filled_of c.seq.result.now in
    let offset = c.pair_value_offset.result in
    let r = c.requires.readable in
    let is = is_map shapes c.args.s.0 c.requires.kind in
    let pairs = with_values offset (starts blocks) in
    let lead = pairs_lead r c.seq.result.now c.seq.ensures is offset c.pair_value_offset.ensures pairs refl c.sealed-sealed.ensures.registry.well_formed c.requires.sealed in
    leads_to g.L.Leaf.model shapes (part_shape shapes c.args.s.0 form.Map 1) r.value (suc (2 * c.args.i)) (Some c.new.result) lead.sealed_value r.shallow
    (value_points g.L.Leaf.model shapes (part_shape shapes c.args.s.0 form.Map 0) (part_shape shapes c.args.s.0 form.Map 1) offset blocks (parts_of r.value)
    (pairs_read r c.seq.result.now c.seq.ensures is offset c.pair_value_offset.ensures pairs refl r.value r.reads)
    c.args.i c.in-Some.block.now (sym c.in-Some.ensures) c.new.result c.new.ensures.same_block c.new.ensures.offset)
