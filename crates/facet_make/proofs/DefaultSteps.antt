-- What the default of a shape leaves at a vacant place, by what it is made of.
use Rattle.std.proofs.Common.{◌≡◌, ℕ, ◌-◌, ◌<◌, ◌≤◌, All, true, List, [], Option, None, Some, IfSome, Result, Ok, length, map, refl, slice_get, sym, ap, ◌∙◌, ◌+◌, ◌++◌, subst, subst₂, arith}
use Rattle.std.specs.Option.{option_map_or}
use Rattle.std.specs.declared.alloc.AllocError.{AllocError}
use Rattle.facet_base.specs.declared.characteristic.Characteristic.TheVariants as trait
use Rattle.facet_base.specs.declared.scalar_type.ScalarType.{ScalarType}
use Rattle.facet_block.specs.Block.{item_at, size_of, with_item}
use Rattle.facet_block.specs.DropLog.{LeafLog}
use Rattle.facet_block.specs.Seq.{make_seq}
use Rattle.facet_block.specs.Span.{IsVacant, span}
use Rattle.facet_block.specs.declared.block.Block.{Block}
use Rattle.facet_block.specs.declared.block.Item.{Sequence, Tag}
use Rattle.facet_causes.specs.Causes.{IsWellFormed}
use Rattle.facet_leaf.specs.LeafModel.{LeafModel}
use Rattle.facet_make.proofs.DefaultCases.{case_offered}
use Rattle.facet_make.proofs.InitialStructures.{HasFirstTag, MayHaveNoBlocks, first_tag_there, leaf_of_initial, no_blocks_there, refused_there}
use Rattle.facet_make.proofs.MadeByStructure.{leaf_made, own_byte, own_empty, plain_after, plain_apart, plain_vacant, sequence_made, stopped_at_once, tag_made}
use Rattle.facet_make.proofs.PartsMade.{IsPartAt, PartsMade, PartsMade-readable, PartsMade-room, PartsMade-step, PartsMade-stop, PartsMade-vacant, part_found}
use Rattle.facet_make.specs.Default.{default_by, default_case}
use Rattle.facet_make.specs.Initial.{block_size_at, block_size_by, initial_of_kind, is_plain, plain_body}
use Rattle.facet_make.specs.Made.{Made, in_order, made, refused}
use Rattle.facet_make.specs.Walk.{AfterOne, AfterParts, IsLeafPut, IsMadeWithin, IsStopped, ranges_from}
use Rattle.facet_make.specs.declared.initial.Initial.TheVariants as initial
use Rattle.facet_outline.specs.declared.placed_fields.PlacedField.{PlacedField}
use Rattle.facet_registry.specs.Registry.{kind_at, offers, size_at}
use Rattle.facet_shape.specs.declared.shape.Shape.{Shape}
use Rattle.facet_trees.specs.Structure.{Structure, plain, scalar, sequence, tagged, option_form, structure_at}
use Rattle.facet_trees.specs.Value.{Value, leaf, leaves, leaves_of_parts, none}
use Rattle.facet_trees.specs.declared.form.Form.{Form}
use Rattle.facet_trees.specs.declared.form.Form.TheVariants as form
use Rattle.facet_values.proofs.KindStructures.{structure_of_leaf}
use Rattle.facet_values.proofs.LaidOut.{laid_out}
use Rattle.facet_values.specs.Laid.{IsLaidOut, LieApart}
use Rattle.facet_base.proofs.Lists.{All_at}
use Rattle.facet_drop.specs.Cleared.{AreCleared}
use Rattle.facet_drop.specs.InlineParts.{first_places, leaves_at, ranges_of}
use Rattle.facet_values.specs.Place.{LiesInBlock, part_places, place_in}
use Rattle.facet_walk.specs.Look.{AreReadable}
use Rattle.facet_values.specs.Replaced.{body_at, body_by}

-- a structure of inline parts alone
abbrev pub plain_form : Structure → Form
plain_form (plain own body) = own
plain_form _ = form.Unit

pub is_plain_of : (st : Structure) → is_plain st ≡ true → st ≡ plain (plain_form st) (plain_body st)
is_plain_of (plain own body) is = refl
is_plain_of (scalar k) is = absurd (cc)
is_plain_of (tagged forms bodies) is = absurd (cc)
is_plain_of (sequence own ids) is = absurd (cc)
is_plain_of _ is = absurd (cc)

-- its inline parts don't depend on what lies at the place
pub plain_inline : {L : Type 0} (shapes : List Shape) (s at : ℕ) (b : Block L) → is_plain (structure_at shapes s) ≡ true → body_at shapes (place_in s b at) ≡ plain_body (structure_at shapes s)
plain_inline shapes s at b is = ap (λ st. body_by st (item_at b at)) (is_plain_of (structure_at shapes s) is)

module _ {L : Type 0} (m : LeafModel L) (shapes : List Shape) (well : IsWellFormed m shapes) (s at : ℕ) (b : Block L) (below : s < length shapes) (vacant : IsVacant b (span at (size_at shapes s))) where
  laid : IsLaidOut shapes s
  laid = laid_out m shapes well s below

  module _ (k : ScalarType) (is : initial.Leaf k ≡ initial_of_kind (kind_at shapes s)) where
    of_leaf : structure_at shapes s ≡ scalar k
    of_leaf = structure_of_leaf shapes s k (leaf_of_initial (kind_at shapes s) k (sym is))

    pub leaf_byte : at < size_of b
    leaf_byte = own_byte m shapes s at b laid vacant (scalar k) of_leaf refl

    pub leaf_empty : item_at b at ≡ None
    leaf_empty = own_empty m shapes s at b laid vacant (scalar k) of_leaf refl

  module _ (is : initial.FirstTag ≡ initial_of_kind (kind_at shapes s)) where
    tag_there : HasFirstTag (structure_at shapes s)
    tag_there = first_tag_there shapes s below is

    pub tag_byte : at < size_of b
    tag_byte = own_byte m shapes s at b laid vacant (tagged option_form tag_there.bodies) tag_there.of refl

    pub tag_empty : item_at b at ≡ None
    tag_empty = own_empty m shapes s at b laid vacant (tagged option_form tag_there.bodies) tag_there.of refl

  module _ (is : initial.NoBlocks ≡ initial_of_kind (kind_at shapes s)) where
    blocks_there : MayHaveNoBlocks L (structure_at shapes s)
    blocks_there = no_blocks_there shapes s below L is

    pub blocks_byte : at < size_of b
    blocks_byte = own_byte m shapes s at b laid vacant (sequence blocks_there.form blocks_there.ids) blocks_there.of refl

    pub blocks_empty : item_at b at ≡ None
    blocks_empty = own_empty m shapes s at b laid vacant (sequence blocks_there.form blocks_there.ids) blocks_there.of refl

  -- inline parts
  module _ (is : is_plain (structure_at shapes s) ≡ true) where
    of_parts : structure_at shapes s ≡ plain (plain_form (structure_at shapes s)) (plain_body (structure_at shapes s))
    of_parts = is_plain_of (structure_at shapes s) is

    pub parts_apart : LieApart shapes (size_at shapes s) (plain_body (structure_at shapes s))
    parts_apart = plain_apart m shapes s at b laid vacant (plain_form (structure_at shapes s)) (plain_body (structure_at shapes s)) of_parts

    pub parts_vacant : All (IsVacant b) (ranges_from shapes at (plain_body (structure_at shapes s)))
    parts_vacant = plain_vacant m shapes s at b laid vacant (plain_form (structure_at shapes s)) (plain_body (structure_at shapes s)) of_parts

  module _ (levels held : ℕ) (deep : 1 ≤ levels) (offered : offers shapes s trait.Default ≡ true) where
    abbrev case : Made (Value L) L
    case = default_case m shapes levels s

    by_structure : (st : Structure) → structure_at shapes s ≡ st → case ≡ default_by m shapes (default_case m shapes (levels - 1)) st
    by_structure st of = case_offered m shapes levels s st deep offered of

    pub none_after : {log : LeafLog L} → initial.None ≡ initial_of_kind (kind_at shapes s) → held ≤ log.spare → IsStopped leaves case (Ok None) held b b log log
    none_after is room = stopped_at_once (by_structure (structure_at shapes s) refl ∙ refused_there shapes s below m (default_case m shapes (levels - 1)) is) room

    pub leaf_after : {n : ℕ} {c : Block L} {begin end : LeafLog L} (k : ScalarType) → initial.Leaf k ≡ initial_of_kind (kind_at shapes s) → IfSome (m.default_of k) (λ x. m.kind x ≡ k)
        → IsLeafPut (λ x. m.default_of k ≡ Some x) at held n b c end → end.leaves ≡ begin.leaves → begin.spare ≤ end.spare → IsMadeWithin m shapes levels case s at held n b c begin end
    leaf_after k is law put log spare =
        leaf_made m shapes s at b laid vacant deep k (λ x. m.default_of k ≡ Some x) (of_leaf k is)
        (λ x there. (
          subst (λ o. IfSome o (λ y. m.kind y ≡ k)) there law,
          by_structure (scalar k) (of_leaf k is) ∙ ap (λ o. option_map_or (λ y. made (leaf y)) o (refused [])) there,
        ))
        put log spare

    pub tag_after : {c : Block L} {log : LeafLog L} → initial.FirstTag ≡ initial_of_kind (kind_at shapes s) → c ≡ with_item b at (Some (Tag 0)) → held ≤ log.spare
        → IsMadeWithin m shapes levels case s at held held b c log log
    tag_after is same room =
        let there = first_tag_there shapes s below is in
        tag_made m shapes s at b laid vacant deep option_form there.bodies 0 there.of there.nothing (by_structure (tagged option_form there.bodies) there.of) same room

    pub blocks_after : {c : Block L} {log : LeafLog L} → initial.NoBlocks ≡ initial_of_kind (kind_at shapes s) → c ≡ with_item b at (Some (Sequence (make_seq (block_size_at shapes s) [] []))) → held ≤ log.spare
        → IsMadeWithin m shapes levels case s at held held b c log log
    blocks_after is same room =
        let there = no_blocks_there shapes s below L is in
        sequence_made m shapes s at b laid vacant deep there.form there.ids (block_size_at shapes s) there.of there.any
        (by_structure (sequence there.form there.ids) there.of ∙ there.empty) (ap (block_size_by shapes) there.of) same room

    pub parts_after : (c : Block L) (begin end : LeafLog L) (result : Result (Option ℕ) AllocError) → is_plain (structure_at shapes s) ≡ true
        → AfterParts m shapes (levels - 1) (in_order none (map (λ part. default_case m shapes (levels - 1) part.shape.0) (plain_body (structure_at shapes s)))) (plain_body (structure_at shapes s)) at held b c begin end result
        → AfterOne m shapes levels case s at held b c begin end result
    parts_after c begin end result is after =
        let own = plain_form (structure_at shapes s) in
        let body = plain_body (structure_at shapes s) in
        let parts = in_order none (map (λ part. default_case m shapes (levels - 1) part.shape.0) body) in
        plain_after m shapes s at b laid vacant own body (of_parts is) levels held case parts c begin end deep (by_structure (plain own body) (of_parts is)) result after

-- the defaults of inline parts, one after another
abbrev defaults : {L : Type 0} → LeafModel L → List Shape → ℕ → PlacedField → Made (Value L) L
defaults m shapes levels part = default_case m shapes levels part.shape.0

module _ {L : Type 0} {m : LeafModel L} {shapes : List Shape} (well : IsWellFormed m shapes) {levels s at held : ℕ} {start : Block L} {begin : LeafLog L} (below : s < length shapes)
    (plain : is_plain (structure_at shapes s) ≡ true) (vacant : IsVacant start (span at (size_at shapes s))) where
  module _ {i n : ℕ} {now : Block L} {kept : LeafLog L} (h : PartsMade m shapes levels (defaults m shapes levels) (plain_body (structure_at shapes s)) at held start begin i n now kept) {shape offset : ℕ}
      (is : slice_get (part_places (place_in s now at) (plain_body (structure_at shapes s))) i ≡ Some (place_in shape now offset)) where
    found : IsPartAt (place_in s now at) (plain_body (structure_at shapes s)) i (place_in shape now offset)
    found = part_found (place_in s now at) (plain_body (structure_at shapes s)) i (place_in shape now offset) is

    pub next_known : shape < length shapes
    next_known = subst (λ t. t < length shapes) found.shape (All_at (λ part. part.shape.0 < length shapes) (plain_body (structure_at shapes s)) i found.part (parts_apart m shapes well s at start below vacant plain).known found.here)

    pub next_vacant : IsVacant now (span offset (size_at shapes shape))
    next_vacant = subst₂ (λ o t. IsVacant now (span o (size_at shapes t))) found.offset found.shape (PartsMade-vacant h found.here (parts_apart m shapes well s at start below vacant plain) (parts_vacant m shapes well s at start below vacant plain))

    pub next_made : {n' : ℕ} {b : Block L} {log : LeafLog L} → IsMadeWithin m shapes levels (default_case m shapes levels shape) shape offset n n' now b kept log
        → PartsMade m shapes levels (defaults m shapes levels) (plain_body (structure_at shapes s)) at held start begin (i + 1) n' b log
    next_made {n'} {b} {log} one =
        PartsMade-step h found.here (parts_apart m shapes well s at start below vacant plain) (parts_vacant m shapes well s at start below vacant plain) (laid_out m shapes well)
        (subst₂ (λ o t. IsMadeWithin m shapes levels (default_case m shapes levels t) t o n n' now b kept log) (sym found.offset) (sym found.shape) one)

    module _ {result : Result (Option ℕ) AllocError} {b : Block L} {log : LeafLog L} (stopped : IsStopped leaves (default_case m shapes levels shape) result n now b kept log) where
      here_stopped : IsStopped leaves (default_case m shapes levels found.part.shape.0) result n now b kept log
      here_stopped = subst (λ t. IsStopped leaves (default_case m shapes levels t) result n now b kept log) (sym found.shape) stopped

      pub stop_inside : LiesInBlock shapes (place_in s b at)
      stop_inside = omega (arith, vacant.inside, h.changed.size, ap size_of stopped.back.block)

      pub stop_readable : AreReadable m shapes levels (first_places shapes (place_in s b at) i)
      stop_readable = PartsMade-readable h found.here (parts_apart m shapes well s at start below vacant plain) here_stopped s (plain_inline shapes s at b plain)

      pub stop_room : length (leaves_at shapes levels (first_places shapes (place_in s b at) i)) ≤ log.spare
      stop_room = PartsMade-room h found.here (parts_apart m shapes well s at start below vacant plain) here_stopped s (plain_inline shapes s at b plain)

      pub stop_after : {c : Block L} {end : LeafLog L} → AreCleared b c (ranges_of shapes (first_places shapes (place_in s b at) i))
          → end.leaves ≡ log.leaves ++ leaves_at shapes levels (first_places shapes (place_in s b at) i) → log.spare ≤ end.spare + length (leaves_at shapes levels (first_places shapes (place_in s b at) i))
          → IsStopped leaves_of_parts (in_order none (map (defaults m shapes levels) (plain_body (structure_at shapes s)))) result held start c begin end
      stop_after cleared logs spares = PartsMade-stop h found.here (parts_apart m shapes well s at start below vacant plain) here_stopped s (plain_inline shapes s at b plain) (parts_vacant m shapes well s at start below vacant plain) cleared logs spares
