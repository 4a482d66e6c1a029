-- Of what shapes the parts are that are seen at a place.
use Rattle.std.proofs.Common.{◌≡◌, ℕ, ◌<◌, List, [], ◌∷◌, All, Option, None, Some, length, get_or, slice_get, refl, subst}
use Rattle.std.specs.Option.{option_map_or}
use Rattle.std.proofs.lemmas.List.Elements.{All-append, All-head, All-map, All-nil, All-tail, All-weaker}
use Rattle.facet_base.proofs.Lists.{All_at}
use Rattle.facet_base.specs.declared.layout.ShapeId.{ShapeId}
use Rattle.facet_block.specs.Block.{leaf_of, sequence_of, tag_of}
use Rattle.facet_block.specs.Seq.{filled_of}
use Rattle.facet_block.specs.declared.block.Block.{Block}
use Rattle.facet_block.specs.declared.block.Item.{Item}
use Rattle.facet_block.specs.declared.block.Seq.{Seq}
use Rattle.facet_outline.specs.declared.placed_fields.PlacedField.{PlacedField}
use Rattle.facet_registry.specs.Registry.{size_at}
use Rattle.facet_shape.specs.declared.shape.Shape.{Shape}
use Rattle.facet_trees.specs.Structure.{Structure, no_values, plain, scalar, sequence, tagged, block_body, block_size, structure_at}
use Rattle.facet_trees.specs.declared.form.Form.{Form}
use Rattle.facet_values.specs.Laid.{HoldsApart, IsLaidOut, LieApart, bodies_of}
use Rattle.facet_values.specs.Place.{Place, block_places, own_item, part_place, part_places, start_of}
use Rattle.facet_values.specs.Seen.{Seen, a_leaf, a_node, no_value, seen, seen_by}

module _ {L : Type 0} where
  -- P holds of each part of what is seen
  abbrev pub AllSeen : (Place L → Type 0) → Seen L → Type 0
  AllSeen P (a_node form parts) = All P parts
  AllSeen P _ = Unit {0}

  pub all_parts : (P : Place L → Type 0) (s : Seen L) (form : Form) (parts : List (Place L)) → AllSeen P s → s ≡ a_node form parts → All P parts
  all_parts P no_value form parts all is = absurd (cc)
  all_parts P (a_leaf x) form parts all is = absurd (cc)
  all_parts P (a_node other those) form parts all is = let same : those ≡ parts = cc in subst (All P) same all

  -- what holds of the parts of each block holds of all
  pub all_in_blocks : (P : Place L → Type 0) (body : List PlacedField) (blocks : List (Block L)) → All (λ block. All P (part_places (start_of 0 block) body)) blocks → All P (block_places body blocks)
  all_in_blocks P body [] all = All-nil P
  all_in_blocks P body (block ∷ blocks) all =
      All-append P (part_places (start_of 0 block) body) (block_places body blocks)
      (All-head (λ b. All P (part_places (start_of 0 b) body)) block blocks all)
      (all_in_blocks P body blocks (All-tail (λ b. All P (part_places (start_of 0 b) body)) block blocks all))

  module _ (shapes : List Shape) (P : Place L → Type 0) (p : Place L) where
    -- what holds of the parts in each block of the sequence there
    abbrev pub AllInBlocks : Structure → Option (Item L) → Type 0
    AllInBlocks (sequence form ids) found = (s : Seq L) → sequence_of found ≡ Some s → All (λ block. All P (part_places (start_of 0 block) (block_body shapes ids))) (filled_of s)
    AllInBlocks _ found = Unit {0}

    tagged_parts : (forms : ℕ → Form) (bodies : List (List PlacedField)) (tag : Option ℕ) → All (λ body. All P (part_places p body)) bodies
        → AllSeen P (option_map_or (λ t. option_map_or (λ body. a_node (forms t) (part_places p body)) (slice_get bodies t) no_value) tag no_value)
    tagged_parts forms bodies None all = tt
    tagged_parts forms bodies (Some t) all = under (slice_get bodies t) refl
      where
        under : (found : Option (List PlacedField)) → slice_get bodies t ≡ found → AllSeen P (option_map_or (λ body. a_node (forms t) (part_places p body)) found no_value)
        under None is = tt
        under (Some body) is = All_at (λ b. All P (part_places p b)) bodies t body all is

    sequence_parts : (form : Form) (ids : List ShapeId) (found : Option (Seq L)) → ((s : Seq L) → found ≡ Some s → All (λ block. All P (part_places (start_of 0 block) (block_body shapes ids))) (filled_of s))
        → AllSeen P (option_map_or (λ s. a_node form (block_places (block_body shapes ids) (filled_of s))) found no_value)
    sequence_parts form ids None all = tt
    sequence_parts form ids (Some s) all = all_in_blocks P (block_body shapes ids) (filled_of s) (all s refl)

    leaf_parts : (found : Option L) → AllSeen P (option_map_or a_leaf found no_value)
    leaf_parts None = tt
    leaf_parts (Some x) = tt

    -- what holds of the inline parts that may lie there, and of the parts in blocks, holds of what is seen
    pub all_seen_by : (s : Structure) (found : Option (Item L)) → All (λ body. All P (part_places p body)) (bodies_of s) → AllInBlocks s found → AllSeen P (seen_by shapes s p found)
    all_seen_by no_values found bodies blocks = tt
    all_seen_by (scalar k) found bodies blocks = leaf_parts (leaf_of found)
    all_seen_by (plain form body) found bodies blocks = All-head (λ b. All P (part_places p b)) body [] bodies
    all_seen_by (tagged forms bs) found bodies blocks = tagged_parts forms bs (tag_of found) bodies
    all_seen_by (sequence form ids) found bodies blocks = sequence_parts form ids (sequence_of found) blocks

    pub all_seen : All (λ body. All P (part_places p body)) (bodies_of (structure_at shapes p.shape)) → AllInBlocks (structure_at shapes p.shape) (own_item p) → AllSeen P (seen shapes p)
    unfolding seen
    all_seen bodies blocks = all_seen_by (structure_at shapes p.shape) (own_item p) bodies blocks

module _ {L : Type 0} (shapes : List Shape) where
  abbrev IsKnown : Place L → Type 0
  IsKnown q = q.shape < length shapes

  known_places : (p : Place L) (body : List PlacedField) (size : ℕ) → LieApart shapes size body → All IsKnown (part_places p body)
  known_places p body size apart = All-map IsKnown (part_place p) body apart.known

  known_blocks : (p : Place L) (s : Structure) (found : Option (Item L)) → HoldsApart shapes s → AllInBlocks shapes IsKnown p s found
  known_blocks p no_values found holds = tt
  known_blocks p (scalar k) found holds = tt
  known_blocks p (plain form body) found holds = tt
  known_blocks p (tagged forms bodies) found holds = tt
  known_blocks p (sequence form ids) found holds =
      λ s is i block below. known_places (start_of 0 (get_or (filled_of s) i block)) (block_body shapes ids) (block_size shapes ids) holds

  -- the parts of a value of a shape that is laid out are of shapes that are there
  pub parts_are_known : (p : Place L) → IsLaidOut shapes p.shape → (form : Form) (parts : List (Place L)) → seen shapes p ≡ a_node form parts → All IsKnown parts
  parts_are_known p laid form parts is =
      all_parts IsKnown (seen shapes p) form parts
      (all_seen shapes IsKnown p
      (All-weaker (LieApart shapes (size_at shapes p.shape)) (λ body. All IsKnown (part_places p body)) (λ body apart. known_places p body (size_at shapes p.shape) apart) (bodies_of (structure_at shapes p.shape)) laid.bodies)
      (known_blocks p (structure_at shapes p.shape) (own_item p) laid.blocks))
      is
