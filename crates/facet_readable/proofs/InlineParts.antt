-- The inline parts of a value, as parts of its structure and as places that are seen.
use Rattle.std.proofs.Common.{◌≡◌, ℕ, zero, suc, ◌+◌, ◌<◌, ◌≤◌, List, [], ◌∷◌, All, IsSomeAnd, Option, None, Some, length, slice_get, refl, inl, inr, arith}
use Rattle.std.proofs.lemmas.List.Elements.{All-cons, All-head, All-map, All-nil, All-tail, All-weaker}
use Rattle.std.specs.Option.{option_map_or}
use Rattle.facet_block.specs.Block.{leaf_of, tag_of}
use Rattle.facet_block.specs.Span.{IsBeside, span}
use Rattle.facet_block.specs.declared.block.Item.{Item}
use Rattle.facet_outline.specs.declared.placed_fields.PlacedField.{PlacedField}
use Rattle.facet_readable.specs.Gaps.{AreKnownPlaces, IsBesideAll, parts_of_seen}
use Rattle.facet_registry.specs.Registry.{size_at}
use Rattle.facet_shape.specs.declared.shape.Shape.{Shape}
use Rattle.facet_trees.specs.Structure.{Structure, no_values, plain, scalar, sequence, tagged, body_under, structure_at}
use Rattle.facet_trees.specs.declared.form.Form.{Form}
use Rattle.facet_values.proofs.SeenParts.{AllInBlocks, AllSeen, all_seen}
use Rattle.facet_values.specs.Laid.{IsLaidOut, LieApart, bodies_of}
use Rattle.facet_values.specs.Place.{LiesInBlock, Place, own_item, part_place, part_places, range_of}
use Rattle.facet_values.specs.Reading.{part_spans}
use Rattle.facet_values.specs.Replaced.{body_by}
use Rattle.facet_values.specs.Seen.{Seen, a_leaf, a_node, no_value, seen, seen_by}
use Rattle.facet_walk.specs.Look.{IsInside}

-- the parts of the values lie in no block of their own
abbrev pub IsInline : Structure → Type 0
IsInline (sequence form ids) = ⊥
IsInline _ = Unit {0}

-- what holds of all holds of the one at an index
each_of_all : {X : Type 0} (P : X → Type 0) (xs : List X) → All P xs → (i : ℕ) → i < length xs → IsSomeAnd (slice_get xs i) P
each_of_all P [] all i below = absurd (omega arith)
each_of_all P (x ∷ xs) all zero below = All-head P x xs all
each_of_all P (x ∷ xs) all (suc i) below = each_of_all P xs (All-tail P x xs all) i (omega arith)

module _ {L : Type 0} (shapes : List Shape) (p : Place L) where
  -- a byte beside a part is a byte of the block beside the part's range
  beside_part : (i : ℕ) (part : PlacedField) → IsBeside i (span part.offset (size_at shapes part.shape.0)) → IsBeside (p.offset + i) (range_of shapes (part_place p part))
  beside_part i part (inl before) = inl (omega (arith, before))
  beside_part i part (inr behind) = inr (omega (arith, behind))

  part_beside : (i : ℕ) (part : PlacedField) → IsBeside (p.offset + i) (range_of shapes (part_place p part)) → IsBeside i (span part.offset (size_at shapes part.shape.0))
  part_beside i part (inl before) = inl (omega (arith, before))
  part_beside i part (inr behind) = inr (omega (arith, behind))

  pub beside_places : (i : ℕ) (body : List PlacedField) → All (IsBeside i) (part_spans shapes body) → IsBesideAll shapes (p.offset + i) (part_places p body)
  beside_places i [] all = All-nil (λ q. IsBeside (p.offset + i) (range_of shapes q))
  beside_places i (part ∷ body) all =
      All-cons (λ q. IsBeside (p.offset + i) (range_of shapes q)) (part_place p part) (part_places p body)
      (beside_part i part (All-head (IsBeside i) (span part.offset (size_at shapes part.shape.0)) (part_spans shapes body) all))
      (beside_places i body (All-tail (IsBeside i) (span part.offset (size_at shapes part.shape.0)) (part_spans shapes body) all))

  pub beside_spans : (i : ℕ) (body : List PlacedField) → IsBesideAll shapes (p.offset + i) (part_places p body) → All (IsBeside i) (part_spans shapes body)
  beside_spans i [] all = All-nil (IsBeside i)
  beside_spans i (part ∷ body) all =
      All-cons (IsBeside i) (span part.offset (size_at shapes part.shape.0)) (part_spans shapes body)
      (part_beside i part (All-head (λ q. IsBeside (p.offset + i) (range_of shapes q)) (part_place p part) (part_places p body) all))
      (beside_spans i body (All-tail (λ q. IsBeside (p.offset + i) (range_of shapes q)) (part_place p part) (part_places p body) all))

  leaf_has_none : (found : Option L) → parts_of_seen (option_map_or a_leaf found no_value) ≡ []
  leaf_has_none None = refl
  leaf_has_none (Some x) = refl

  tag_has_body : (forms : ℕ → Form) (bodies : List (List PlacedField)) (tag : Option ℕ)
      → parts_of_seen (option_map_or (λ t. option_map_or (λ body. a_node (forms t) (part_places p body)) (slice_get bodies t) no_value) tag no_value)
      ≡ part_places p (option_map_or (body_under bodies) tag [])
  tag_has_body forms bodies None = refl
  tag_has_body forms bodies (Some t) = under (slice_get bodies t) refl
    where
      under : (body : Option (List PlacedField)) → slice_get bodies t ≡ body
          → parts_of_seen (option_map_or (λ body. a_node (forms t) (part_places p body)) (slice_get bodies t) no_value) ≡ part_places p (body_under bodies t)
      under None is = rw is refl
      under (Some body) is = rw is refl

  seen_inline_by : (t : Structure) (found : Option (Item L)) → IsInline t → parts_of_seen (seen_by shapes t p found) ≡ part_places p (body_by t found)
  seen_inline_by no_values found is = refl
  seen_inline_by (scalar k) found is = leaf_has_none (leaf_of found)
  seen_inline_by (plain form body) found is = refl
  seen_inline_by (tagged forms bodies) found is = tag_has_body forms bodies (tag_of found)
  seen_inline_by (sequence form ids) found is = absurd is

  -- the parts that are seen are the inline ones
  pub seen_inline : IsInline (structure_at shapes p.shape) → parts_of_seen (seen shapes p) ≡ part_places p (body_by (structure_at shapes p.shape) (own_item p))
  unfolding seen
  seen_inline is = seen_inline_by (structure_at shapes p.shape) (own_item p) is

  abbrev IsKnownPlace : Place L → Type 0
  IsKnownPlace q = (q.shape < length shapes) × IsInside q

  in_no_block : (P : Place L → Type 0) (t : Structure) (found : Option (Item L)) → IsInline t → AllInBlocks shapes P p t found
  in_no_block P no_values found is = tt
  in_no_block P (scalar k) found is = tt
  in_no_block P (plain form body) found is = tt
  in_no_block P (tagged forms bodies) found is = tt
  in_no_block P (sequence form ids) found is = absurd is

  all_of_seen : (P : Place L → Type 0) (s : Seen L) → AllSeen P s → All P (parts_of_seen s)
  all_of_seen P no_value all = All-nil P
  all_of_seen P (a_leaf x) all = All-nil P
  all_of_seen P (a_node form parts) all = all

  module _ (laid : IsLaidOut shapes p.shape) (is : IsInline (structure_at shapes p.shape)) where
    -- what holds of each part that lies in the range holds of what is seen
    all_inline : (P : Place L → Type 0) → ((part : PlacedField) → part.shape.0 < length shapes → part.offset + size_at shapes part.shape.0 ≤ size_at shapes p.shape → P (part_place p part)) → All P (parts_of_seen (seen shapes p))
    all_inline P each =
        all_of_seen P (seen shapes p)
        (all_seen shapes P p
        (All-weaker (LieApart shapes (size_at shapes p.shape)) (λ body. All P (part_places p body))
        (λ body apart. All-map P (part_place p) body (λ i part within. each _ (apart.known i part within) (apart.inside i part within)))
        (bodies_of (structure_at shapes p.shape)) laid.bodies)
        (in_no_block P (structure_at shapes p.shape) (own_item p) is))

    -- they are of shapes that are there, and begin in the block
    pub inline_known : LiesInBlock shapes p → AreKnownPlaces shapes (parts_of_seen (seen shapes p))
    inline_known inside = record {
      each = each_of_all IsKnownPlace (parts_of_seen (seen shapes p)) (all_inline IsKnownPlace (λ part known ends. (known, omega (arith, ends, inside))));
    }

    -- they end within the range
    pub inline_end : All (λ q. q.offset + size_at shapes q.shape ≤ p.offset + size_at shapes p.shape) (parts_of_seen (seen shapes p))
    inline_end = all_inline (λ q. q.offset + size_at shapes q.shape ≤ p.offset + size_at shapes p.shape) (λ part known ends. omega (arith, ends))
