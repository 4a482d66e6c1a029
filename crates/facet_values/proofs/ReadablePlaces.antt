-- What lies at a place of a unit or of leaves that reads as a value, and the leaf that the value is.
use Rattle.std.proofs.Common.{◌≡◌, ℕ, ◌+◌, ◌-◌, ◌<◌, ◌≤◌, ◌≢◌, true, zero, suc, inl, inr, List, [], ◌∷◌, length, All, Option, None, Some, slice_get, refl, sym, ap, ◌∙◌, subst, arith, add-zero}
use Rattle.std.specs.Option.{option_map_or, option_to_list}
use Rattle.std.proofs.lemmas.List.Elements.{All-nil, All-cons}
use Rattle.facet_base.specs.declared.scalar_type.ScalarType.{ScalarType}
use Rattle.facet_leaf.specs.LeafModel.{LeafModel}
use Rattle.facet_block.specs.declared.block.Item.{Item, Leaf, Tag, Sequence}
use Rattle.facet_block.specs.declared.block.ItemKind.TheVariants as item
use Rattle.facet_block.specs.declared.block.Seq.{Seq}
use Rattle.facet_block.specs.Block.{item_at, item_kind, item_kind_at, leaf_of, sequence_of, size_of, tag_of, with_item}
use Rattle.facet_block.specs.Seq.{filled_of}
use Rattle.facet_block.specs.Span.{span, IsBeside, IsCleared}
use Rattle.facet_block.proofs.Ranges.{size_with_item, item_there, item_elsewhere}
use Rattle.facet_causes.specs.Reading.{kind_in}
use Rattle.facet_outline.specs.declared.placed_fields.PlacedField.{PlacedField}
use Rattle.facet_outline.specs.declared.value_kind.ValueKind.{ValueKind}
use Rattle.facet_outline.specs.declared.value_kind.ValueKind.TheVariants as kind
use Rattle.facet_registry.specs.Registry.{kind_at, size_at}
use Rattle.facet_shape.specs.declared.shape.Shape.{Shape}
use Rattle.facet_trees.specs.Structure.{Structure, no_values, plain, scalar, sequence, tagged, block_body, structure_at, structure_of_kind}
use Rattle.facet_trees.specs.Value.{Value, Values, leaf, node, none, more, depth, greatest_depth, leaves, leaves_of_parts}
use Rattle.facet_trees.specs.declared.form.Form.{Form}
use Rattle.facet_values.specs.Place.{Place, block_places, own_item, part_places}
use Rattle.facet_values.specs.Reading.{own_span, spans_by, Reads, ReadAll, IsReadable}
use Rattle.facet_values.specs.Scalars.{is_scalar}
use Rattle.facet_values.specs.Seen.{a_leaf, a_node, no_value, seen, seen_by, leaf_of_seen, leaf_at}
use Rattle.facet_values.proofs.KindStructures.{kind_found, structure_found, structure_of_leaf, structure_of_unit}
use Rattle.facet_values.proofs.LeafReading.{seen_scalar}
use Rattle.facet_values.proofs.WholePlaces.{is_whole}

module _ {L : Type 0} where
  -- the leaf that a kind looks at, if it looks at one
  abbrev pub leaf_by_kind : ValueKind → Option (Item L) → Option L
  leaf_by_kind (kind.Leaf k) found = leaf_of found
  leaf_by_kind _ found = None

  -- a kind that isn't one of leaves looks at none
  pub no_leaf_by_kind : (of : ValueKind) (found : Option (Item L)) → ((k : ScalarType) → of ≡ kind.Leaf k → ⊥) → leaf_by_kind of found ≡ None
  no_leaf_by_kind (kind.Leaf k) found other = absurd (other k refl)
  no_leaf_by_kind _ found other = refl

  -- the same by structure
  abbrev leaf_by_structure : Structure → Option (Item L) → Option L
  leaf_by_structure (scalar k) found = leaf_of found
  leaf_by_structure _ found = None

  leaf_of_seen_leaf : (found : Option L) → leaf_of_seen (option_map_or a_leaf found no_value) ≡ found
  leaf_of_seen_leaf None = refl
  leaf_of_seen_leaf (Some x) = refl

  no_leaf_tagged : (forms : ℕ → Form) (bodies : List (List PlacedField)) (p : Place L) (tag : Option ℕ)
      → leaf_of_seen (option_map_or (λ t. option_map_or (λ body. a_node (forms t) (part_places p body)) (slice_get bodies t) no_value) tag no_value) ≡ None
  no_leaf_tagged forms bodies p None = refl
  no_leaf_tagged forms bodies p (Some t) = under (slice_get bodies t)
    where
      under : (found : Option (List PlacedField)) → leaf_of_seen (option_map_or (λ body. a_node (forms t) (part_places p body)) found no_value) ≡ None
      under None = refl
      under (Some body) = refl

  no_leaf_sequence : (form : Form) (body : List PlacedField) (found : Option (Seq L)) → leaf_of_seen (option_map_or (λ s. a_node form (block_places body (filled_of s))) found no_value) ≡ None
  no_leaf_sequence form body None = refl
  no_leaf_sequence form body (Some s) = refl

  leaf_of_seen_by : (shapes : List Shape) (t : Structure) (p : Place L) (found : Option (Item L)) → leaf_of_seen (seen_by shapes t p found) ≡ leaf_by_structure t found
  leaf_of_seen_by shapes no_values p found = refl
  leaf_of_seen_by shapes (scalar k) p found = leaf_of_seen_leaf (leaf_of found)
  leaf_of_seen_by shapes (plain form body) p found = refl
  leaf_of_seen_by shapes (tagged forms bodies) p found = no_leaf_tagged forms bodies p (tag_of found)
  leaf_of_seen_by shapes (sequence form ids) p found = no_leaf_sequence form (block_body shapes ids) (sequence_of found)

  same_leaf_of_kind : (shapes : List Shape) (shape : Shape) (found : Option (Item L)) (of : ValueKind) → leaf_by_structure (structure_of_kind shapes of shape) found ≡ leaf_by_kind of found
  same_leaf_of_kind shapes shape found (kind.Leaf k) = refl
  same_leaf_of_kind shapes shape found _ = refl

  same_leaf_found : (shapes : List Shape) (found : Option (Item L)) (there : Option Shape) → leaf_by_structure (structure_found shapes there) found ≡ leaf_by_kind (kind_found shapes there) found
  same_leaf_found shapes found None = refl
  same_leaf_found shapes found (Some shape) = same_leaf_of_kind shapes shape found (kind_in shapes shape)

  same_leaf : (shapes : List Shape) (found : Option (Item L)) (s : ℕ) → leaf_by_structure (structure_at shapes s) found ≡ leaf_by_kind (kind_at shapes s) found
  unfolding structure_at
  same_leaf shapes found s = same_leaf_found shapes found (slice_get shapes s)

  -- the leaf that a place has is the item there, where the kind is one of leaves
  pub leaf_at_by_kind : (shapes : List Shape) (p : Place L) → leaf_at shapes p ≡ leaf_by_kind (kind_at shapes p.shape) (item_at p.block p.offset)
  unfolding seen
  leaf_at_by_kind shapes p =
      leaf_of_seen_by shapes (structure_at shapes p.shape) p (own_item p) ∙ same_leaf shapes (own_item p) p.shape

  not_node : (found : Option L) (form : Form) (parts : List (Place L)) → option_map_or a_leaf found no_value ≡ a_node form parts → ⊥
  not_node None form parts e = cc
  not_node (Some y) form parts e = cc

  is_leaf : (found : Option (Item L)) (x : L) → leaf_of found ≡ Some x → item_kind found ≡ item.Leaf
  is_leaf None x e = absurd (cc)
  is_leaf (Some (Leaf y)) x e = refl
  is_leaf (Some (Tag n)) x e = absurd (cc)
  is_leaf (Some (Sequence q)) x e = absurd (cc)

  the_leaf : (found : Option (Item L)) → item_kind found ≡ item.Leaf → (x : L) × (found ≡ Some (Leaf x))
  the_leaf None e = absurd (cc)
  the_leaf (Some (Leaf x)) e = (x, refl)
  the_leaf (Some (Tag n)) e = absurd (cc)
  the_leaf (Some (Sequence q)) e = absurd (cc)

  one_at_most : (found : Option L) → length (option_to_list found) ≤ 1
  one_at_most None = omega arith
  one_at_most (Some x) = omega arith

  -- a unit and leaves have no parts
  no_parts : (shapes : List Shape) (p : Place L) (of : ValueKind) → kind_at shapes p.shape ≡ of → is_scalar of ≡ true → (form : Form) (parts : List (Place L)) → seen shapes p ≡ a_node form parts → parts ≡ []
  unfolding seen
  no_parts shapes p kind.Unit of is form parts e =
      let unit = ap (λ t. seen_by shapes t p (own_item p)) (structure_of_unit shapes p.shape of) in
      cc
  no_parts shapes p (kind.Leaf k) of is form parts e =
      absurd (not_node (leaf_of (own_item p)) form parts (sym (seen_scalar shapes p k (structure_of_leaf shapes p.shape k of)) ∙ e))
  no_parts shapes p _ of is form parts e = absurd (cc)

  module _ (m : LeafModel L) (shapes : List Shape) where
    none_read : (parts : List (Place L)) (vs : Values L) → parts ≡ [] → ReadAll m shapes parts vs → leaves_of_parts vs ≡ []
    none_read [] none e reads = refl
    none_read [] (more v vs) e reads = absurd reads
    none_read (p ∷ ps) vs e reads = absurd (cc)

    -- the leaves of a unit or a leaf that is read are the one that it is, or none
    pub leaves_read : (p : Place L) (v : Value L) → is_scalar (kind_at shapes p.shape) ≡ true → Reads m shapes p v → leaves v ≡ option_to_list (leaf_at shapes p)
    leaves_read p (leaf x) is reads = sym (ap (λ s. option_to_list (leaf_of_seen s)) reads.1)
    leaves_read p (node form vs) is reads =
        none_read reads.0 vs (no_parts shapes p (kind_at shapes p.shape) refl is form reads.0 reads.2) reads.3
        ∙ sym (ap (λ s. option_to_list (leaf_of_seen s)) reads.2)

    flat : (parts : List (Place L)) (vs : Values L) → parts ≡ [] → ReadAll m shapes parts vs → greatest_depth vs ≤ 0
    flat [] none e reads = omega arith
    flat [] (more v vs) e reads = absurd reads
    flat (p ∷ ps) vs e reads = absurd (cc)

    -- a unit or a leaf has one level
    pub one_level_at_most : (p : Place L) (v : Value L) → is_scalar (kind_at shapes p.shape) ≡ true → Reads m shapes p v → depth v ≤ 1
    one_level_at_most p (leaf x) is reads = omega arith
    one_level_at_most p (node form vs) is reads =
        omega (arith, flat reads.0 vs (no_parts shapes p (kind_at shapes p.shape) refl is form reads.0 reads.2) reads.3)

    pub one_leaf_at_most : (p : Place L) (v : Value L) → is_scalar (kind_at shapes p.shape) ≡ true → Reads m shapes p v → length (leaves v) ≤ 1
    one_leaf_at_most p v is reads = omega (arith, one_at_most (leaf_at shapes p), ap length (leaves_read p v is reads))

    module _ (p : Place L) (k : ScalarType) (of : kind_at shapes p.shape ≡ kind.Leaf k) where
      seen_there : seen shapes p ≡ option_map_or a_leaf (leaf_of (item_at p.block p.offset)) no_value
      seen_there = seen_scalar shapes p k (structure_of_leaf shapes p.shape k of)

      scalar_there : is_scalar (kind_at shapes p.shape) ≡ true
      scalar_there = ap is_scalar of

      leaf_lies : (v : Value L) → Reads m shapes p v → item_kind_at p.block p.offset ≡ item.Leaf
      leaf_lies (leaf x) reads = is_leaf (item_at p.block p.offset) x (sym (leaf_of_seen_leaf _) ∙ ap leaf_of_seen (sym seen_there ∙ reads.1))
      leaf_lies (node form vs) reads = absurd (not_node _ form reads.0 (sym seen_there ∙ reads.2))

      -- a place of leaves that reads as a value holds a leaf
      pub leaf_held : IsReadable m shapes p → item_kind_at p.block p.offset ≡ item.Leaf
      leaf_held readable = leaf_lies readable.value readable.reads

      -- the leaves of what is read there are that leaf alone
      pub leaf_read : (v : Value L) → Reads m shapes p v → (x : L) × (item_at p.block p.offset ≡ Some (Leaf x)) × (leaves v ≡ x ∷ [])
      leaf_read v reads =
          let (x, here) = the_leaf (item_at p.block p.offset) (leaf_lies v reads) in (
            x,
            here,
            leaves_read p v scalar_there reads
                ∙ ap option_to_list (leaf_at_by_kind shapes p ∙ ap (λ f. leaf_by_kind f (item_at p.block p.offset)) of ∙ ap leaf_of here),
          )

    -- what is read as a unit has none
    pub no_leaves : (p : Place L) (v : Value L) → is_scalar (kind_at shapes p.shape) ≡ true → ((k : ScalarType) → kind_at shapes p.shape ≡ kind.Leaf k → ⊥) → Reads m shapes p v → leaves v ≡ []
    no_leaves p v is other reads =
        leaves_read p v is reads
        ∙ ap option_to_list (leaf_at_by_kind shapes p ∙ no_leaf_by_kind (kind_at shapes p.shape) (item_at p.block p.offset) other)

    module _ (p : Place L) (v : Value L) (reads : Reads m shapes p v) where
      beside_first : (j : ℕ) (k : ScalarType) → kind_at shapes p.shape ≡ kind.Leaf k → All (IsBeside (suc j)) (spans_by shapes (structure_at shapes p.shape) (own_item p))
      beside_first j k of =
          let behind : 0 + 1 ≤ suc j = omega arith in
          subst (λ t. All (IsBeside (suc j)) (spans_by shapes t (own_item p))) (sym (structure_of_leaf shapes p.shape k of))
          (All-cons (IsBeside (suc j)) own_span [] (inr behind) (All-nil (IsBeside (suc j))))

      emptied : (k : ScalarType) → kind_at shapes p.shape ≡ kind.Leaf k → p.offset < size_of p.block → (j : ℕ) → j < size_at shapes p.shape
          → item_at (with_item p.block p.offset None) (p.offset + j) ≡ None
      emptied k of inside zero below = rw add-zero (item_there p.block p.offset None inside)
      emptied k of inside (suc j) below =
          item_elsewhere p.block p.offset None (p.offset + suc j) (omega arith) ∙ (is_whole m shapes p v reads).alone (suc j) below (beside_first j k of)

      not_first : (i : ℕ) → 0 < size_at shapes p.shape → IsBeside i (span p.offset (size_at shapes p.shape)) → i ≢ p.offset
      not_first i some (inl before) = omega arith
      not_first i some (inr behind) = omega arith

      -- a place of leaves is empty without its leaf, and beside it nothing has changed
      pub cleared_of_leaf : (k : ScalarType) → kind_at shapes p.shape ≡ kind.Leaf k → 0 < size_at shapes p.shape
          → IsCleared p.block (with_item p.block p.offset None) (span p.offset (size_at shapes p.shape))
      cleared_of_leaf k of some =
          let inside : p.offset < size_of p.block = omega (arith, some, (is_whole m shapes p v reads).inside) in
          record {
            size = size_with_item p.block p.offset None;
            empty = λ i within.
                let there : p.offset + (i - p.offset) ≡ i = omega (arith, within.0) in
                ap (item_at (with_item p.block p.offset None)) (sym there) ∙ emptied k of inside (i - p.offset) (omega (arith, within.0, within.1));
            outside = λ i beside. item_elsewhere p.block p.offset None i (not_first i some beside);
          }

      -- a place of a unit is empty as it is
      pub cleared_of_nothing : kind_at shapes p.shape ≡ kind.Unit → IsCleared p.block p.block (span p.offset (size_at shapes p.shape))
      cleared_of_nothing unit = record {
        size = refl;
        empty = λ i within.
            let there : p.offset + (i - p.offset) ≡ i = omega (arith, within.0) in
            ap (item_at p.block) (sym there)
            ∙ (is_whole m shapes p v reads).alone (i - p.offset) (omega (arith, within.0, within.1))
            (subst (λ t. All (IsBeside (i - p.offset)) (spans_by shapes t (own_item p))) (sym (structure_of_unit shapes p.shape unit)) (All-nil (IsBeside (i - p.offset))));
        outside = λ i beside. refl;
      }
