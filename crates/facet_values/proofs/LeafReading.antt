-- What a place of leaves reads as, and what a block with a leaf at its start does.
use Rattle.std.proofs.Common.{◌≡◌, ℕ, ◌+◌, ◌<◌, ◌≤◌, ◌⊎◌, List, [], Option, None, Some, All, refl, sym, ap, ◌∙◌, subst, arith, zero-add}
use Rattle.std.specs.Option.{option_map_or}
use Rattle.std.proofs.lemmas.List.Elements.{All-head}
use Rattle.facet_base.specs.declared.scalar_type.ScalarType.{ScalarType}
use Rattle.facet_leaf.specs.LeafModel.{LeafModel}
use Rattle.facet_block.specs.declared.block.Block.{Block}
use Rattle.facet_block.specs.declared.block.Item.{Item, Leaf, Tag, Sequence}
use Rattle.facet_block.specs.Block.{item_at, leaf_of, size_of, empty_block}
use Rattle.facet_block.specs.Span.{IsBeside}
use Rattle.facet_block.proofs.Ranges.{size_empty, item_empty, size_with_item, item_there, item_elsewhere}
use Rattle.facet_registry.specs.Registry.{kind_at, size_at}
use Rattle.facet_shape.specs.declared.shape.Shape.{Shape}
use Rattle.facet_trees.specs.Structure.{Structure, scalar, structure_at}
use Rattle.facet_trees.specs.Value.{leaf}
use Rattle.facet_outline.specs.declared.value_kind.ValueKind.TheVariants as kind
use Rattle.facet_values.specs.Place.{Place, leaf_block, own_item, start_of}
use Rattle.facet_values.specs.Seen.{a_leaf, no_value, seen, seen_by}
use Rattle.facet_values.specs.Reading.{own_span, spans_by, IsAlone, IsItemOf, IsWhole, Reads, IsReadable}
use Rattle.facet_values.proofs.KindStructures.{structure_of_leaf}

module _ {L : Type 0} (x : L) where
  first_item : (size : ℕ) → 0 < size → item_at (leaf_block size x) 0 ≡ Some (Leaf x)
  first_item size some = item_there (empty_block size) 0 (Some (Leaf x)) (omega (arith, size_empty L size))

  other_items : (size i : ℕ) → 0 < i → item_at (leaf_block size x) i ≡ None
  other_items size i some = item_elsewhere (empty_block size) 0 (Some (Leaf x)) i (omega arith) ∙ item_empty L size i

  pub leaf_block_size : (size : ℕ) → size_of (leaf_block size x) ≡ size
  leaf_block_size size = size_with_item (empty_block size) 0 (Some (Leaf x)) ∙ size_empty L size

behind_first : (i : ℕ) → (i < 0) ⊎ (0 + 1 ≤ i) → 0 < i
behind_first i beside = omega arith

-- the leaf that is seen is the item
pub item_of_leaf : {L : Type 0} (found : Option (Item L)) (x : L) → option_map_or a_leaf (leaf_of found) no_value ≡ a_leaf x → found ≡ Some (Leaf x)
item_of_leaf None x e = absurd (cc)
item_of_leaf (Some (Leaf y)) x e = let same : y ≡ x = cc in ap (λ z. Some (Leaf z)) same
item_of_leaf (Some (Tag n)) x e = absurd (cc)
item_of_leaf (Some (Sequence s)) x e = absurd (cc)

-- what is seen where the structure is one of leaves
pub seen_scalar : {L : Type 0} (shapes : List Shape) (p : Place L) (k : ScalarType) → structure_at shapes p.shape ≡ scalar k → seen shapes p ≡ option_map_or a_leaf (leaf_of (own_item p)) no_value
unfolding seen
seen_scalar shapes p k of = ap (λ t. seen_by shapes t p (own_item p)) of

module _ {L : Type 0} (m : LeafModel L) (shapes : List Shape) where
  module _ (s : ℕ) (x : L) (of : kind_at shapes s ≡ kind.Leaf (m.kind x)) (some : 0 < size_at shapes s) where
    is_scalar_shape : structure_at shapes s ≡ scalar (m.kind x)
    is_scalar_shape = structure_of_leaf shapes s (m.kind x) of

    alone_in_range : (i : ℕ) → i < size_at shapes s → IsBeside i own_span → item_at (leaf_block (size_at shapes s) x) (0 + i) ≡ None
    alone_in_range i below beside = rw zero-add (other_items x (size_at shapes s) i (behind_first i beside))

    alone : IsAlone (size_at shapes s) (start_of s (leaf_block (size_at shapes s) x)) (spans_by shapes (structure_at shapes s) (own_item (start_of s (leaf_block (size_at shapes s) x))))
    alone i below beside =
        alone_in_range i below (All-head (IsBeside i) own_span []
        (subst (λ t. All (IsBeside i) (spans_by shapes t (own_item (start_of s (leaf_block (size_at shapes s) x))))) is_scalar_shape beside))

    whole : IsWhole m shapes (start_of s (leaf_block (size_at shapes s) x))
    whole =
        let same : m.kind x ≡ m.kind x = refl in
        record {
          inside = omega (arith, leaf_block_size x (size_at shapes s));
          alone = alone;
          item = rw (is_scalar_shape, first_item x (size_at shapes s) some) same;
        }

    -- it reads as the leaf
    pub reads_leaf : Reads m shapes (start_of s (leaf_block (size_at shapes s) x)) (leaf x)
    unfolding seen
    reads_leaf = (whole, rw (is_scalar_shape, first_item x (size_at shapes s) some) refl)

    pub leaf_readable : (block : Block L) → block ≡ leaf_block (size_at shapes s) x → IsReadable m shapes (start_of s block)
    leaf_readable block is = subst (λ b. IsReadable m shapes (start_of s b)) (sym is) (record { value = leaf x; reads = reads_leaf; shallow = omega arith })

  kind_of_item : (t : Structure) (found : Option (Item L)) (k : ScalarType) (x : L) → t ≡ scalar k → found ≡ Some (Leaf x) → IsItemOf m shapes t found → m.kind x ≡ k
  kind_of_item t found k x of here is = rw (of, here) at is

  -- what is read as a leaf is of the shape's kind
  pub kind_of_scalar : (p : Place L) (k : ScalarType) (x : L) → structure_at shapes p.shape ≡ scalar k → Reads m shapes p (leaf x) → m.kind x ≡ k
  kind_of_scalar p k x of reads =
      kind_of_item (structure_at shapes p.shape) (own_item p) k x of (item_of_leaf (own_item p) x (sym (seen_scalar shapes p k of) ∙ reads.1)) reads.0.item

  pub kind_of_leaf : (p : Place L) (k : ScalarType) (x : L) → kind_at shapes p.shape ≡ kind.Leaf k → Reads m shapes p (leaf x) → m.kind x ≡ k
  kind_of_leaf p k x of reads = kind_of_scalar p k x (structure_of_leaf shapes p.shape k of) reads
