-- The places of the parts that are seen lie in their blocks.
use Rattle.std.proofs.Common.{◌≡◌, ℕ, ◌+◌, ◌≤◌, List, All, Option, None, Some, subst, arith}
use Rattle.std.proofs.lemmas.List.Elements.{All-map, All-weaker}
use Rattle.facet_base.specs.declared.layout.ShapeId.{ShapeId}
use Rattle.facet_block.specs.Block.{size_of}
use Rattle.facet_block.specs.Seq.{filled_of}
use Rattle.facet_block.specs.declared.block.Block.{Block}
use Rattle.facet_block.specs.declared.block.Item.{Item, Leaf, Sequence, Tag}
use Rattle.facet_block.specs.declared.block.Seq.{Seq}
use Rattle.facet_leaf.specs.LeafModel.{LeafModel}
use Rattle.facet_outline.specs.declared.placed_fields.PlacedField.{PlacedField}
use Rattle.facet_registry.specs.Registry.{size_at}
use Rattle.facet_shape.specs.declared.shape.Shape.{Shape}
use Rattle.facet_trees.specs.Structure.{Structure, no_values, plain, scalar, sequence, tagged, block_body, block_size, structure_at}
use Rattle.facet_trees.specs.declared.form.Form.{Form}
use Rattle.facet_values.specs.Laid.{HoldsApart, IsLaidOut, LieApart, bodies_of}
use Rattle.facet_values.specs.Place.{LiesInBlock, Place, own_item, part_place, part_places, start_of}
use Rattle.facet_values.specs.Reading.{IsFilled, IsItemOf, IsWhole}
use Rattle.facet_values.specs.Seen.{a_node, seen}
use Rattle.facet_values.proofs.SeenParts.{AllInBlocks, all_parts, all_seen}

module _ {L : Type 0} (shapes : List Shape) where
  -- parts that end within so many bytes lie in the block where these do
  lie_there : (p : Place L) (size : ℕ) (body : List PlacedField) → p.offset + size ≤ size_of p.block → LieApart shapes size body → All (LiesInBlock shapes) (part_places p body)
  lie_there p size body inside apart =
      All-map (LiesInBlock shapes) (part_place p) body (λ i part within. omega (arith, apart.inside i part within, inside))

  filled_lie : (ids : List ShapeId) → LieApart shapes (block_size shapes ids) (block_body shapes ids) → (block : Block L) → IsFilled shapes ids block → All (LiesInBlock shapes) (part_places (start_of 0 block) (block_body shapes ids))
  filled_lie ids apart block is = lie_there (start_of 0 block) (block_size shapes ids) (block_body shapes ids) (omega (arith, is.size)) apart

  blocks_lie : (m : LeafModel L) (p : Place L) (t : Structure) (found : Option (Item L)) → HoldsApart shapes t → IsItemOf m shapes t found → AllInBlocks shapes (LiesInBlock shapes) p t found
  blocks_lie m p no_values found holds item = tt
  blocks_lie m p (scalar k) found holds item = tt
  blocks_lie m p (plain form body) found holds item = tt
  blocks_lie m p (tagged forms bodies) found holds item = tt
  blocks_lie m p (sequence form ids) None holds item = λ s is. absurd (cc)
  blocks_lie m p (sequence form ids) (Some (Leaf x)) holds item = λ s is. absurd (cc)
  blocks_lie m p (sequence form ids) (Some (Tag n)) holds item = λ s is. absurd (cc)
  blocks_lie m p (sequence form ids) (Some (Sequence there)) holds item = λ s is.
      let same : there ≡ s = cc in
      let filled = subst (λ (q : Seq L). All (IsFilled shapes ids) (filled_of q)) same item.filled in
      All-weaker (IsFilled shapes ids) (λ block. All (LiesInBlock shapes) (part_places (start_of 0 block) (block_body shapes ids))) (λ block each. filled_lie ids holds block each) (filled_of s) filled

  -- each part of what is seen lies in its block, where the range of the place is whole
  pub parts_lie : (m : LeafModel L) (p : Place L) → IsLaidOut shapes p.shape → IsWhole m shapes p → (form : Form) (parts : List (Place L)) → seen shapes p ≡ a_node form parts → All (LiesInBlock shapes) parts
  parts_lie m p laid whole form parts is =
      all_parts (LiesInBlock shapes) (seen shapes p) form parts
      (all_seen shapes (LiesInBlock shapes) p
      (All-weaker (LieApart shapes (size_at shapes p.shape)) (λ body. All (LiesInBlock shapes) (part_places p body)) (λ body apart. lie_there p (size_at shapes p.shape) body whole.inside apart) (bodies_of (structure_at shapes p.shape)) laid.bodies)
      (blocks_lie m p (structure_at shapes p.shape) (own_item p) laid.blocks whole.item))
      is
