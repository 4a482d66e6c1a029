-- Places whose shape is known to be one of leaves.
use Rattle.std.proofs.Common.{◌≡◌, ◌≢◌, Option, None, Some, IfSome, List, refl, sym, subst, ap, ◌∙◌}
use Rattle.std.specs.Option.{option_map_or}
use Rattle.facet_base.specs.declared.layout.ShapeId.{ShapeId}
use Rattle.facet_block.specs.Block.{item_kind, item_kind_at, leaf_of}
use Rattle.facet_block.specs.declared.block.Item.{Item, Leaf, Tag, Sequence}
use Rattle.facet_block.specs.declared.block.ItemKind.TheVariants as item
use Rattle.facet_shape.specs.declared.shape.Shape.{Shape}
use Rattle.facet_values.proofs.LeafReading.{seen_scalar}
use Rattle.facet_values.specs.Place.{Place, own_item}
use Rattle.facet_values.specs.Seen.{a_leaf, no_value, seen}
use Rattle.facet_compare.specs.Leaves.{IsOfLeaves}

-- the values of the shape that was looked at are leaves
pub of_known : (shapes : List Shape) {known : Option ShapeId} {id : ShapeId} → known ≡ Some id → IfSome known (λ known. IsOfLeaves shapes known.0) → IsOfLeaves shapes id.0
of_known shapes is leaves = subst (λ o. IfSome o (λ known. IsOfLeaves shapes known.0)) is leaves

-- where something is seen of a leaf, a leaf lies
lies_in : {L : Type 0} (found : Option (Item L)) → option_map_or a_leaf (leaf_of found) no_value ≢ no_value → item_kind found ≡ item.Leaf
lies_in None some = absurd (some refl)
lies_in (Some (Leaf x)) some = refl
lies_in (Some (Tag n)) some = absurd (some refl)
lies_in (Some (Sequence s)) some = absurd (some refl)

module _ {L : Type 0} (shapes : List Shape) (p : Place L) (of : IsOfLeaves shapes p.shape) where
  pub leaf_lies : seen shapes p ≢ no_value → item_kind_at p.block p.offset ≡ item.Leaf
  leaf_lies some = lies_in (own_item p) (λ none. some (seen_scalar shapes p of.0 of.1 ∙ none))

  pub leaf_seen : (x : L) → own_item p ≡ Some (Leaf x) → a_leaf x ≡ seen shapes p
  leaf_seen x there = sym (seen_scalar shapes p of.0 of.1 ∙ ap (λ found. option_map_or a_leaf (leaf_of found) no_value) there)
