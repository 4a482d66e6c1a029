-- A leaf that lies alone in its range reads, and what lies apart from it is as before.
use Rattle.std.proofs.Common.{◌≡◌, ◌≢◌, ℕ, ◌<◌, inl, inr, List, [], ◌∷◌, Some, refl, arith}
use Rattle.facet_block.specs.Span.{IsBeside, span}
use Rattle.facet_block.specs.declared.block.Item.{Leaf}
use Rattle.facet_leaf.specs.LeafModel.{LeafModel}
use Rattle.facet_outline.specs.declared.value_kind.ValueKind.TheVariants as kind
use Rattle.facet_registry.specs.Registry.{kind_at}
use Rattle.facet_shape.specs.declared.shape.Shape.{Shape}
use Rattle.facet_trees.specs.Value.{leaf}
use Rattle.facet_values.proofs.KindStructures.{structure_of_leaf}
use Rattle.facet_values.proofs.StructureRows.{reads_from_leaf}
use Rattle.facet_values.specs.Place.{Place, own_item}
use Rattle.facet_values.specs.Reading.{Reads}
use Rattle.facet_values.specs.Rows.{HoldsOnly}

-- an offset beside some bytes isn't the first of them
pub not_first : (i start len : ℕ) → 0 < len → IsBeside i (span start len) → i ≢ start
not_first i start len some (inl before) = omega arith
not_first i start len some (inr behind) = omega arith

module _ {L : Type 0} (m : LeafModel L) (shapes : List Shape) where
  pub leaf_reads : (p : Place L) (x : L) → kind_at shapes p.shape ≡ kind.Leaf (m.kind x) → own_item p ≡ Some (Leaf x) → HoldsOnly m shapes p (span 0 1 ∷ []) → Reads m shapes p (leaf x)
  leaf_reads p x of item holds =
      reads_from_leaf m shapes p (m.kind x) (structure_of_leaf shapes p.shape (m.kind x) of) (leaf x)
      (record { leaf_there = x; kind = refl; item = item; holds = holds; value = refl })
