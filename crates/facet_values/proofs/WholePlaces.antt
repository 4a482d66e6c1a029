-- What holds of a place that reads as a value, before its parts are looked at.
use Rattle.std.proofs.Common.{◌≡◌, List, ap}
use Rattle.facet_leaf.specs.LeafModel.{LeafModel}
use Rattle.facet_outline.specs.declared.value_kind.ValueKind.TheVariants as kind
use Rattle.facet_registry.specs.Registry.{kind_at}
use Rattle.facet_shape.specs.declared.shape.Shape.{Shape}
use Rattle.facet_trees.specs.Value.{Value, leaf, node}
use Rattle.facet_values.specs.Place.{LiesInBlock, Place, own_item}
use Rattle.facet_values.specs.Reading.{IsWhole, Reads}
use Rattle.facet_values.specs.Seen.{no_value, seen, seen_by}
use Rattle.facet_values.proofs.KindStructures.{structure_without_values}

module _ {L : Type 0} (m : LeafModel L) (shapes : List Shape) where
  pub is_whole : (p : Place L) (v : Value L) → Reads m shapes p v → IsWhole m shapes p
  is_whole p (leaf x) reads = reads.0
  is_whole p (node form vs) reads = reads.1

  pub lies_in_block : (p : Place L) (v : Value L) → Reads m shapes p v → LiesInBlock shapes p
  lies_in_block p v reads = (is_whole p v reads).inside

  -- a place where no value begins reads as none
  pub never_read : (p : Place L) (v : Value L) → seen shapes p ≡ no_value → ¬ Reads m shapes p v
  never_read p (leaf x) nothing reads = let e = reads.1 in absurd (cc)
  never_read p (node form vs) nothing reads = let e = reads.2 in absurd (cc)

  -- a place of a shape without values reads as none
  pub nothing_read : (p : Place L) (v : Value L) → kind_at shapes p.shape ≡ kind.NoValue → ¬ Reads m shapes p v
  unfolding seen
  nothing_read p v of = never_read p v (ap (λ t. seen_by shapes t p (own_item p)) (structure_without_values shapes p.shape of))
