-- The layout of a pair of sealed shapes, as the code finds it among all shapes.
use Rattle.std.proofs.Common.{◌≡◌, ◌<◌, ◌≤◌, List, [], ◌∷◌, ◌++◌, length, ap, sym, ◌∙◌, subst₂, arith, length-append}
use Rattle.facet_base.proofs.Lists.{slice_get_front}
use Rattle.facet_base.specs.declared.layout.Layout.{Layout}
use Rattle.facet_base.specs.declared.layout.ShapeId.{ShapeId}
use Rattle.facet_causes.proofs.Front.{layout_same}
use Rattle.facet_causes.proofs.PartsAligned.{pairs_hold_both}
use Rattle.facet_causes.proofs.Sealed.{known_by}
use Rattle.facet_causes.specs.Arrangement.{part_at}
use Rattle.facet_causes.specs.Causes.{IsWellFormed}
use Rattle.facet_causes.specs.PartPlaces.{HoldsBoth}
use Rattle.facet_causes.specs.declared.cause.SealCause.TheVariants as cause
use Rattle.facet_leaf.specs.LeafModel.{LeafModel}
use Rattle.facet_outline.specs.Layout.{part_layout}
use Rattle.facet_readable.proofs.BlockLayouts.{IsPairLayout, layout_of_two}
use Rattle.facet_readable.specs.Blocks.{IsLayoutOf}
use Rattle.facet_readable.specs.declared.blocks.BlockLayout.{BlockLayout}
use Rattle.facet_shape.specs.declared.shape.Shape.{Shape}

module _ {L : Type 0} (m : LeafModel L) (xs ys : List Shape) (well : IsWellFormed m xs) where
  part_stays : (id : ShapeId) → id.0 < length xs → part_at (xs ++ ys) id ≡ part_at xs id
  part_stays id below =
      let longer : length xs ≤ length (xs ++ ys) = omega (arith, length-append xs ys) in
      ap part_layout (layout_same xs (xs ++ ys) longer (slice_get_front xs ys) (known_by m xs (λ t under. well cause.UnknownShape t under)) id below)

  module _ (key value : ShapeId) (key_known : key.0 < length xs) (value_known : value.0 < length xs) (k v : Layout) (key_is : k ≡ part_at (xs ++ ys) key) (value_is : v ≡ part_at (xs ++ ys) value) where
    -- the pair holds its key and its value
    pub pair_holds : HoldsBoth k v
    pair_holds = subst₂ HoldsBoth (sym (key_is ∙ part_stays key key_known)) (sym (value_is ∙ part_stays value value_known)) (pairs_hold_both m xs well key value)

    pub layout_of_pair : (layout : BlockLayout) → IsPairLayout k v layout → IsLayoutOf xs (key ∷ value ∷ []) layout
    layout_of_pair layout is =
        layout_of_two xs key value layout (pairs_hold_both m xs well key value)
        (subst₂ (λ a b. IsPairLayout a b layout) (key_is ∙ part_stays key key_known) (value_is ∙ part_stays value value_known) is)
