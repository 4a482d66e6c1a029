-- Inline parts of a value lie in the block, apart from each other.
use Rattle.std.proofs.Common.{ℕ, ◌+◌, ◌-◌, ◌<◌, List, All, AllPairs, get_or, length, subst₂, inl, inr, arith}
use Rattle.std.proofs.lemmas.Bool.{cases_lt}
use Rattle.std.proofs.lemmas.List.{get_or-map, length-map}
use Rattle.facet_block.specs.Span.{IsApart, Span, span}
use Rattle.facet_outline.specs.declared.placed_fields.PlacedField.{PlacedField}
use Rattle.facet_registry.specs.Registry.{size_at}
use Rattle.facet_shape.specs.declared.shape.Shape.{Shape}
use Rattle.facet_trees.specs.Structure.{structure_at}
use Rattle.facet_values.specs.Laid.{IsLaidOut, bodies_of}
use Rattle.facet_values.specs.Place.{LiesInBlock, Place, part_place, range_of}

-- spans that lie apart do so where both are moved
apart_moved : (base : ℕ) (a b : Span) → IsApart a b → IsApart (span (base + a.start) a.len) (span (base + b.start) b.len)
apart_moved base a b clear x = elim (cases_lt x base) [
  | inl before ↦ inl (inl (omega (arith, before)))
  | inr from ↦ elim (clear (x - base)) [
    | inl (inl before) ↦ inl (inl (omega (arith, before, from)))
    | inl (inr behind) ↦ inl (inr (omega (arith, behind, from)))
    | inr (inl before) ↦ inr (inl (omega (arith, before, from)))
    | inr (inr behind) ↦ inr (inr (omega (arith, behind, from)))
  ]
]

module _ {L : Type 0} (shapes : List Shape) (p : Place L) (laid : IsLaidOut shapes p.shape) where
  -- each lies in the block where the value does, and is of a shape that is there
  pub parts_lie_in_block : LiesInBlock shapes p → All (All (λ part. (part.shape.0 < length shapes) × LiesInBlock shapes (part_place p part))) (bodies_of (structure_at shapes p.shape))
  parts_lie_in_block lies i body under j part within =
      let these = laid.bodies i body under in
      (these.known j part within, omega (arith, these.inside j part within, lies))

  -- no two that lie side by side share a byte
  pub parts_share_no_byte : All (AllPairs (λ a b. IsApart (range_of shapes (part_place p a)) (range_of shapes (part_place p b)))) (bodies_of (structure_at shapes p.shape))
  parts_share_no_byte i body under j k part before within =
      let spans : PlacedField → Span = λ f. span f.offset (size_at shapes f.shape.0) in
      let these = get_or (bodies_of (structure_at shapes p.shape)) i body in
      let first = get_or-map spans these j part (spans part) (omega (arith, before, within)) in
      let second = get_or-map spans these k part (spans part) within in
      let clear = (laid.bodies i body under).apart j k (spans part) before (omega (arith, within, length-map these spans)) in
      apart_moved p.offset (spans (get_or these j part)) (spans (get_or these k part)) (subst₂ IsApart first second clear)
