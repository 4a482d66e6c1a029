-- The layouts of shapes that meet no cause, and those of options, results and arrays that are made of them.
use Rattle.std.proofs.Common.{◌≡◌, ℕ, ◌+◌, ◌-◌, ◌%◌, ◌<◌, ◌≤◌, ◌==◌, ◌||◌, false, not, List, Option, None, Some, count_ones, slice_get, refl, sym, ap, ◌∙◌, inl, arith}
use Rattle.std.specs.Int.{is_power_of_two}
use Rattle.std.specs.Option.{option_map_or}
use Rattle.std.proofs.lemmas.Bool.{and_parts, eqb-true, false_from_ne_true, ltb-false, not-false, or_parts}
use Rattle.std.proofs.lemmas.Nat.{mod_below}
use Rattle.std.proofs.lemmas.Nat.Gcd.{dvd_of_mod-eq-zero, le_of_dvd}
use Rattle.facet_base.specs.declared.layout.Layout.{Layout}
use Rattle.facet_base.specs.declared.layout.ShapeId.{ShapeId}
use Rattle.facet_base.specs.declared.layout.ShapeLayout.{ShapeLayout}
use Rattle.facet_base.specs.declared.layout.ShapeLayout.TheVariants as layout
use Rattle.facet_causes.specs.Arrangement.{part_at}
use Rattle.facet_causes.specs.Causes.{IsWellFormed}
use Rattle.facet_causes.specs.PartPlaces.{IsEven}
use Rattle.facet_causes.specs.Reading.{element_of, kind_in, layout_at}
use Rattle.facet_causes.specs.declared.cause.SealCause.TheVariants as cause
use Rattle.facet_causes.proofs.NoneMet.{none_met}
use Rattle.facet_causes.proofs.PowersOfTwo.{power_of_one_bit, power_positive}
use Rattle.facet_leaf.specs.LeafModel.{LeafModel}
use Rattle.facet_outline.specs.BadLayout.{has_bad_layout, is_aligned_below_parts, is_no_layout_of_kind, is_no_scalar_layout, is_too_large, is_uneven, same_layout}
use Rattle.facet_outline.specs.Layout.{alignment, part_layout, rounded, up}
use Rattle.facet_shape.specs.declared.shape.Shape.{Shape}

-- rounding makes no number less
pub up_reaches : (n a : ℕ) → n ≤ up n a
unfolding up
up_reaches n a = omega arith

-- and adds less than the alignment
pub up_is_near : (n a : ℕ) → up n a < n + alignment a
unfolding up
up_is_near n a =
    let some : 0 < alignment a = omega arith in
    let rest = mod_below (alignment a - n % alignment a) (alignment a) some in
    omega (arith, rest)

-- bytes that are rounded to few are no more than these
pub rounded_few : (n a size : ℕ) → size ≡ (rounded n a).size → size ≤ 65536 → n ≤ size
rounded_few n a size is few = let reaches = up_reaches n a in omega (arith, reaches, is, few)

-- an even layout with bytes has no greater alignment than size
pub aligned_within : (l : Layout) → IsEven l → 0 < l.size → l.align ≤ l.size
aligned_within l even some = le_of_dvd some (dvd_of_mod-eq-zero l.align even.multiple)

-- an alignment counts as 1 at least
pub align_some : (l : ShapeLayout) → 1 ≤ (part_layout l).align
align_some (layout.Sized l) = omega arith
align_some layout.Unsized = omega arith

even_layout : (l : ShapeLayout) → is_uneven l ≡ false → IsEven (part_layout l)
even_layout (layout.Sized l) is =
    let parts = or_parts (not (is_power_of_two l.align)) (not (l.size % l.align == 0)) is in
    let power = power_of_one_bit l.align (eqb-true (count_ones l.align) 1 (not-false _ parts.0)) in
    let none = eqb-true (l.size % l.align) 0 (not-false _ parts.1) in
    let some = power_positive l.align power in
    let same : l.align ≡ alignment l.align = omega (arith, some) in
    record { power = (power.0, sym same ∙ power.1); multiple = ap (λ a. l.size % a) (sym same) ∙ none }
even_layout layout.Unsized is = record { power = (0, refl); multiple = refl }

small_layout : (l : ShapeLayout) → is_too_large l ≡ false → (part_layout l).size ≤ 65536
small_layout (layout.Sized l) is = ltb-false 65536 l.size is
small_layout layout.Unsized is = omega arith

-- a layout that is that of a kind has its size
pub same_size : (l : ShapeLayout) (of : Layout) → not (same_layout l (layout.Sized of)) ≡ false → (part_layout l).size ≡ of.size
same_size (layout.Sized l) of is = eqb-true l.size of.size (and_parts (l.size == of.size) (l.align == of.align) (not-false _ is)).0
same_size layout.Unsized of is = absurd (cc)

module _ {L : Type 0} (m : LeafModel L) (shapes : List Shape) (well : IsWellFormed m shapes) where
  module _ (s : ℕ) (shape : Shape) (is : slice_get shapes s ≡ Some shape) where
    good_layout : has_bad_layout (layout_at shapes) (element_of shapes shape.def) shape ≡ false
    good_layout = false_from_ne_true _ (none_met m shapes well cause.BadLayout s shape is)

    pub size_few : (part_layout shape.layout).size ≤ 65536
    size_few = small_layout shape.layout (false_from_ne_true (is_too_large shape.layout) (λ large. none_met m shapes well cause.TooLarge s shape is (inl large)))

    layout_parts : (((is_uneven shape.layout || is_no_scalar_layout (kind_in shapes shape) shape.layout) || is_no_layout_of_kind (layout_at shapes) (kind_in shapes shape) shape.def shape.layout) ≡ false)
        × (is_aligned_below_parts (layout_at shapes) (element_of shapes shape.def) shape ≡ false)
    unfolding has_bad_layout
    layout_parts = or_parts _ _ good_layout

    pub of_kind : is_no_layout_of_kind (layout_at shapes) (kind_in shapes shape) shape.def shape.layout ≡ false
    of_kind = (or_parts _ _ layout_parts.0).1

    pub is_even : IsEven (part_layout shape.layout)
    is_even = even_layout shape.layout (or_parts _ _ (or_parts _ _ layout_parts.0).0).0

  module _ (id : ShapeId) where
    pub part_is_even : IsEven (part_at shapes id)
    part_is_even = go (slice_get shapes id.0) refl
      where
        go : (o : Option Shape) → slice_get shapes id.0 ≡ o → IsEven (part_layout (option_map_or (λ (shape : Shape). shape.layout) o layout.Unsized))
        go None is = record { power = (0, refl); multiple = refl }
        go (Some shape) is = is_even id.0 shape is

    pub part_is_small : (part_at shapes id).size ≤ 65536
    part_is_small = go (slice_get shapes id.0) refl
      where
        go : (o : Option Shape) → slice_get shapes id.0 ≡ o → (part_layout (option_map_or (λ (shape : Shape). shape.layout) o layout.Unsized)).size ≤ 65536
        go None is = omega arith
        go (Some shape) is = size_few id.0 shape is
