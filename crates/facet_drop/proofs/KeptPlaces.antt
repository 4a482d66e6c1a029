-- Places whose range is kept read as before.
use Rattle.std.proofs.Common.{◌≡◌, ℕ, zero, suc, ◌+◌, ◌-◌, ◌<◌, List, [], ◌∷◌, All, AllPairs, get_or, length, map, take, inl, inr, refl, sym, ap, ◌∙◌, subst₂, arith}
use Rattle.std.proofs.lemmas.Bool.{cases_lt}
use Rattle.std.proofs.lemmas.List.{get_or-map, length-map}
use Rattle.std.proofs.lemmas.List.Elements.{All-head, All-tail, All-take}
use Rattle.std.proofs.lemmas.List.Kept.{AllPairs-cons}
use Rattle.facet_block.proofs.Ranges.{within_beside}
use Rattle.facet_block.specs.Span.{IsApart, IsCleared, Span, span}
use Rattle.facet_block.specs.declared.block.Block.{Block}
use Rattle.facet_drop.proofs.Readables.{both_readable, first_readable, none_readable, others_readable}
use Rattle.facet_drop.specs.InlineParts.{leaves_at, ranges_of}
use Rattle.facet_leaf.specs.LeafModel.{LeafModel}
use Rattle.facet_outline.specs.declared.placed_fields.PlacedField.{PlacedField}
use Rattle.facet_registry.specs.Registry.{size_at}
use Rattle.facet_shape.specs.declared.shape.Shape.{Shape}
use Rattle.facet_trees.specs.Value.{leaves_of_parts}
use Rattle.facet_values.proofs.SameReading.{reads_alike}
use Rattle.facet_values.proofs.ValueAt.{readable_value, value_found}
use Rattle.facet_values.proofs.WholePlaces.{lies_in_block}
use Rattle.facet_values.specs.Laid.{IsLaidOut}
use Rattle.facet_values.specs.Place.{LiesInBlock, Place, part_place, part_places, place_in}
use Rattle.facet_values.specs.Reading.{HoldsSame, IsReadableWithin, part_spans, value_at, values_by}
use Rattle.facet_walk.specs.Look.{AreReadable}

-- pairs of a list
module _ {X : Type 0} (R : X → X → Type 0) where
  pub pairs_first : (x : X) (xs : List X) → AllPairs R (x ∷ xs) → All (R x) xs
  pairs_first x xs pairs j d below = pairs 0 (suc j) d (omega arith) (omega arith)

  pub pairs_rest : (x : X) (xs : List X) → AllPairs R (x ∷ xs) → AllPairs R xs
  pairs_rest x xs pairs i j d before below = pairs (suc i) (suc j) d (omega arith) (omega arith)

  pub pairs_taken : (n : ℕ) (xs : List X) → AllPairs R xs → AllPairs R (take n xs)
  pairs_taken zero xs pairs = λ i j d before below. absurd (omega arith)
  pairs_taken (suc n) [] pairs = pairs
  pairs_taken (suc n) (x ∷ xs) pairs = AllPairs-cons R x (take n xs) (All-take (R x) n xs (pairs_first x xs pairs)) (pairs_taken n xs (pairs_rest x xs pairs))

-- spans that lie apart do so where both are moved
apart_moved : (base : ℕ) (a b : Span) → IsApart a b → IsApart (span (base + a.start) a.len) (span (base + b.start) b.len)
apart_moved base a b clear x = elim (cases_lt x base) [
  | inl before ↦ inl (inl (omega (arith, before)))
  | inr from ↦ elim (clear (x - base)) [
    | inl (inl before) ↦ inl (inl (omega (arith, before, from)))
    | inl (inr behind) ↦ inl (inr (omega (arith, behind, from)))
    | inr (inl before) ↦ inr (inl (omega (arith, before, from)))
    | inr (inr behind) ↦ inr (inr (omega (arith, behind, from)))
  ]
]

module _ (shapes : List Shape) where
  -- the bytes in the block of a part of a value at an offset
  abbrev pub span_from : ℕ → PlacedField → Span
  span_from at part = span (at + part.offset) (size_at shapes part.shape.0)

  -- no two of them share a byte
  abbrev pub AreApartFrom : ℕ → List PlacedField → Type 0
  AreApartFrom at body = AllPairs (λ a b. IsApart (span_from at a) (span_from at b)) body

  -- parts that lie apart do so from an offset on
  pub apart_from : (at : ℕ) (body : List PlacedField) → AllPairs IsApart (part_spans shapes body) → AreApartFrom at body
  apart_from at body apart j k part before within =
      let spans : PlacedField → Span = λ f. span f.offset (size_at shapes f.shape.0) in
      let first = get_or-map spans body j part (spans part) (omega (arith, before, within)) in
      let second = get_or-map spans body k part (spans part) within in
      let clear = apart j k (spans part) before (omega (arith, within, length-map body spans)) in
      apart_moved at (spans (get_or body j part)) (spans (get_or body k part)) (subst₂ IsApart first second clear)

  -- the ranges of the places of parts
  pub ranges_are : {L : Type 0} (p : Place L) (body : List PlacedField) → ranges_of shapes (part_places p body) ≡ map (span_from p.offset) body
  ranges_are p [] = refl
  ranges_are p (part ∷ body) = ap (λ xs. span_from p.offset part ∷ xs) (ranges_are p body)

module _ {L : Type 0} (m : LeafModel L) (shapes : List Shape) (laid : (s : ℕ) → s < length shapes → IsLaidOut shapes s) (levels : ℕ) where
  -- a place that holds the same reads alike
  kept_readable : (p q : Place L) → p.shape < length shapes → HoldsSame shapes p q → IsReadableWithin m shapes levels p → IsReadableWithin m shapes levels q
  kept_readable p q known same r = record { value = r.value; reads = reads_alike m shapes laid p q r.value known same r.reads; shallow = r.shallow }

  kept_value : (p q : Place L) → p.shape < length shapes → HoldsSame shapes p q → IsReadableWithin m shapes levels p → value_at shapes levels q ≡ value_at shapes levels p
  kept_value p q known same r =
      value_found m shapes levels q r.value (reads_alike m shapes laid p q r.value known same r.reads) r.shallow ∙ sym (readable_value m shapes levels p r)

  -- one range is cleared
  module _ (s at : ℕ) (b next : Block L) (range : Span) (cleared : IsCleared b next range) where
    abbrev before : Place L
    before = place_in s b at

    abbrev after : Place L
    after = place_in s next at

    -- a part that is apart from it holds the same
    part_kept : (part : PlacedField) → IsApart range (span_from shapes at part) → LiesInBlock shapes (part_place before part) → HoldsSame shapes (part_place before part) (part_place after part)
    part_kept part apart lies = record {
      shape = refl;
      items = λ i below. elim (apart (at + part.offset + i)) [
        | inl beside ↦ cleared.outside (at + part.offset + i) beside
        | inr beside ↦ absurd (within_beside (at + part.offset + i) (span_from shapes at part) (omega arith, omega arith) beside)
      ];
      inside = omega (arith, lies, cleared.size);
    }

    pub rest_readable : (left : List PlacedField) → All (λ part. IsApart range (span_from shapes at part)) left
        → AreReadable m shapes levels (part_places before left) → AreReadable m shapes levels (part_places after left)
    rest_readable [] apart r = none_readable
    rest_readable (part ∷ left) apart r =
        let (known, one) = first_readable (part_place before part) (part_places before left) r in
        let same = part_kept part (All-head (λ x. IsApart range (span_from shapes at x)) part left apart) (lies_in_block m shapes (part_place before part) one.value one.reads) in
        both_readable (part_place after part) (part_places after left) (known, kept_readable (part_place before part) (part_place after part) known same one)
        (rest_readable left (All-tail (λ x. IsApart range (span_from shapes at x)) part left apart) (others_readable (part_place before part) (part_places before left) r))

    rest_values : (left : List PlacedField) → All (λ part. IsApart range (span_from shapes at part)) left
        → AreReadable m shapes levels (part_places before left) → values_by (value_at shapes levels) (part_places after left) ≡ values_by (value_at shapes levels) (part_places before left)
    rest_values [] apart r = refl
    rest_values (part ∷ left) apart r =
        let (known, one) = first_readable (part_place before part) (part_places before left) r in
        let same = part_kept part (All-head (λ x. IsApart range (span_from shapes at x)) part left apart) (lies_in_block m shapes (part_place before part) one.value one.reads) in
        let first = kept_value (part_place before part) (part_place after part) known same one in
        let rest = rest_values left (All-tail (λ x. IsApart range (span_from shapes at x)) part left apart) (others_readable (part_place before part) (part_places before left) r) in
        cc

    pub rest_leaves : (left : List PlacedField) → All (λ part. IsApart range (span_from shapes at part)) left
        → AreReadable m shapes levels (part_places before left) → leaves_at shapes levels (part_places after left) ≡ leaves_at shapes levels (part_places before left)
    rest_leaves left apart r = ap leaves_of_parts (rest_values left apart r)
