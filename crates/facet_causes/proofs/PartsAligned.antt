-- Layouts are even, and inline parts lie at multiples of their alignment, but for the fields of a packed struct.
use Rattle.std.proofs.Common.{◌≡◌, ℕ, ◌+◌, ◌*◌, ◌%◌, ◌≤◌, false, not, min, max, List, [], All, Some, slice_get, sym, ap, ◌∙◌, inl, inr, arith, mul-zero}
use Rattle.std.specs.List.{list_any}
use Rattle.std.proofs.Math.Nat.{mod_self, zero-mod}
use Rattle.std.proofs.lemmas.Bool.{and_cases, cases_lt, eqb-true, false_from_ne_true, not-false, true≢false}
use Rattle.std.proofs.lemmas.List.Elements.{All-nil}
use Rattle.std.proofs.lemmas.Nat.{mul-mod_second}
use Rattle.facet_base.specs.declared.layout.Layout.{Layout}
use Rattle.facet_base.specs.declared.layout.ShapeId.{ShapeId}
use Rattle.facet_base.specs.declared.layout.ShapeLayout.{ShapeLayout}
use Rattle.facet_causes.specs.Arrangement.{arrangements, arrangements_of_kind, in_a_row, part_at, single}
use Rattle.facet_causes.specs.Causes.{IsWellFormed}
use Rattle.facet_causes.specs.PartPlaces.{HoldsBoth, IsEven, PairsHoldBoth, PartsAreAligned}
use Rattle.facet_causes.specs.Reading.{kind_in, layout_at}
use Rattle.facet_causes.specs.declared.cause.SealCause.TheVariants as cause
use Rattle.facet_causes.proofs.Agree.{all_to}
use Rattle.facet_causes.proofs.NoneMet.{each_shape, fails_of_each, none_met}
use Rattle.facet_causes.proofs.PartLayouts.{aligned_within, is_even, of_kind, part_is_even, part_is_small, same_size, size_few, up_is_near, up_reaches}
use Rattle.facet_causes.proofs.PartsInside.{all_in_a_row, all_of_bodies, all_of_one, all_of_two, option_ends, result_ends}
use Rattle.facet_causes.proofs.PowersOfTwo.{greater_is_multiple}
use Rattle.facet_def.specs.declared.def.Def.{Def}
use Rattle.facet_def.specs.declared.def.Def.TheVariants as def
use Rattle.facet_desc.specs.declared.ty.Ty.{Ty}
use Rattle.facet_leaf.specs.LeafModel.{LeafModel}
use Rattle.facet_outline.specs.BadLayout.{is_no_layout_of_kind}
use Rattle.facet_outline.specs.Field.{bodies, has_field_misaligned, is_misaligned, is_packed_struct, placed_fields}
use Rattle.facet_outline.specs.Layout.{capped, option_layout, part_layout, result_layout, up}
use Rattle.facet_outline.specs.declared.placed_fields.PlacedField.{PlacedField}
use Rattle.facet_outline.specs.declared.value_kind.ValueKind.{ValueKind}
use Rattle.facet_outline.specs.declared.value_kind.ValueKind.TheVariants as kind
use Rattle.facet_shape.specs.declared.shape.Shape.{Shape}

times_multiple : (i size align : ℕ) → size % align ≡ 0 → i * size % align ≡ 0
times_multiple i size align multiple =
    sym (mul-mod_second i size align) ∙ ap (λ n. i * n % align) multiple ∙ ap (λ n. n % align) (mul-zero i) ∙ zero-mod align

module _ (layouts : ShapeId → ShapeLayout) (even : (id : ShapeId) → IsEven (part_layout (layouts id))) where
  abbrev At : PlacedField → Type 0
  At part = part.offset % (part_layout (layouts part.shape)).align ≡ 0

  fields_aligned : (k : ValueKind) (t : Ty) → has_field_misaligned layouts k t ≡ false → is_packed_struct k t ≡ false → All (All At) (bodies k t)
  fields_aligned k t none unpacked = elim (and_cases (not (is_packed_struct k t)) (list_any (is_misaligned layouts) (placed_fields k t)) none) [
    | inl packed ↦ absurd (true≢false (sym (not-false (is_packed_struct k t) packed) ∙ unpacked))
    | inr aligned ↦
        all_of_bodies At k t (all_to (λ f. is_misaligned layouts f ≡ false) At
        (λ f at. eqb-true (f.offset % (part_layout (layouts f.shape)).align) 0 (not-false _ at))
        (placed_fields k t) (fails_of_each (is_misaligned layouts) (placed_fields k t) aligned))
  ]

  parts_aligned : (k : ValueKind) (d : Def) (t : Ty) (l : ShapeLayout) → has_field_misaligned layouts k t ≡ false → is_packed_struct k t ≡ false → is_no_layout_of_kind layouts k d l ≡ false → (part_layout l).size ≤ 65536
      → All (All At) (arrangements_of_kind layouts k d t)
  parts_aligned kind.Option (def.Option o) t l none unpacked of few =
      let p = part_layout (layouts o.t) in
      let ends = option_ends l p (same_size l (option_layout p) of) few in
      let same : min p.align 4294967295 ≡ p.align = omega (arith, ends, few) in
      all_of_two (All At) [] (single o.t (min p.align 4294967295)) (All-nil At)
      (all_of_one At (record { shape = o.t; offset = min p.align 4294967295 }) (ap (λ n. n % p.align) same ∙ mod_self p.align))
  parts_aligned kind.Result (def.Result r) t l none unpacked of few =
      let p = part_layout (layouts r.t) in
      let e = part_layout (layouts r.e) in
      let offset = min (max p.align e.align) 4294967295 in
      let ends = result_ends l p e (same_size l (result_layout p e) of) few in
      let same : offset ≡ max p.align e.align = omega (arith, ends, few) in
      let both = greater_is_multiple p.align e.align (even r.t).power (even r.e).power in
      all_of_two (All At) (single r.t offset) (single r.e offset)
      (all_of_one At (record { shape = r.t; offset = offset }) (ap (λ n. n % p.align) same ∙ both.0))
      (all_of_one At (record { shape = r.e; offset = offset }) (ap (λ n. n % e.align) same ∙ both.1))
  parts_aligned kind.Array (def.Array a) t l none unpacked of few =
      let element = part_layout (layouts a.t) in
      all_of_one (All At) (in_a_row a.t a.n element.size) (all_in_a_row At a.t a.n element.size (λ i below. times_multiple i element.size element.align (even a.t).multiple))
  parts_aligned k d t l none unpacked of few = fields_aligned k t none unpacked

-- key and value that are even and small lie in their pair
both_held : (key value : Layout) → IsEven value → key.size ≤ 65536 → value.size ≤ 65536 → HoldsBoth key value
both_held key value even few_key few_value =
    let reaches = up_reaches key.size value.align in
    let near = up_is_near key.size value.align in
    let align = max key.align value.align in
    let whole = up_reaches (capped (up key.size value.align) + value.size) align in
    record {
      key_before = omega (arith, reaches, few_key);
      value_inside = elim (cases_lt 0 value.size) [
        | inl some ↦ let within = aligned_within value even some in omega (arith, whole, reaches, near, within, few_key, few_value)
        | inr none ↦ omega (arith, whole, none)
      ];
    }

module _ {L : Type 0} (m : LeafModel L) (shapes : List Shape) (well : IsWellFormed m shapes) where
  aligned_of : (s : ℕ) (shape : Shape) → slice_get shapes s ≡ Some shape → PartsAreAligned shapes shape
  unfolding arrangements
  aligned_of s shape is = record {
    even = is_even m shapes well s shape is;
    parts = λ unpacked. parts_aligned (layout_at shapes) (part_is_even m shapes well) (kind_in shapes shape) shape.def shape.ty shape.layout
        (false_from_ne_true _ (none_met m shapes well cause.FieldMisaligned s shape is)) unpacked (of_kind m shapes well s shape is) (size_few m shapes well s shape is);
  }

  -- the parts of each shape are aligned
  pub parts_are_aligned : All (PartsAreAligned shapes) shapes
  parts_are_aligned = each_shape shapes (PartsAreAligned shapes) aligned_of

  -- a pair holds its key and its value
  pub pairs_hold_both : PairsHoldBoth shapes
  pairs_hold_both key value = both_held (part_at shapes key) (part_at shapes value) (part_is_even m shapes well value) (part_is_small m shapes well key) (part_is_small m shapes well value)
