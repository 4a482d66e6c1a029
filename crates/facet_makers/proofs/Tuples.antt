-- A tuple is laid out as the layouts of its parts say.
use Rattle.std.proofs.Common.{◌≡◌, ◌≤◌, max, List, [], ◌∷◌, ◌++◌, map, refl, ap, arith, append_assoc, sym, ◌∙◌}
use Rattle.std.specs.Prelude.{fold}
use Rattle.std.proofs.lemmas.List.{append-nil, map-append}
use Rattle.facet_base.specs.declared.layout.Layout.{Layout}
use Rattle.facet_base.specs.declared.layout.ShapeId.{ShapeId}
use Rattle.facet_desc.specs.Field.{fresh_field}
use Rattle.facet_desc.specs.declared.field.Field.{Field}
use Rattle.facet_makers.specs.Types.{TupleParts, no_parts, tuple_parts, with_part}
use Rattle.facet_outline.specs.Layout.{end_behind, greatest_alignment, offsets_behind, rounded, tuple_layout}

module _ (part : ShapeId → Layout) where
  abbrev with_all : TupleParts → List ShapeId → TupleParts
  with_all tuple ids = fold (λ tuple t. with_part tuple t (part t)) tuple ids

  ends : (tuple : TupleParts) (ids : List ShapeId) → (with_all tuple ids).end ≡ end_behind tuple.end (map part ids)
  unfolding end_behind
  ends tuple [] = refl
  ends tuple (t ∷ ids) = ends (with_part tuple t (part t)) ids

  is_aligned : (ids : List ShapeId) → 1 ≤ greatest_alignment (map part ids)
  unfolding greatest_alignment
  is_aligned [] = omega arith
  is_aligned (t ∷ ids) = let h = is_aligned ids in omega arith

  aligns : (tuple : TupleParts) (ids : List ShapeId) → 1 ≤ tuple.align → (with_all tuple ids).align ≡ max tuple.align (greatest_alignment (map part ids))
  unfolding greatest_alignment
  aligns tuple [] h = omega arith
  aligns tuple (t ∷ ids) h =
      let more : 1 ≤ max tuple.align (part t).align = omega arith in
      let e = aligns (with_part tuple t (part t)) ids more in
      let outer : max (max tuple.align (part t).align) (greatest_alignment (map part ids)) ≡ max tuple.align (max (part t).align (greatest_alignment (map part ids))) = omega arith in
      e ∙ outer

  offsets : (tuple : TupleParts) (ids : List ShapeId) → map (λ (f : Field). f.offset) (with_all tuple ids).fields ≡ map (λ (f : Field). f.offset) tuple.fields ++ offsets_behind tuple.end (map part ids)
  unfolding offsets_behind fresh_field
  offsets tuple [] = sym (append-nil (map (λ (f : Field). f.offset) tuple.fields))
  offsets tuple (t ∷ ids) = offsets (with_part tuple t (part t)) ids ∙ simp (map-append, append_assoc)

  shapes : (tuple : TupleParts) (ids : List ShapeId) → map (λ (f : Field). f.shape) (with_all tuple ids).fields ≡ map (λ (f : Field). f.shape) tuple.fields ++ ids
  unfolding fresh_field
  shapes tuple [] = sym (append-nil (map (λ (f : Field). f.shape) tuple.fields))
  shapes tuple (t ∷ ids) = shapes (with_part tuple t (part t)) ids ∙ simp (map-append, append_assoc)

  pub offsets_of_all : (ids : List ShapeId) → map (λ (f : Field). f.offset) (tuple_parts part ids).fields ≡ offsets_behind 0 (map part ids)
  offsets_of_all ids = offsets no_parts ids

  pub shapes_of_all : (ids : List ShapeId) → map (λ (f : Field). f.shape) (tuple_parts part ids).fields ≡ ids
  shapes_of_all ids = shapes no_parts ids

  pub layout_of_all : (ids : List ShapeId) → rounded (tuple_parts part ids).end (tuple_parts part ids).align ≡ tuple_layout (map part ids)
  layout_of_all ids =
      let least = is_aligned ids in
      let one : 1 ≤ 1 = omega arith in
      let align : (tuple_parts part ids).align ≡ greatest_alignment (map part ids) = omega (arith, aligns no_parts ids one) in
      ap (λ end. rounded end (tuple_parts part ids).align) (ends no_parts ids) ∙ ap (rounded (end_behind 0 (map part ids))) align
