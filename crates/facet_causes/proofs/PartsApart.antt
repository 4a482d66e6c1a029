-- Of the tag and the inline parts that lie side by side no two share a byte.
use Rattle.std.proofs.Common.{◌≡◌, ℕ, zero, suc, ◌+◌, ◌*◌, ◌<◌, ◌≤◌, ◌&&◌, true, min, max, List, [], ◌∷◌, All, AllPairs, Some, map, length, get_or, slice_get, sym, ap, ◌∙◌, subst₂, inl, inr, arith, mul-le-mul_right}
use Rattle.std.proofs.lemmas.Bool.{and_parts, cases_Bool}
use Rattle.std.proofs.lemmas.Grind.{common_steps}
use Rattle.std.proofs.lemmas.List.{get_or-map, length-map}
use Rattle.std.proofs.lemmas.List.Elements.{All-nil}
use Rattle.std.proofs.lemmas.List.FromFn.{get_or-map-range_with_len, length-map-range_with_len}
use Rattle.facet_base.specs.declared.layout.ShapeId.{ShapeId}
use Rattle.facet_base.specs.declared.layout.ShapeLayout.{ShapeLayout}
use Rattle.facet_causes.specs.Arrangement.{arrangements, arrangements_of_kind, in_a_row, single, tag_size_of_kind}
use Rattle.facet_causes.specs.Causes.{IsWellFormed}
use Rattle.facet_causes.specs.PartPlaces.{PartsAreApart, ShareNoByte}
use Rattle.facet_causes.specs.Reading.{kind_in, layout_at}
use Rattle.facet_causes.specs.declared.cause.SealCause.TheVariants as cause
use Rattle.facet_causes.proofs.CountedTwice.{counted_twice}
use Rattle.facet_causes.proofs.Found.{any_index}
use Rattle.facet_causes.proofs.NoneMet.{each_shape, none_met}
use Rattle.facet_causes.proofs.PartLayouts.{align_some}
use Rattle.facet_causes.proofs.PartsInside.{all_of_one, all_of_two}
use Rattle.facet_def.specs.declared.def.Def.{Def}
use Rattle.facet_def.specs.declared.def.Def.TheVariants as def
use Rattle.facet_desc.specs.declared.ty.Ty.{Ty}
use Rattle.facet_graph.specs.Repeats.{HaveOverlap, has_byte}
use Rattle.facet_graph.specs.declared.overlap.Span.{Span}
use Rattle.facet_leaf.specs.LeafModel.{LeafModel}
use Rattle.facet_outline.specs.Field.{bodies, span_of, spans_of, tag_bytes}
use Rattle.facet_outline.specs.Layout.{part_layout}
use Rattle.facet_outline.specs.declared.placed_fields.PlacedField.{PlacedField}
use Rattle.facet_outline.specs.declared.value_kind.ValueKind.{ValueKind}
use Rattle.facet_outline.specs.declared.value_kind.ValueKind.TheVariants as kind
use Rattle.facet_shape.specs.declared.shape.Shape.{Shape}

byte_in : (b : ℕ) (span : Span) → has_byte b span ≡ true → (span.offset ≤ b) × (b < span.offset + span.size)
byte_in b span has = grind (arith, common_steps, has)

-- spans share no byte where none can lie in both
no_byte : (a b : Span) → ((byte : ℕ) → a.offset ≤ byte → byte < a.offset + a.size → b.offset ≤ byte → byte < b.offset + b.size → ⊥) → ShareNoByte a b
no_byte a b none byte = elim (cases_Bool (has_byte byte a && has_byte byte b)) [
  | inl both ↦
      let two = and_parts (has_byte byte a) (has_byte byte b) both in
      let first = byte_in byte a two.0 in
      let second = byte_in byte b two.1 in
      absurd (none byte first.0 first.1 second.0 second.1)
  | inr other ↦ other
]

-- one behind the other
behind : (a b : Span) → a.offset + a.size ≤ b.offset → ShareNoByte a b
behind a b before = no_byte a b (λ byte _ to from _. omega (arith, before, to, from))

-- where no byte lies in two of some spans, no two share one
pub apart_of_none : (spans : List Span) → ¬ HaveOverlap spans → AllPairs ShareNoByte spans
apart_of_none spans none i j d before below byte = elim (cases_Bool (has_byte byte (get_or spans i d) && has_byte byte (get_or spans j d))) [
  | inl both ↦
      let two = and_parts (has_byte byte (get_or spans i d)) (has_byte byte (get_or spans j d)) both in
      absurd (none (record { byte = byte; twice = counted_twice (has_byte byte) spans i j d before below two.0 two.1 }))
  | inr other ↦ other
]

one_apart : (a : Span) → AllPairs ShareNoByte (a ∷ [])
one_apart a i j d before below = absurd (omega (arith, before, below))

two_apart : (a b : Span) → ShareNoByte a b → AllPairs ShareNoByte (a ∷ b ∷ [])
two_apart a b apart zero (suc zero) d before below = apart
two_apart a b apart zero zero d before below = absurd (omega (arith, before))
two_apart a b apart zero (suc (suc j)) d before below = absurd (omega (arith, below))
two_apart a b apart (suc i) j d before below = absurd (omega (arith, before, below))

module _ (layouts : ShapeId → ShapeLayout) where
  abbrev Apart : ℕ → List PlacedField → Type 0
  Apart tag parts = AllPairs ShareNoByte (spans_of layouts tag parts)

  -- the one part of an option or a result lies behind the tag
  behind_tag : (id : ShapeId) (offset : ℕ) → 1 ≤ offset → Apart 1 (single id offset)
  behind_tag id offset some =
      let tag : Span = record { offset = 0; size = 1 } in
      let part : Span = record { offset = offset; size = (part_layout (layouts id)).size } in
      two_apart tag part (behind tag part some)

  row_at : (id : ShapeId) (n size i : ℕ) (d : Span) → i < n → get_or (map (span_of layouts) (in_a_row id n size)) i d ≡ record { offset = i * size; size = (part_layout (layouts id)).size }
  row_at id n size i d below =
      let place : ℕ → PlacedField = λ j. record { shape = id; offset = j * size } in
      let under : i < length (in_a_row id n size) = omega (arith, below, length-map-range_with_len place 0 n) in
      get_or-map (span_of layouts) (in_a_row id n size) i (place i) d under
      ∙ ap (span_of layouts) (get_or-map-range_with_len place 0 n i i (place i) below (omega arith))

  -- nor do elements in a row
  row_apart : (id : ShapeId) (n : ℕ) → Apart 0 (in_a_row id n (part_layout (layouts id)).size)
  row_apart id n i zero d before below = absurd (omega (arith, before))
  row_apart id n zero (suc j) d before below =
      let row = map (span_of layouts) (in_a_row id n (part_layout (layouts id)).size) in
      no_byte (record { offset = 0; size = 0 }) (get_or row j d) (λ byte from to _ _. omega (arith, from, to))
  row_apart id n (suc i) (suc j) d before below =
      let size = (part_layout (layouts id)).size in
      let place : ℕ → PlacedField = λ j. record { shape = id; offset = j * size } in
      let under : j < n = omega (arith, below, length-map (in_a_row id n size) (span_of layouts), length-map-range_with_len place 0 n) in
      let next = mul-le-mul_right {m = suc i} {n = j} size (omega (arith, before)) in
      subst₂ ShareNoByte (sym (row_at id n size i d (omega (arith, before, under)))) (sym (row_at id n size j d under))
      (behind (record { offset = i * size; size = size }) (record { offset = j * size; size = size }) (omega (arith, next)))

  parts_apart : (k : ValueKind) (d : Def) (t : Ty) → All (λ body. ¬ HaveOverlap (spans_of layouts (tag_bytes k t) body)) (bodies k t) → All (Apart (tag_size_of_kind k t)) (arrangements_of_kind layouts k d t)
  parts_apart kind.Option (def.Option o) t none =
      all_of_two (Apart 1) [] (single o.t (min (part_layout (layouts o.t)).align 4294967295)) (one_apart (record { offset = 0; size = 1 })) (behind_tag o.t (min (part_layout (layouts o.t)).align 4294967295) (let some = align_some (layouts o.t) in omega (arith, some)))
  parts_apart kind.Result (def.Result r) t none =
      let offset = min (max (part_layout (layouts r.t)).align (part_layout (layouts r.e)).align) 4294967295 in
      let some = align_some (layouts r.t) in
      let behind_it : 1 ≤ offset = omega (arith, some) in
      all_of_two (Apart 1) (single r.t offset) (single r.e offset) (behind_tag r.t offset behind_it) (behind_tag r.e offset behind_it)
  parts_apart kind.Array (def.Array a) t none = all_of_one (Apart 0) (in_a_row a.t a.n (part_layout (layouts a.t)).size) (row_apart a.t a.n)
  parts_apart kind.Option _ t none = All-nil (Apart 1)
  parts_apart kind.Result _ t none = All-nil (Apart 1)
  parts_apart k d t none = λ i body below. apart_of_none (spans_of layouts (tag_bytes k t) (get_or (bodies k t) i body)) (none i body below)

module _ {L : Type 0} (m : LeafModel L) (shapes : List Shape) (well : IsWellFormed m shapes) where
  apart_of : (s : ℕ) (shape : Shape) → slice_get shapes s ≡ Some shape → PartsAreApart shapes shape
  unfolding arrangements
  apart_of s shape is =
      parts_apart (layout_at shapes) (kind_in shapes shape) shape.def shape.ty (λ i body below over. none_met m shapes well cause.FieldOverlap s shape is
      (any_index (λ body. HaveOverlap (spans_of (layout_at shapes) (tag_bytes (kind_in shapes shape) shape.ty) body)) (bodies (kind_in shapes shape) shape.ty) body i below over))

  -- no two parts of each shape share a byte
  pub parts_are_apart : All (PartsAreApart shapes) shapes
  parts_are_apart = each_shape shapes (PartsAreApart shapes) apart_of
