-- What a shape refers to is there, the parts of its values are sized, and those that have a place are inline parts.
use Rattle.std.proofs.Common.{◌≡◌, ℕ, ◌&&◌, Bool, true, false, List, [], ◌∷◌, All, Contains, Option, Some, slice_get, refl, arith}
use Rattle.std.specs.List.{list_any}
use Rattle.std.proofs.lemmas.Bool.{false_from_ne_true, false≢true, or_parts}
use Rattle.std.proofs.lemmas.List.Elements.{All-contains_itself, All-nil}
use Rattle.facet_base.specs.declared.layout.ShapeId.{ShapeId}
use Rattle.facet_base.specs.declared.layout.ShapeLayout.{ShapeLayout}
use Rattle.facet_causes.specs.Arrangement.{arrangements, arrangements_of_kind, in_a_row, single}
use Rattle.facet_causes.specs.Causes.{IsWellFormed}
use Rattle.facet_causes.specs.KnownParts.{PartsAreSized, PlacedAreInline, ReferencesAreKnown}
use Rattle.facet_causes.specs.Reading.{element_of, kind_in, layout_at}
use Rattle.facet_causes.specs.declared.cause.SealCause.TheVariants as cause
use Rattle.facet_causes.proofs.Agree.{all_bodies}
use Rattle.facet_causes.proofs.Front.{parts_front}
use Rattle.facet_causes.proofs.NoneMet.{all_known, each_shape, fails_of_each, none_met}
use Rattle.facet_causes.proofs.PartsInside.{all_in_a_row, all_of_one, all_of_two}
use Rattle.facet_def.specs.declared.def.Def.{Def}
use Rattle.facet_def.specs.declared.def.Def.TheVariants as def
use Rattle.facet_desc.specs.declared.ty.Ty.{Ty}
use Rattle.facet_leaf.specs.LeafModel.{LeafModel}
use Rattle.facet_outline.specs.BadLayout.{has_unsized_part, has_values, is_unsized}
use Rattle.facet_outline.specs.Layout.{option_offset, part_layout, result_offset}
use Rattle.facet_outline.specs.Part.{fields_of_type, inline_parts, inline_parts_of_kind, parts}
use Rattle.facet_outline.specs.declared.placed_fields.PlacedField.{PlacedField}
use Rattle.facet_outline.specs.declared.value_kind.ValueKind.{ValueKind}
use Rattle.facet_outline.specs.declared.value_kind.ValueKind.TheVariants as kind
use Rattle.facet_shape.specs.declared.shape.Shape.{Shape}

-- the second of two tests fails where the first is met
second_fails : (a b : Bool) → (a && b) ≡ false → a ≡ true → b ≡ false
second_fails true b none met = none
second_fails false b none met = absurd (false≢true met)

-- a part with a place is among those that the kind says
abbrev IsAmong : List ShapeId → PlacedField → Type 0
IsAmong ids part = Contains ids part.shape

placed_inline : (layouts : ShapeId → ShapeLayout) (k : ValueKind) (d : Def) (t : Ty) → All (All (IsAmong (inline_parts_of_kind k d t))) (arrangements_of_kind layouts k d t)
placed_inline layouts kind.Option (def.Option o) t =
    let offset = option_offset (part_layout (layouts o.t)) in
    all_of_two (All (IsAmong (o.t ∷ []))) [] (single o.t offset) (All-nil (IsAmong (o.t ∷ []))) (all_of_one (IsAmong (o.t ∷ [])) (record { shape = o.t; offset = offset }) (0, omega arith, refl))
placed_inline layouts kind.Result (def.Result r) t =
    let offset = result_offset (part_layout (layouts r.t)) (part_layout (layouts r.e)) in
    all_of_two (All (IsAmong (r.t ∷ r.e ∷ []))) (single r.t offset) (single r.e offset)
    (all_of_one (IsAmong (r.t ∷ r.e ∷ [])) (record { shape = r.t; offset = offset }) (0, omega arith, refl))
    (all_of_one (IsAmong (r.t ∷ r.e ∷ [])) (record { shape = r.e; offset = offset }) (1, omega arith, refl))
placed_inline layouts kind.Array (def.Array a) t =
    let size = (part_layout (layouts a.t)).size in
    all_of_one (All (IsAmong (a.t ∷ []))) (in_a_row a.t a.n size) (all_in_a_row (IsAmong (a.t ∷ [])) a.t a.n size (λ i below. (0, omega arith, refl)))
placed_inline layouts kind.Struct d t = all_bodies (Contains (fields_of_type t)) kind.Struct t (All-contains_itself (fields_of_type t))
placed_inline layouts kind.Enum d t = all_bodies (Contains (fields_of_type t)) kind.Enum t (All-contains_itself (fields_of_type t))
placed_inline layouts k d t = All-nil (All (IsAmong (inline_parts_of_kind k d t)))

-- each part of each shape that has a place is an inline part
pub placed_are_inline : (shapes : List Shape) → All (PlacedAreInline shapes) shapes
unfolding arrangements inline_parts
placed_are_inline shapes = each_shape shapes (PlacedAreInline shapes) (λ s shape is. placed_inline (layout_at shapes) (kind_in shapes shape) shape.def shape.ty)

module _ {L : Type 0} (m : LeafModel L) (shapes : List Shape) (well : IsWellFormed m shapes) where
  -- what each shape refers to is there
  pub references_are_known : All (ReferencesAreKnown shapes) shapes
  references_are_known = each_shape shapes (ReferencesAreKnown shapes) (all_known m shapes well)

  sized_of : (s : ℕ) (shape : Shape) → slice_get shapes s ≡ Some shape → PartsAreSized shapes shape
  unfolding has_unsized_part
  sized_of s shape is =
      let none = false_from_ne_true (has_unsized_part (layout_at shapes) (element_of shapes shape.def) shape) (none_met m shapes well cause.UnsizedPart s shape is) in
      let both = or_parts (has_values (kind_in shapes shape) && is_unsized shape.layout) (list_any (λ id. is_unsized (layout_at shapes id)) (parts (element_of shapes shape.def) shape)) none in
      record {
        own = λ valued. second_fails (has_values (kind_in shapes shape)) (is_unsized shape.layout) both.0 valued;
        known = parts_front shapes shapes (omega arith) (λ t below. refl) (all_known m shapes well) s shape is;
        sized = fails_of_each (λ id. is_unsized (layout_at shapes id)) (parts (element_of shapes shape.def) shape) both.1;
      }

  -- the values of each shape and their parts are sized
  pub parts_are_sized : All (PartsAreSized shapes) shapes
  parts_are_sized = each_shape shapes (PartsAreSized shapes) sized_of
