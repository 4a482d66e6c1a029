-- What is read off sealed shapes stays as it is when further shapes stand behind them.
use Rattle.std.proofs.Common.{◌≡◌, ℕ, ◌<◌, ◌≤◌, List, [], ◌∷◌, ◌++◌, All, Bool, false, length, slice_get, unwrap_or, Option, None, Some, refl, ap, ◌∙◌, arith, length-append}
use Rattle.std.specs.Option.{option_map_or}
use Rattle.std.proofs.lemmas.List.Elements.{All-head, All-tail}
use Rattle.facet_base.proofs.Lists.{slice_get_front}
use Rattle.facet_base.specs.ShapeLayout.{size_in_bytes}
use Rattle.facet_base.specs.declared.characteristic.Characteristic.{Characteristic}
use Rattle.facet_base.specs.declared.layout.ShapeId.{ShapeId}
use Rattle.facet_causes.proofs.Front.{AreKnown, def_parts_front, kind_same, layout_same}
use Rattle.facet_causes.proofs.Sealed.{known_by}
use Rattle.facet_causes.specs.Causes.{IsWellFormed}
use Rattle.facet_causes.specs.Reading.{kind_in}
use Rattle.facet_causes.specs.declared.cause.SealCause.TheVariants as cause
use Rattle.facet_def.specs.declared.def.Def.{Def}
use Rattle.facet_def.specs.declared.def.Def.TheVariants as def
use Rattle.facet_leaf.specs.LeafModel.{LeafModel}
use Rattle.facet_outline.specs.Field.{tag_bytes}
use Rattle.facet_outline.specs.Layout.{option_offset, part_layout, result_offset, value_offset}
use Rattle.facet_outline.specs.References.{parts_of_def}
use Rattle.facet_outline.specs.declared.value_kind.ValueKind.TheVariants as kind
use Rattle.facet_shape.specs.Capability.{can}
use Rattle.facet_shape.specs.declared.shape.Shape.{Shape}
use Rattle.facet_registry.specs.Offsets.{pair_value_offset_at, pair_value_offset_by_def, part_at, part_offset_at, part_offset_by_def, tag_width_at}
use Rattle.facet_registry.specs.Registry.{kind_at, offers, size_at}

module _ {L : Type 0} (m : LeafModel L) (xs ys : List Shape) (well : IsWellFormed m xs) (s : ℕ) (below : s < length xs) where
  known : AreKnown xs
  known = known_by m xs (λ t under. well cause.UnknownShape t under)

  longer : length xs ≤ length (xs ++ ys)
  longer = omega (arith, length-append xs ys)

  here : slice_get (xs ++ ys) s ≡ slice_get xs s
  here = slice_get_front xs ys s below

  -- what two readings say of each sealed shape they say of the one under an id
  read_same : {A : Type 0} (f g : Shape → A) (d : A) → ((shape : Shape) → slice_get xs s ≡ Some shape → f shape ≡ g shape) → option_map_or f (slice_get (xs ++ ys) s) d ≡ option_map_or g (slice_get xs s) d
  read_same f g d same = ap (λ o. option_map_or f o d) here ∙ go (slice_get xs s) refl
    where
      go : (o : Option Shape) → slice_get xs s ≡ o → option_map_or f o d ≡ option_map_or g o d
      go None is = refl
      go (Some shape) is = same shape is

  pub kind_stays : kind_at (xs ++ ys) s ≡ kind_at xs s
  kind_stays = read_same (kind_in (xs ++ ys)) (kind_in xs) kind.NoValue (λ shape is. kind_same xs (xs ++ ys) longer (slice_get_front xs ys) known s shape is)

  pub size_stays : size_at (xs ++ ys) s ≡ size_at xs s
  size_stays = read_same (λ shape. unwrap_or (size_in_bytes shape.layout) 0) (λ shape. unwrap_or (size_in_bytes shape.layout) 0) 0 (λ shape is. refl)

  pub offer_stays : (c : Characteristic) → offers (xs ++ ys) s c ≡ offers xs s c
  offer_stays c = read_same (λ shape. can shape c) (λ shape. can shape c) false (λ shape is. refl)

  pub tag_width_stays : tag_width_at (xs ++ ys) s ≡ tag_width_at xs s
  tag_width_stays = read_same (λ shape. tag_bytes kind.Enum shape.ty) (λ shape. tag_bytes kind.Enum shape.ty) 0 (λ shape is. refl)

  part_same : (id : ShapeId) → id.0 < length xs → part_at (xs ++ ys) id ≡ part_at xs id
  part_same id inside = ap part_layout (layout_same xs (xs ++ ys) longer (slice_get_front xs ys) known id inside)

  abbrev AreInside : List ShapeId → Type 0
  AreInside ids = All (λ id. id.0 < length xs) ids

  part_offset_same : (d : Def) → AreInside (parts_of_def d) → part_offset_by_def (xs ++ ys) d ≡ part_offset_by_def xs d
  part_offset_same (def.Option d) inside = ap option_offset (part_same d.t (All-head (λ id. id.0 < length xs) d.t [] inside))
  part_offset_same (def.Result d) inside =
      let t = part_same d.t (All-head (λ id. id.0 < length xs) d.t (d.e ∷ []) inside) in
      let e = part_same d.e (All-head (λ id. id.0 < length xs) d.e [] (All-tail (λ id. id.0 < length xs) d.t (d.e ∷ []) inside)) in
      λ i. result_offset (t i) (e i)
  part_offset_same _ inside = refl

  pair_value_offset_same : (d : Def) → AreInside (parts_of_def d) → pair_value_offset_by_def (xs ++ ys) d ≡ pair_value_offset_by_def xs d
  pair_value_offset_same (def.Map d) inside =
      let k = part_same d.k (All-head (λ id. id.0 < length xs) d.k (d.v ∷ []) inside) in
      let v = part_same d.v (All-head (λ id. id.0 < length xs) d.v [] (All-tail (λ id. id.0 < length xs) d.k (d.v ∷ []) inside)) in
      λ i. value_offset (k i) (v i)
  pair_value_offset_same _ inside = refl

  parts_inside : (shape : Shape) → slice_get xs s ≡ Some shape → AreInside (parts_of_def shape.def)
  parts_inside shape is = def_parts_front xs (xs ++ ys) longer (slice_get_front xs ys) known s shape is

  pub part_offset_stays : part_offset_at (xs ++ ys) s ≡ part_offset_at xs s
  part_offset_stays = read_same (λ shape. part_offset_by_def (xs ++ ys) shape.def) (λ shape. part_offset_by_def xs shape.def) 0 (λ shape is. part_offset_same shape.def (parts_inside shape is))

  pub pair_value_offset_stays : pair_value_offset_at (xs ++ ys) s ≡ pair_value_offset_at xs s
  pair_value_offset_stays = read_same (λ shape. pair_value_offset_by_def (xs ++ ys) shape.def) (λ shape. pair_value_offset_by_def xs shape.def) 0 (λ shape is. pair_value_offset_same shape.def (parts_inside shape is))
