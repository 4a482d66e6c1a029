-- What a place of a sealed shape reads as when further shapes are sealed.
use Rattle.std.proofs.Common.{◌≡◌, ℕ, ◌<◌, ◌≤◌, List, [], ◌∷◌, ◌++◌, length, All, Contains, Option, None, Some, slice_get, refl, ap, ◌∙◌, arith, length-append}
use Rattle.std.specs.Option.{option_map_or}
use Rattle.std.proofs.lemmas.List.Elements.{All-head, All-nil, All-tail, All-weaker}
use Rattle.facet_base.proofs.Lists.{slice_get_front}
use Rattle.facet_base.specs.declared.layout.ShapeId.{ShapeId}
use Rattle.facet_causes.proofs.Front.{AreKnown, def_parts_front, element_same, kind_same, layout_same, parts_front, parts_stay}
use Rattle.facet_causes.proofs.Sealed.{known_by}
use Rattle.facet_causes.specs.Arrangement.{arrangements, arrangements_of_kind, in_a_row, single}
use Rattle.facet_causes.specs.Causes.{IsWellFormed}
use Rattle.facet_causes.specs.DistinctVariants.{discriminants_in}
use Rattle.facet_causes.specs.Reading.{element_of, kind_in, layout_at, parts_at}
use Rattle.facet_causes.specs.declared.cause.SealCause.TheVariants as cause
use Rattle.facet_def.specs.declared.def.Def.{Def}
use Rattle.facet_def.specs.declared.def.Def.TheVariants as def
use Rattle.facet_desc.specs.declared.ty.Ty.{Ty}
use Rattle.facet_leaf.specs.LeafModel.{LeafModel}
use Rattle.facet_outline.specs.Discriminant.{discriminants_of_kind}
use Rattle.facet_outline.specs.Layout.{option_offset, part_layout, result_offset}
use Rattle.facet_outline.specs.Part.{parts}
use Rattle.facet_outline.specs.References.{parts_of_def}
use Rattle.facet_outline.specs.declared.value_kind.ValueKind.{ValueKind}
use Rattle.facet_outline.specs.declared.value_kind.ValueKind.TheVariants as kind
use Rattle.facet_registry.proofs.SealedReadings.{offer_stays, size_stays}
use Rattle.facet_shape.specs.declared.shape.Shape.{Shape}
use Rattle.facet_trees.proofs.PartShapes.{parts_are_parts}
use Rattle.facet_trees.specs.Order.{Which, ordering}
use Rattle.facet_trees.specs.Structure.{body_under, no_values, option_form, part_shapes, plain, result_form, sequence, structure_at, structure_of_kind, tagged}
use Rattle.facet_trees.specs.Value.{Value}
use Rattle.facet_trees.specs.declared.form.Form.TheVariants as form
use Rattle.facet_values.specs.Place.{Place}
use Rattle.facet_values.specs.Reading.{Reads}
use Rattle.facet_values.specs.Seen.{leaf_at, leaf_of_seen}
use Rattle.facet_values.proofs.AlikeReadings.{AreAlike, HasPartsBelow, alike_back, discriminants_at, ids_of, ordering_alike, read_alike, seen_alike}
use Rattle.facet_values.proofs.LaidOut.{laid_out}

module _ {L : Type 0} (m : LeafModel L) (xs ys : List Shape) (well : IsWellFormed m xs) where
  known : AreKnown xs
  known = known_by m xs (λ t under. well cause.UnknownShape t under)

  longer : length xs ≤ length (xs ++ ys)
  longer = omega (arith, length-append xs ys)

  layout_stays : (id : ShapeId) → id.0 < length xs → layout_at (xs ++ ys) id ≡ layout_at xs id
  layout_stays = layout_same xs (xs ++ ys) longer (slice_get_front xs ys) known

  arranged_alike : (k : ValueKind) (d : Def) (t : Ty) → All (λ id. id.0 < length xs) (parts_of_def d) → arrangements_of_kind (layout_at (xs ++ ys)) k d t ≡ arrangements_of_kind (layout_at xs) k d t
  arranged_alike kind.Option (def.Option o) t below =
      let part = layout_stays o.t (All-head (λ id. id.0 < length xs) o.t [] below) in
      λ i. [] ∷ single o.t (option_offset (part_layout (part i))) ∷ []
  arranged_alike kind.Result (def.Result r) t below =
      let part = layout_stays r.t (All-head (λ id. id.0 < length xs) r.t (r.e ∷ []) below) in
      let error = layout_stays r.e (All-head (λ id. id.0 < length xs) r.e [] (All-tail (λ id. id.0 < length xs) r.t (r.e ∷ []) below)) in
      λ i. single r.t (result_offset (part_layout (part i)) (part_layout (error i))) ∷ single r.e (result_offset (part_layout (part i)) (part_layout (error i))) ∷ []
  arranged_alike kind.Array (def.Array a) t below =
      let part = layout_stays a.t (All-head (λ id. id.0 < length xs) a.t [] below) in
      λ i. in_a_row a.t a.n (part_layout (part i)).size ∷ []
  arranged_alike k d t below = refl

  module _ (s : ℕ) (shape : Shape) (is : slice_get xs s ≡ Some shape) where
    kind_stays : kind_in (xs ++ ys) shape ≡ kind_in xs shape
    kind_stays = kind_same xs (xs ++ ys) longer (slice_get_front xs ys) known s shape is

    element_stays : element_of (xs ++ ys) shape.def ≡ element_of xs shape.def
    element_stays = element_same xs (xs ++ ys) longer (slice_get_front xs ys) known s shape is

    arrangements_stay : arrangements (xs ++ ys) shape ≡ arrangements xs shape
    unfolding arrangements
    arrangements_stay =
        ap (λ k. arrangements_of_kind (layout_at (xs ++ ys)) k shape.def shape.ty) kind_stays
        ∙ arranged_alike (kind_in xs shape) shape.def shape.ty (def_parts_front xs (xs ++ ys) longer (slice_get_front xs ys) known s shape is)

    of_kind : (k : ValueKind) → structure_of_kind (xs ++ ys) k shape ≡ structure_of_kind xs k shape
    of_kind kind.Unit = refl
    of_kind (kind.Leaf k) = refl
    of_kind kind.Struct = ap (λ bodies. plain form.Record (body_under bodies 0)) arrangements_stay
    of_kind kind.Array = ap (λ bodies. plain form.Array (body_under bodies 0)) arrangements_stay
    of_kind kind.Enum = ap (tagged form.Variant) arrangements_stay
    of_kind kind.Option = ap (tagged option_form) arrangements_stay
    of_kind kind.Result = ap (tagged result_form) arrangements_stay
    of_kind kind.List = ap (λ e. sequence form.List (parts e shape)) element_stays
    of_kind kind.BoxedSlice = ap (λ e. sequence form.BoxedSlice (parts e shape)) element_stays
    of_kind kind.Map = ap (λ e. sequence form.Map (parts e shape)) element_stays
    of_kind kind.Set = ap (λ e. sequence form.Set (parts e shape)) element_stays
    of_kind kind.Box = ap (λ e. sequence form.Box (parts e shape)) element_stays
    of_kind kind.NoValue = refl

    ids_known : (k : ValueKind) → All (λ id. id.0 < length xs) (ids_of (structure_of_kind xs k shape))
    ids_known kind.List = parts_front xs (xs ++ ys) longer (slice_get_front xs ys) known s shape is
    ids_known kind.BoxedSlice = parts_front xs (xs ++ ys) longer (slice_get_front xs ys) known s shape is
    ids_known kind.Map = parts_front xs (xs ++ ys) longer (slice_get_front xs ys) known s shape is
    ids_known kind.Set = parts_front xs (xs ++ ys) longer (slice_get_front xs ys) known s shape is
    ids_known kind.Box = parts_front xs (xs ++ ys) longer (slice_get_front xs ys) known s shape is
    ids_known _ = All-nil (λ id. id.0 < length xs)

  -- what two readings say of each sealed shape they say of the one under an id
  read_same : {A : Type 0} (f g : Shape → A) (d : A) (s : ℕ) → s < length xs → ((shape : Shape) → slice_get xs s ≡ Some shape → f shape ≡ g shape) → option_map_or f (slice_get (xs ++ ys) s) d ≡ option_map_or g (slice_get xs s) d
  read_same f g d s below same = ap (λ o. option_map_or f o d) (slice_get_front xs ys s below) ∙ go (slice_get xs s) refl
    where
      go : (o : Option Shape) → slice_get xs s ≡ o → option_map_or f o d ≡ option_map_or g o d
      go None is = refl
      go (Some shape) is = same shape is

  structure_stays : (s : ℕ) → s < length xs → structure_at (xs ++ ys) s ≡ structure_at xs s
  unfolding structure_at
  structure_stays s below =
      read_same (λ shape. structure_of_kind (xs ++ ys) (kind_in (xs ++ ys) shape) shape) (λ shape. structure_of_kind xs (kind_in xs shape) shape) no_values s below
      (λ shape is. ap (λ k. structure_of_kind (xs ++ ys) k shape) (kind_stays s shape is) ∙ of_kind s shape is (kind_in xs shape))

  discriminants_stay : (s : ℕ) → s < length xs → discriminants_at (xs ++ ys) s ≡ discriminants_at xs s
  discriminants_stay s below =
      read_same (discriminants_in (xs ++ ys)) (discriminants_in xs) [] s below (λ shape is. ap (λ k. discriminants_of_kind k shape.ty) (kind_stays s shape is))

  ids_below : (s : ℕ) → All (λ id. id.0 < length xs) (ids_of (structure_at xs s))
  unfolding structure_at
  ids_below s = go (slice_get xs s) refl
    where
      go : (o : Option Shape) → slice_get xs s ≡ o → All (λ id. id.0 < length xs) (ids_of (option_map_or (λ shape. structure_of_kind xs (kind_in xs shape) shape) o no_values))
      go None is = All-nil (λ id. id.0 < length xs)
      go (Some shape) is = ids_known s shape is (kind_in xs shape)

  parts_below : (s : ℕ) → s < length xs → HasPartsBelow (length xs) (structure_at xs s)
  parts_below s below = record {
    bodies = λ i body within. ((laid_out m xs well s below).bodies i body within).known;
    ids = ids_below s;
    shapes = λ form k. All-weaker (Contains (parts_at xs s)) (λ part. part < length xs)
        (λ part among. parts_stay xs (xs ++ ys) longer (slice_get_front xs ys) known s part below among) (part_shapes (structure_at xs s) form k) (parts_are_parts xs s form k);
  }

  -- the longer list says the same of sealed shapes
  pub alike : AreAlike xs (xs ++ ys) (length xs)
  alike = record {
    structure = structure_stays;
    size = λ s below. size_stays m xs ys well s below;
    offer = λ s c below. offer_stays m xs ys well s below c;
    discriminants = discriminants_stay;
    layout = λ id below. ap part_layout (layout_stays id below);
    parts = parts_below;
  }

  pub reads_longer : (p : Place L) (v : Value L) → p.shape < length xs → Reads m xs p v → Reads m (xs ++ ys) p v
  reads_longer = read_alike xs (xs ++ ys) (length xs) alike m

  pub reads_shorter : (p : Place L) (v : Value L) → p.shape < length xs → Reads m (xs ++ ys) p v → Reads m xs p v
  reads_shorter = read_alike (xs ++ ys) xs (length xs) (alike_back xs (xs ++ ys) (length xs) alike) m

  pub leaf_stays : (p : Place L) → p.shape < length xs → leaf_at (xs ++ ys) p ≡ leaf_at xs p
  leaf_stays p below = ap leaf_of_seen (seen_alike xs (xs ++ ys) (length xs) alike m p below)

  -- and two values of a sealed shape are ordered as they were
  pub ordering_stays : (which : Which) (s : ℕ) (v w : Value L) → s < length xs → ordering m (xs ++ ys) which s v w ≡ ordering m xs which s v w
  ordering_stays = ordering_alike xs (xs ++ ys) (length xs) alike m
