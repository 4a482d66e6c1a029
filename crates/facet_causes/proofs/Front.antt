-- Shapes that stand at the front of a longer list too, and refer to each other alone: what is said of them holds in both.
use Rattle.std.proofs.Common.{◌≡◌, ℕ, ◌<◌, ◌≤◌, ◌&&◌, false, not, List, [], ◌∷◌, ◌++◌, All, Contains, Option, None, Some, length, map, slice_get, refl, sym, ap, ◌∙◌, subst, inl, inr, arith}
use Rattle.std.specs.Option.{option_and_then, option_map_or, option_to_list}
use Rattle.std.proofs.lemmas.List.Elements.{All-contains, All-head, All-map, All-nil, Contains-append_left}
use Rattle.facet_base.specs.declared.characteristic.Characteristic.TheVariants as trait
use Rattle.facet_base.specs.declared.layout.ShapeId.{ShapeId}
use Rattle.facet_base.specs.declared.layout.ShapeLayout.TheVariants as layout
use Rattle.facet_def.specs.declared.def.Def.{Def}
use Rattle.facet_def.specs.declared.def.Def.TheVariants as def
use Rattle.facet_causes.specs.KeyNotOrd.{keys_of}
use Rattle.facet_causes.specs.Reading.{before_at, before_of, element_of, has_order, indices, inline_at, inline_of, kind_in, lacks_order, layout_at, name_children_of, named_at, own_name_bytes_of, parts_at, parts_of, repeated_at, repetition_of}
use Rattle.facet_causes.proofs.Agree.{all_by}
use Rattle.facet_graph.specs.Reach.{StaysWithin}
use Rattle.facet_outline.specs.BadLayout.{has_values}
use Rattle.facet_outline.specs.Part.{fields_of_type, inline_parts, key_of_kind, parts, repetition}
use Rattle.facet_outline.specs.References.{height_references, parts_of_def, references}
use Rattle.facet_outline.specs.ValueKind.{kind_of, pointee_of, slice_element}
use Rattle.facet_outline.specs.declared.value_kind.ValueKind.{ValueKind}
use Rattle.facet_outline.specs.declared.value_kind.ValueKind.TheVariants as kind
use Rattle.facet_outline.proofs.PartReferences.{def_part_is_reference, eager_is_reference, field_is_reference, height_is_eager, inline_is_part, part_is_reference}
use Rattle.facet_shape.specs.Capability.{can}
use Rattle.facet_shape.specs.declared.shape.Shape.{Shape}
use Rattle.facet_type_name.specs.Name.{name_children, own_name_bytes}

-- the shapes refer to each other alone
abbrev pub AreKnown : List Shape → Type 0
AreKnown xs = (s : ℕ) (shape : Shape) → slice_get xs s ≡ Some shape → All (λ id. id.0 < length xs) (references shape)

pointee_is_part : (d : Def) (id : ShapeId) → pointee_of d ≡ Some id → option_to_list (Some id) ≡ parts_of_def d
pointee_is_part (def.Pointer p) id is = ap option_to_list (sym is)
pointee_is_part _ id is = cc

element_is_part : (d : Def) (id : ShapeId) → slice_element d ≡ Some id → option_to_list (Some id) ≡ parts_of_def d
element_is_part (def.Slice s) id is = ap option_to_list (sym is)
element_is_part _ id is = cc

pub key_is_part : (k : ValueKind) (d : Def) (id : ShapeId) → Contains (option_to_list (key_of_kind k d)) id → Contains (parts_of_def d) id
key_is_part kind.Map (def.Map m) id among = Contains-append_left (m.k ∷ []) (m.v ∷ []) id among
key_is_part kind.Set (def.Set s) id among = among
key_is_part kind.Map _ id (i, below, at) = absurd (omega arith)
key_is_part kind.Set _ id (i, below, at) = absurd (omega arith)
key_is_part _ d id (i, below, at) = absurd (omega arith)

module _ (xs ys : List Shape) (longer : length xs ≤ length ys) (same : (s : ℕ) → s < length xs → slice_get ys s ≡ slice_get xs s) (known : AreKnown xs) where
  pub layout_same : (id : ShapeId) → id.0 < length xs → layout_at ys id ≡ layout_at xs id
  layout_same id below = ap (λ o. option_map_or (λ (t : Shape). t.layout) o layout.Unsized) (same id.0 below)

  pub def_parts_front : (s : ℕ) (shape : Shape) → slice_get xs s ≡ Some shape → All (λ id. id.0 < length xs) (parts_of_def shape.def)
  def_parts_front s shape is = all_by (λ id. id.0 < length xs) (parts_of_def shape.def) (λ id among. All-contains (λ id. id.0 < length xs) (references shape) id (known s shape is) (def_part_is_reference shape id among))

  -- the slice that a shape points to
  pointee_front : (s : ℕ) (shape : Shape) → slice_get xs s ≡ Some shape → (id : ShapeId) → pointee_of shape.def ≡ Some id → id.0 < length xs
  pointee_front s shape is id to = All-head (λ id. id.0 < length xs) id [] (subst (All (λ id. id.0 < length xs)) (sym (pointee_is_part shape.def id to)) (def_parts_front s shape is))

  pub element_same : (s : ℕ) (shape : Shape) → slice_get xs s ≡ Some shape → element_of ys shape.def ≡ element_of xs shape.def
  element_same s shape is = go (pointee_of shape.def) (pointee_front s shape is)
    where
      go : (o : Option ShapeId) → ((id : ShapeId) → o ≡ Some id → id.0 < length xs)
          → option_and_then (λ id. option_and_then (λ t. slice_element t.def) (slice_get ys id.0)) o ≡ option_and_then (λ id. option_and_then (λ t. slice_element t.def) (slice_get xs id.0)) o
      go None below = refl
      go (Some id) below = ap (option_and_then (λ t. slice_element t.def)) (same id.0 (below id refl))

  element_front : (d : Def) → All (λ id. id.0 < length xs) (option_to_list (element_of xs d))
  element_front d = go (pointee_of d)
    where
      at : (o : Option Shape) (s : ℕ) → slice_get xs s ≡ o → All (λ id. id.0 < length xs) (option_to_list (option_and_then (λ t. slice_element t.def) o))
      at None s is = All-nil (λ id. id.0 < length xs)
      at (Some t) s is = by_element (slice_element t.def) refl
        where
          by_element : (e : Option ShapeId) → slice_element t.def ≡ e → All (λ id. id.0 < length xs) (option_to_list e)
          by_element None none = All-nil (λ id. id.0 < length xs)
          by_element (Some id) some = subst (All (λ id. id.0 < length xs)) (sym (element_is_part t.def id some)) (def_parts_front s t is)

      go : (o : Option ShapeId) → All (λ id. id.0 < length xs) (option_to_list (option_and_then (λ id. option_and_then (λ t. slice_element t.def) (slice_get xs id.0)) o))
      go None = All-nil (λ id. id.0 < length xs)
      go (Some id) = at (slice_get xs id.0) id.0 refl

  pub kind_same : (s : ℕ) (shape : Shape) → slice_get xs s ≡ Some shape → kind_in ys shape ≡ kind_in xs shape
  kind_same s shape is = ap (λ e. kind_of e shape) (element_same s shape is)

  -- what a shape refers to
  pub parts_front : (s : ℕ) (shape : Shape) → slice_get xs s ≡ Some shape → All (λ id. id.0 < length xs) (parts (element_of xs shape.def) shape)
  parts_front s shape is = all_by (λ id. id.0 < length xs) (parts (element_of xs shape.def) shape) (λ id among. elim (part_is_reference (element_of xs shape.def) shape id among) [
    | inl reference ↦ All-contains (λ id. id.0 < length xs) (references shape) id (known s shape is) reference
    | inr element ↦ All-contains (λ id. id.0 < length xs) (option_to_list (element_of xs shape.def)) id (element_front shape.def) element
  ])

  pub inline_front : (s : ℕ) (shape : Shape) → slice_get xs s ≡ Some shape → All (λ id. id.0 < length xs) (inline_parts (element_of xs shape.def) shape)
  inline_front s shape is = all_by (λ id. id.0 < length xs) (inline_parts (element_of xs shape.def) shape) (λ id among. All-contains (λ id. id.0 < length xs) (parts (element_of xs shape.def) shape) id (parts_front s shape is) (inline_is_part (element_of xs shape.def) shape id among))

  pub before_front : (s : ℕ) (shape : Shape) → slice_get xs s ≡ Some shape → All (λ id. id.0 < length xs) (height_references shape)
  before_front s shape is = all_by (λ id. id.0 < length xs) (height_references shape) (λ id among. All-contains (λ id. id.0 < length xs) (references shape) id (known s shape is) (eager_is_reference shape id (height_is_eager shape id among)))

  pub fields_front : (s : ℕ) (shape : Shape) → slice_get xs s ≡ Some shape → All (λ id. id.0 < length xs) (fields_of_type shape.ty)
  fields_front s shape is = all_by (λ id. id.0 < length xs) (fields_of_type shape.ty) (λ id among. All-contains (λ id. id.0 < length xs) (references shape) id (known s shape is) (field_is_reference shape id among))

  keys_front : (s : ℕ) (shape : Shape) → slice_get xs s ≡ Some shape → All (λ id. id.0 < length xs) (keys_of xs shape)
  keys_front s shape is = all_by (λ id. id.0 < length xs) (keys_of xs shape) (λ id among. All-contains (λ id. id.0 < length xs) (parts_of_def shape.def) id (def_parts_front s shape is) (key_is_part (kind_in xs shape) shape.def id among))

  -- edges stay within the front
  found_front : (f : Shape → List ShapeId) → ((s : ℕ) (shape : Shape) → slice_get xs s ≡ Some shape → All (λ id. id.0 < length xs) (f shape)) → (s : ℕ) → All (λ id. id.0 < length xs) (option_map_or f (slice_get xs s) [])
  found_front f front s = go (slice_get xs s) refl
    where
      go : (o : Option Shape) → slice_get xs s ≡ o → All (λ id. id.0 < length xs) (option_map_or f o [])
      go None is = All-nil (λ id. id.0 < length xs)
      go (Some shape) is = front s shape is

  stays_by : (ids : ℕ → List ShapeId) → ((s : ℕ) → All (λ id. id.0 < length xs) (ids s)) → StaysWithin (λ s. indices (ids s)) (length xs)
  stays_by ids front s t below among = All-contains (λ u. u < length xs) (indices (ids s)) t (All-map (λ u. u < length xs) (λ id. id.0) (ids s) (front s)) among

  pub inline_stays : StaysWithin (inline_at xs) (length xs)
  unfolding inline_of
  inline_stays = stays_by (inline_of xs) (found_front (λ shape. inline_parts (element_of xs shape.def) shape) inline_front)

  pub parts_stay : StaysWithin (parts_at xs) (length xs)
  unfolding parts_of
  parts_stay = stays_by (parts_of xs) (found_front (λ shape. parts (element_of xs shape.def) shape) parts_front)

  pub before_stays : StaysWithin (before_at xs) (length xs)
  unfolding before_of
  before_stays = stays_by (before_of xs) (found_front height_references before_front)

  pub starts_front : (s : ℕ) → All (λ u. u < length xs) (indices (option_map_or (keys_of xs) (slice_get xs s) []))
  starts_front s = All-map (λ u. u < length xs) (λ id. id.0) (option_map_or (keys_of xs) (slice_get xs s) []) (found_front (keys_of xs) keys_front s)

  -- and are the same in both
  found_same : {A : Type 0} (f g : Shape → A) (d : A) → ((s : ℕ) (shape : Shape) → slice_get xs s ≡ Some shape → f shape ≡ g shape) → (s : ℕ) → s < length xs → option_map_or f (slice_get ys s) d ≡ option_map_or g (slice_get xs s) d
  found_same f g d agree s below = ap (λ o. option_map_or f o d) (same s below) ∙ go (slice_get xs s) refl
    where
      go : (o : Option Shape) → slice_get xs s ≡ o → option_map_or f o d ≡ option_map_or g o d
      go None is = refl
      go (Some shape) is = agree s shape is

  inline_of_same : (s : ℕ) → s < length xs → inline_of xs s ≡ inline_of ys s
  unfolding inline_of
  inline_of_same s below = sym (found_same (λ shape. inline_parts (element_of ys shape.def) shape) (λ shape. inline_parts (element_of xs shape.def) shape) [] (λ s shape is. ap (λ e. inline_parts e shape) (element_same s shape is)) s below)

  parts_of_same : (s : ℕ) → s < length xs → parts_of xs s ≡ parts_of ys s
  unfolding parts_of
  parts_of_same s below = sym (found_same (λ shape. parts (element_of ys shape.def) shape) (λ shape. parts (element_of xs shape.def) shape) [] (λ s shape is. ap (λ e. parts e shape) (element_same s shape is)) s below)

  before_of_same : (s : ℕ) → s < length xs → before_of xs s ≡ before_of ys s
  unfolding before_of
  before_of_same s below = sym (found_same height_references height_references [] (λ s shape is. refl) s below)

  children_of_same : (s : ℕ) → s < length xs → name_children_of xs s ≡ name_children_of ys s
  unfolding name_children_of
  children_of_same s below = sym (found_same name_children name_children [] (λ s shape is. refl) s below)

  pub own_name_same : (s : ℕ) → s < length xs → own_name_bytes_of xs s ≡ own_name_bytes_of ys s
  unfolding own_name_bytes_of
  own_name_same s below = sym (found_same own_name_bytes own_name_bytes 0 (λ s shape is. refl) s below)

  repetition_of_same : (s : ℕ) → s < length xs → repetition_of xs s ≡ repetition_of ys s
  unfolding repetition_of
  repetition_of_same s below = sym (found_same (λ shape. repetition shape.def) (λ shape. repetition shape.def) 1 (λ s shape is. refl) s below)

  pub lacks_order_same : (s : ℕ) → s < length xs → lacks_order xs s ≡ lacks_order ys s
  unfolding lacks_order
  lacks_order_same s below = ap not (sym (found_same (has_order ys) (has_order xs) false (λ s shape is. ap (λ k. has_values k && can shape trait.Ord) (kind_same s shape is)) s below))

  pub inline_same : (s : ℕ) → s < length xs → inline_at xs s ≡ inline_at ys s
  inline_same s below = ap indices (inline_of_same s below)

  pub parts_same : (s : ℕ) → s < length xs → parts_at xs s ≡ parts_at ys s
  parts_same s below = ap indices (parts_of_same s below)

  pub before_same : (s : ℕ) → s < length xs → before_at xs s ≡ before_at ys s
  before_same s below = ap indices (before_of_same s below)

  pub repeated_same : (s : ℕ) → s < length xs → repeated_at xs s ≡ repeated_at ys s
  repeated_same s below = λ i. map (λ id. record { node = id.0; weight = repetition_of_same s below i }) (inline_of_same s below i)

  pub named_same : (s : ℕ) → s < length xs → named_at xs s ≡ named_at ys s
  named_same s below = λ i. map (λ id. record { node = id.0; weight = 1 }) (children_of_same s below i) ++ map (λ id. record { node = id.0; weight = 0 }) (before_of_same s below i)
