-- The shapes of the parts of a value: they are parts of its shape, and values of one form have parts of the same shapes as far as both go.
use Rattle.std.proofs.Common.{◌≡◌, ℕ, zero, suc, List, [], ◌∷◌, ◌++◌, All, Contains, true, Option, None, Some, map, slice_get, unwrap_or, refl, ap, ◌∙◌, arith}
use Rattle.std.specs.Option.{option_map_or}
use Rattle.std.proofs.lemmas.List.{get_or-map, length-map}
use Rattle.std.proofs.lemmas.List.Elements.{All-contains_itself, All-cons, All-head, All-map, All-nil, All-push, All-tail, All-weaker}
use Rattle.facet_base.proofs.Lists.{All_at}
use Rattle.facet_base.specs.declared.characteristic.Characteristic.{Characteristic}
use Rattle.facet_base.specs.declared.layout.ShapeId.{ShapeId}
use Rattle.facet_causes.specs.Arrangement.{arrangements}
use Rattle.facet_causes.specs.KnownParts.{PlacedAreInline}
use Rattle.facet_causes.specs.Reading.{element_of, indices, kind_in, parts_at, parts_of}
use Rattle.facet_causes.proofs.PartsKnown.{placed_are_inline}
use Rattle.facet_outline.specs.Part.{parts}
use Rattle.facet_outline.specs.declared.placed_fields.PlacedField.{PlacedField}
use Rattle.facet_outline.specs.declared.value_kind.ValueKind.{ValueKind}
use Rattle.facet_outline.specs.declared.value_kind.ValueKind.TheVariants as kind
use Rattle.facet_outline.proofs.PartReferences.{inline_is_part}
use Rattle.facet_registry.specs.Registry.{offers}
use Rattle.facet_shape.specs.declared.shape.Shape.{Shape}
use Rattle.facet_trees.specs.Answered.{AllOffer}
use Rattle.facet_trees.specs.Structure.{Structure, no_values, scalar, plain, tagged, sequence, body_under, in_turn, part_shapes, structure_at, structure_of_kind, tag_of_form}
use Rattle.facet_trees.specs.declared.form.Form.{Form}

-- two lists of shapes are one as far as both go
abbrev pub Alike : List ℕ → List ℕ → Type 0
Alike (s ∷ ss) (t ∷ ts) = (s ≡ t) × Alike ss ts
Alike _ _ = Unit {0}

alike_itself : (ss : List ℕ) → Alike ss ss
alike_itself [] = tt
alike_itself (s ∷ ss) = (refl, alike_itself ss)

alike_in_turn : (ids : List ℕ) (n k : ℕ) → Alike (in_turn ids n) (in_turn ids k)
alike_in_turn [] n k = tt
alike_in_turn (id ∷ ids) zero k = tt
alike_in_turn (id ∷ ids) (suc n) zero = tt
alike_in_turn (id ∷ ids) (suc n) (suc k) = (refl, alike_in_turn (ids ++ id ∷ []) n k)

-- n and k parts of values of one form
pub alike_parts : (structure : Structure) (form : Form) (n k : ℕ) → Alike (part_shapes structure form n) (part_shapes structure form k)
alike_parts no_values form n k = tt
alike_parts (scalar _) form n k = tt
alike_parts (plain own body) form n k = alike_itself (map (λ part. part.shape.0) body)
alike_parts (tagged forms bodies) form n k = alike_itself (map (λ part. part.shape.0) (body_under bodies (tag_of_form form)))
alike_parts (sequence own ids) form n k = alike_in_turn (indices ids) n k

-- what holds of all items holds of them in turn
all_in_turn : (P : ℕ → Type 0) (xs : List ℕ) (n : ℕ) → All P xs → All P (in_turn xs n)
all_in_turn P [] n all = All-nil P
all_in_turn P (x ∷ xs) zero all = All-nil P
all_in_turn P (x ∷ xs) (suc n) all =
    let first = All-head P x xs all in
    All-cons P x (in_turn (xs ++ x ∷ []) n) first (all_in_turn P (xs ++ x ∷ []) n (All-push P xs x (All-tail P x xs all) first))

all_under : (P : PlacedField → Type 0) (bodies : List (List PlacedField)) (tag : ℕ) → All (All P) bodies → All P (body_under bodies tag)
all_under P bodies tag all = go (slice_get bodies tag) refl
  where
    go : (o : Option (List PlacedField)) → slice_get bodies tag ≡ o → All P (unwrap_or o [])
    go None is = All-nil P
    go (Some body) is = All_at (All P) bodies tag body all is

abbrev index : ShapeId → ℕ
index id = id.0

pub contains_index : (ids : List ShapeId) (id : ShapeId) → Contains ids id → Contains (indices ids) id.0
contains_index ids id (i, below, at) = (i, omega (arith, below, length-map ids index), get_or-map index ids i id id.0 below ∙ ap index at)

module _ (shapes : List Shape) where
  module _ (s : ℕ) (shape : Shape) (here : slice_get shapes s ≡ Some shape) where
    abbrev own_parts : List ShapeId
    own_parts = parts (element_of shapes shape.def) shape

    of_body : (tag : ℕ) → All (Contains (indices own_parts)) (map (λ part. part.shape.0) (body_under (arrangements shapes shape) tag))
    of_body tag =
        let bodies = arrangements shapes shape in
        let element = element_of shapes shape.def in
        let inline = All_at (PlacedAreInline shapes) shapes s shape (placed_are_inline shapes) here in
        All-map (Contains (indices own_parts)) (λ part. part.shape.0) (body_under bodies tag)
        (all_under (λ part. Contains (indices own_parts) part.shape.0) bodies tag
        (λ i ps under j part within. contains_index own_parts _ (inline_is_part element shape _ (inline i ps under j part within))))

    of_kind : (k : ValueKind) (form : Form) (n : ℕ) → All (Contains (indices own_parts)) (part_shapes (structure_of_kind shapes k shape) form n)
    of_kind kind.Unit form n = All-nil (Contains (indices own_parts))
    of_kind (kind.Leaf _) form n = All-nil (Contains (indices own_parts))
    of_kind kind.Struct form n = of_body 0
    of_kind kind.Array form n = of_body 0
    of_kind kind.Enum form n = of_body (tag_of_form form)
    of_kind kind.Option form n = of_body (tag_of_form form)
    of_kind kind.Result form n = of_body (tag_of_form form)
    of_kind kind.List form n = all_in_turn (Contains (indices own_parts)) (indices own_parts) n (All-contains_itself (indices own_parts))
    of_kind kind.BoxedSlice form n = all_in_turn (Contains (indices own_parts)) (indices own_parts) n (All-contains_itself (indices own_parts))
    of_kind kind.Map form n = all_in_turn (Contains (indices own_parts)) (indices own_parts) n (All-contains_itself (indices own_parts))
    of_kind kind.Set form n = all_in_turn (Contains (indices own_parts)) (indices own_parts) n (All-contains_itself (indices own_parts))
    of_kind kind.Box form n = all_in_turn (Contains (indices own_parts)) (indices own_parts) n (All-contains_itself (indices own_parts))
    of_kind kind.NoValue form n = All-nil (Contains (indices own_parts))

  -- the shapes of the parts of a value are parts of its shape
  pub parts_are_parts : (s : ℕ) (form : Form) (n : ℕ) → All (Contains (parts_at shapes s)) (part_shapes (structure_at shapes s) form n)
  unfolding structure_at parts_of
  parts_are_parts s form n = go (slice_get shapes s) refl
    where
      go : (o : Option Shape) → slice_get shapes s ≡ o
          → All (Contains (indices (option_map_or (λ shape. parts (element_of shapes shape.def) shape) o []))) (part_shapes (option_map_or (λ shape. structure_of_kind shapes (kind_in shapes shape) shape) o no_values) form n)
      go None is = All-nil (Contains [])
      go (Some shape) is = of_kind s shape is (kind_in shapes shape) form n

  -- of a shape all whose reached shapes offer something, so do all that are reached from its parts
  pub parts_offer : (c : Characteristic) (s : ℕ) → AllOffer shapes c s → (form : Form) (n : ℕ) → All (AllOffer shapes c) (part_shapes (structure_at shapes s) form n)
  parts_offer c s all form n =
      All-weaker (Contains (parts_at shapes s)) (AllOffer shapes c) (λ next edge part reached. all part (record { way = next ∷ reached.way; leads = (edge, reached.leads) }))
      (part_shapes (structure_at shapes s) form n) (parts_are_parts s form n)

  -- the shape itself is reached
  pub own_offer : (c : Characteristic) (s : ℕ) → AllOffer shapes c s → offers shapes s c ≡ true
  own_offer c s all = all s (record { way = []; leads = refl })
