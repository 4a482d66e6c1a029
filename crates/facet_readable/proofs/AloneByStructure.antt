-- When nothing lies in a range beside the items of a value, by the kind of the shape.
use Rattle.std.proofs.Common.{◌≡◌, ◌↔◌, ◌⊎◌, inl, inr, IsTrue, ℕ, ◌+◌, ◌≤◌, Bool, true, false, List, [], ◌∷◌, All, Option, None, Some, refl, sym, ap, ◌∙◌, subst, arith}
use Rattle.std.proofs.lemmas.List.Elements.{All-cons, All-head, All-nil, All-tail}
use Rattle.std.specs.Option.{option_map_or}
use Rattle.facet_base.specs.declared.scalar_type.ScalarType.{ScalarType}
use Rattle.facet_block.specs.Block.{tag_of}
use Rattle.facet_block.specs.Span.{IsBeside}
use Rattle.facet_block.specs.declared.block.Item.{Item}
use Rattle.facet_outline.specs.declared.placed_fields.PlacedField.{PlacedField}
use Rattle.facet_outline.specs.declared.value_kind.ValueKind.{ValueKind}
use Rattle.facet_outline.specs.declared.value_kind.ValueKind.TheVariants as kind
use Rattle.facet_readable.proofs.InlineParts.{IsInline, beside_places, beside_spans, inline_end, inline_known, seen_inline}
use Rattle.facet_readable.proofs.Rows.{behind_row, beside_row, row_fits}
use Rattle.facet_readable.specs.Gaps.{AreKnownPlaces, IsEmptyBeside, IsEmptyFrom, parts_of_seen, row_size}
use Rattle.facet_registry.specs.Registry.{size_at}
use Rattle.facet_shape.specs.WithoutSpare.{shape_without_spare}
use Rattle.facet_shape.specs.declared.shape.Shape.{Shape}
use Rattle.facet_trees.specs.Structure.{Structure, no_values, plain, scalar, sequence, tagged, body_under, structure_at, structure_of_kind}
use Rattle.facet_values.specs.Laid.{IsLaidOut, has_own_item}
use Rattle.facet_values.specs.Place.{LiesInBlock, Place, own_item, part_places, range_of}
use Rattle.facet_values.specs.Reading.{IsAlone, own_span, part_spans, spans_by}
use Rattle.facet_values.specs.Replaced.{body_by}
use Rattle.facet_values.specs.Seen.{Seen, seen}
use Rattle.facet_walk.proofs.SeenKinds.{IsOfKind, array_seen, structure_here}
use Rattle.facet_walk.specs.Look.{elements_in_a_row}

-- how many bytes at the front of a value an item of its own takes
abbrev pub own_bytes : Structure → ℕ
own_bytes no_values = 0
own_bytes (plain form body) = 0
own_bytes _ = 1

module _ {L : Type 0} (shapes : List Shape) (p : Place L) (size : ℕ) where
  -- without an item of the value's own
  alone_without : (body : List PlacedField) → IsEmptyBeside shapes p 0 size (part_places p body) ↔ IsAlone size p (part_spans shapes body)
  alone_without body = (
    λ empty i below beside. empty i (omega arith) below (beside_places shapes p i body beside),
    λ alone i from below beside. alone i below (beside_spans shapes p i body beside),
  )

  behind_own : (i : ℕ) → IsBeside i own_span → 1 ≤ i
  behind_own i (inl before) = absurd (omega (arith, before))
  behind_own i (inr behind) = omega (arith, behind)

  -- with one
  alone_with : (body : List PlacedField) → IsEmptyBeside shapes p 1 size (part_places p body) ↔ IsAlone size p (own_span ∷ part_spans shapes body)
  alone_with body = (
    λ empty i below beside.
        empty i (behind_own i (All-head (IsBeside i) own_span (part_spans shapes body) beside)) below (beside_places shapes p i body (All-tail (IsBeside i) own_span (part_spans shapes body) beside)),
    λ alone i from below beside. alone i below (All-cons (IsBeside i) own_span (part_spans shapes body) (inr from) (beside_spans shapes p i body beside)),
  )

  spans_under : (bodies : List (List PlacedField)) (tag : Option ℕ) → part_spans shapes (option_map_or (body_under bodies) tag []) ≡ option_map_or (λ t. part_spans shapes (body_under bodies t)) tag []
  spans_under bodies None = refl
  spans_under bodies (Some t) = refl

  alone_by : (t : Structure) (found : Option (Item L)) → IsEmptyBeside shapes p (own_bytes t) size (part_places p (body_by t found)) ↔ IsAlone size p (spans_by shapes t found)
  alone_by no_values found = alone_without []
  alone_by (scalar k) found = alone_with []
  alone_by (plain form body) found = alone_without body
  alone_by (tagged forms bodies) found =
      subst (λ spans. IsEmptyBeside shapes p 1 size (part_places p (option_map_or (body_under bodies) (tag_of found) [])) ↔ IsAlone size p (own_span ∷ spans))
      (spans_under bodies (tag_of found)) (alone_with (option_map_or (body_under bodies) (tag_of found) []))
  alone_by (sequence form ids) found = alone_with []

  -- a range that is empty beside the parts holds nothing beside the items of a value
  pub alone_from : (start : ℕ) (parts : List (Place L)) (r : Bool) → start ≡ own_bytes (structure_at shapes p.shape)
      → parts ≡ part_places p (body_by (structure_at shapes p.shape) (own_item p))
      → (IsTrue r ↔ IsEmptyBeside shapes p start size parts) → IsTrue r ↔ IsAlone size p (spans_by shapes (structure_at shapes p.shape) (own_item p))
  alone_from start parts r own same empty =
      let t = structure_at shapes p.shape in
      let moved = subst (λ ps. IsTrue r ↔ IsEmptyBeside shapes p (own_bytes t) size ps) same (subst (λ n. IsTrue r ↔ IsEmptyBeside shapes p n size parts) own empty) in
      let by = alone_by t (own_item p) in
      (λ is. by.0 (moved.0 is), λ alone. moved.1 (by.1 alone))

  -- without parts it is empty
  pub empty_beside_none : (start : ℕ) (r : Bool) → (IsTrue r ↔ IsEmptyFrom p start size) → IsTrue r ↔ IsEmptyBeside shapes p start size []
  empty_beside_none start r empty = (λ is i from below beside. empty.0 is i from below, λ all. empty.1 (λ i from below. all i from below (All-nil (λ q. IsBeside (p.offset + i) (range_of shapes q)))))

  -- what holds beside the parts of what the code sees
  pub beside_seen : (start : ℕ) (r : Bool) (s : Seen L) → s ≡ seen shapes p → (IsTrue r ↔ IsEmptyBeside shapes p start size (parts_of_seen s)) → IsTrue r ↔ IsEmptyBeside shapes p start size (parts_of_seen (seen shapes p))
  beside_seen start r s is = subst (λ t. IsTrue r ↔ IsEmptyBeside shapes p start size (parts_of_seen t)) is

-- what a range may hold beside nothing: an item of the value's own, inline parts, or both
pub data Front : Type 0 where
  bare : Front
  own_alone : Front
  parts_alone : Front
  own_and_parts : Front

-- by the kind
abbrev pub front_of : ValueKind → Front
front_of kind.NoValue = bare
front_of kind.Unit = bare
front_of (kind.Leaf k) = own_alone
front_of kind.List = own_alone
front_of kind.BoxedSlice = own_alone
front_of kind.Map = own_alone
front_of kind.Set = own_alone
front_of kind.Box = own_alone
front_of kind.Struct = parts_alone
front_of kind.Array = parts_alone
front_of kind.Enum = own_and_parts
front_of kind.Option = own_and_parts
front_of kind.Result = own_and_parts

abbrev pub bytes_in_front : Front → ℕ
bytes_in_front bare = 0
bytes_in_front parts_alone = 0
bytes_in_front _ = 1

abbrev pub HasNoParts : Front → Type 0
HasNoParts bare = Unit {0}
HasNoParts own_alone = Unit {0}
HasNoParts _ = ⊥

abbrev pub HasParts : Front → Type 0
HasParts parts_alone = Unit {0}
HasParts own_and_parts = Unit {0}
HasParts _ = ⊥

abbrev pub has_own : Front → Bool
has_own own_alone = true
has_own own_and_parts = true
has_own _ = false

-- the kinds that the code puts together
pub bare_front : (k : ValueKind) → (k ≡ kind.NoValue) ⊎ (k ≡ kind.Unit) → front_of k ≡ bare
bare_front k (inl is) = ap front_of is
bare_front k (inr is) = ap front_of is

pub own_front : (k : ValueKind) → ((l : ScalarType) × (k ≡ kind.Leaf l)) ⊎ ((k ≡ kind.List) ⊎ ((k ≡ kind.BoxedSlice) ⊎ ((k ≡ kind.Map) ⊎ ((k ≡ kind.Set) ⊎ (k ≡ kind.Box))))) → front_of k ≡ own_alone
own_front k (inl (l, is)) = ap front_of is
own_front k (inr (inl is)) = ap front_of is
own_front k (inr (inr (inl is))) = ap front_of is
own_front k (inr (inr (inr (inl is)))) = ap front_of is
own_front k (inr (inr (inr (inr (inl is))))) = ap front_of is
own_front k (inr (inr (inr (inr (inr is))))) = ap front_of is

pub tagged_front : (k : ValueKind) → (k ≡ kind.Enum) ⊎ ((k ≡ kind.Option) ⊎ (k ≡ kind.Result)) → front_of k ≡ own_and_parts
tagged_front k (inl is) = ap front_of is
tagged_front k (inr (inl is)) = ap front_of is
tagged_front k (inr (inr is)) = ap front_of is

module _ (shapes : List Shape) where
  own_bytes_of : (k : ValueKind) (shape : Shape) → bytes_in_front (front_of k) ≡ own_bytes (structure_of_kind shapes k shape)
  own_bytes_of kind.NoValue shape = refl
  own_bytes_of kind.Unit shape = refl
  own_bytes_of (kind.Leaf k) shape = refl
  own_bytes_of kind.List shape = refl
  own_bytes_of kind.BoxedSlice shape = refl
  own_bytes_of kind.Map shape = refl
  own_bytes_of kind.Set shape = refl
  own_bytes_of kind.Box shape = refl
  own_bytes_of kind.Struct shape = refl
  own_bytes_of kind.Array shape = refl
  own_bytes_of kind.Enum shape = refl
  own_bytes_of kind.Option shape = refl
  own_bytes_of kind.Result shape = refl

  own_item_of : (k : ValueKind) (shape : Shape) → has_own (front_of k) ≡ has_own_item (structure_of_kind shapes k shape)
  own_item_of kind.NoValue shape = refl
  own_item_of kind.Unit shape = refl
  own_item_of (kind.Leaf k) shape = refl
  own_item_of kind.List shape = refl
  own_item_of kind.BoxedSlice shape = refl
  own_item_of kind.Map shape = refl
  own_item_of kind.Set shape = refl
  own_item_of kind.Box shape = refl
  own_item_of kind.Struct shape = refl
  own_item_of kind.Array shape = refl
  own_item_of kind.Enum shape = refl
  own_item_of kind.Option shape = refl
  own_item_of kind.Result shape = refl

  no_body : {L : Type 0} (k : ValueKind) (shape : Shape) (found : Option (Item L)) → HasNoParts (front_of k) → [] ≡ body_by (structure_of_kind shapes k shape) found
  no_body kind.NoValue shape found none = refl
  no_body kind.Unit shape found none = refl
  no_body (kind.Leaf k) shape found none = refl
  no_body kind.List shape found none = refl
  no_body kind.BoxedSlice shape found none = refl
  no_body kind.Map shape found none = refl
  no_body kind.Set shape found none = refl
  no_body kind.Box shape found none = refl
  no_body kind.Struct shape found none = absurd none
  no_body kind.Array shape found none = absurd none
  no_body kind.Enum shape found none = absurd none
  no_body kind.Option shape found none = absurd none
  no_body kind.Result shape found none = absurd none

  inline_of : (k : ValueKind) (shape : Shape) → HasParts (front_of k) → IsInline (structure_of_kind shapes k shape)
  inline_of kind.NoValue shape some = absurd some
  inline_of kind.Unit shape some = absurd some
  inline_of (kind.Leaf k) shape some = absurd some
  inline_of kind.List shape some = absurd some
  inline_of kind.BoxedSlice shape some = absurd some
  inline_of kind.Map shape some = absurd some
  inline_of kind.Set shape some = absurd some
  inline_of kind.Box shape some = absurd some
  inline_of kind.Struct shape some = tt
  inline_of kind.Array shape some = tt
  inline_of kind.Enum shape some = tt
  inline_of kind.Option shape some = tt
  inline_of kind.Result shape some = tt

  module _ {L : Type 0} (p : Place L) (k : ValueKind) (shape : Shape) (is : IsOfKind shapes p.shape k shape) (front : Front) (of : front_of k ≡ front) where
    here : structure_at shapes p.shape ≡ structure_of_kind shapes k (shape_without_spare shape)
    here = structure_here shapes p k shape is

    own_bytes_here : bytes_in_front front ≡ own_bytes (structure_at shapes p.shape)
    own_bytes_here = sym (ap bytes_in_front of) ∙ own_bytes_of k (shape_without_spare shape) ∙ sym (ap own_bytes here)

    -- an own item has a byte
    pub own_below : has_own front ≡ true → IsLaidOut shapes p.shape → 1 ≤ size_at shapes p.shape
    own_below own laid = laid.own (ap has_own_item here ∙ sym (own_item_of k (shape_without_spare shape)) ∙ ap has_own of ∙ own)

    pub inline_here : HasParts front → IsInline (structure_at shapes p.shape)
    inline_here some = subst IsInline (sym here) (inline_of k (shape_without_spare shape) (subst HasParts (sym of) some))

    -- without inline parts the range is empty behind the own item
    pub alone_of_no_parts : HasNoParts front → (size : ℕ) (r : Bool) → (IsTrue r ↔ IsEmptyFrom p (bytes_in_front front) size)
        → IsTrue r ↔ IsAlone size p (spans_by shapes (structure_at shapes p.shape) (own_item p))
    alone_of_no_parts none size r empty =
        alone_from shapes p size (bytes_in_front front) [] r own_bytes_here
        (ap (part_places p) (no_body k (shape_without_spare shape) (own_item p) (subst HasNoParts (sym of) none) ∙ ap (λ t. body_by t (own_item p)) (sym here)))
        (empty_beside_none shapes p size (bytes_in_front front) r empty)

    -- with inline parts it is empty beside what is seen
    pub alone_of_parts : HasParts front → (size : ℕ) (r : Bool) → (IsTrue r ↔ IsEmptyBeside shapes p (bytes_in_front front) size (parts_of_seen (seen shapes p)))
        → IsTrue r ↔ IsAlone size p (spans_by shapes (structure_at shapes p.shape) (own_item p))
    alone_of_parts some size r empty =
        alone_from shapes p size (bytes_in_front front) (parts_of_seen (seen shapes p)) r own_bytes_here (seen_inline shapes p (inline_here some)) empty

    pub parts_known : HasParts front → IsLaidOut shapes p.shape → LiesInBlock shapes p → AreKnownPlaces shapes (parts_of_seen (seen shapes p))
    parts_known some laid inside = inline_known shapes p laid (inline_here some) inside

  module _ {L : Type 0} (p : Place L) (shape : Shape) (is : IsOfKind shapes p.shape kind.Array shape) where
    row_seen : parts_of_seen (seen shapes p) ≡ part_places p (elements_in_a_row shapes shape.def)
    row_seen = ap parts_of_seen (array_seen shapes p shape is)

    -- the elements of an array end within its size
    pub row_inside : IsLaidOut shapes p.shape → row_size shapes shape.def ≤ size_at shapes p.shape
    row_inside laid =
        row_fits shapes p shape.def (size_at shapes p.shape)
        (subst (All (λ q. q.offset + size_at shapes q.shape ≤ p.offset + size_at shapes p.shape)) row_seen
        (inline_end shapes p laid (inline_here p kind.Array shape is parts_alone refl tt)))

    -- and beside them is behind them
    pub alone_of_row : (size : ℕ) (r : Bool) → (IsTrue r ↔ IsEmptyFrom p (row_size shapes shape.def) size) → IsTrue r ↔ IsAlone size p (spans_by shapes (structure_at shapes p.shape) (own_item p))
    alone_of_row size r empty =
        let row = part_places p (elements_in_a_row shapes shape.def) in
        let beside : IsTrue r ↔ IsEmptyBeside shapes p 0 size row = (
          λ t i from below all. empty.0 t i (behind_row shapes p shape.def i all) below,
          λ all. empty.1 (λ i from below. all i (omega arith) below (beside_row shapes p shape.def i from)),
        ) in
        alone_of_parts p kind.Array shape is parts_alone refl tt size r (subst (λ ps. IsTrue r ↔ IsEmptyBeside shapes p 0 size ps) (sym row_seen) beside)
