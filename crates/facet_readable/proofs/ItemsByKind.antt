-- What the code asks of the item at a place, by the kind of the shape, is what a value asks of it.
use Rattle.std.proofs.Common.{◌≡◌, ◌↔◌, ◌⊎◌, inl, inr, IsTrue, ◌<◌, Bool, true, List, All, IfSome, Option, None, Some, length, slice_get, refl, sym, ap, ◌∙◌, subst, arith}
use Rattle.std.specs.Option.{option_to_list}
use Rattle.facet_base.specs.declared.layout.ShapeId.{ShapeId}
use Rattle.facet_base.specs.declared.scalar_type.ScalarType.{ScalarType}
use Rattle.facet_block.specs.Block.{leaf_of}
use Rattle.facet_block.specs.declared.block.Item.{Item, Leaf, Sequence, Tag}
use Rattle.facet_causes.proofs.Front.{AreKnown, def_parts_front, parts_front}
use Rattle.facet_causes.proofs.Sealed.{known_by}
use Rattle.facet_causes.specs.Causes.{IsWellFormed}
use Rattle.facet_causes.specs.Reading.{element_of}
use Rattle.facet_causes.specs.declared.cause.SealCause.TheVariants as cause
use Rattle.facet_def.specs.declared.def.Def.{Def}
use Rattle.facet_def.specs.declared.def.Def.TheVariants as def
use Rattle.facet_leaf.specs.LeafModel.{LeafModel}
use Rattle.facet_outline.specs.Part.{parts}
use Rattle.facet_outline.specs.References.{parts_of_def}
use Rattle.facet_outline.specs.declared.value_kind.ValueKind.{ValueKind}
use Rattle.facet_outline.specs.declared.value_kind.ValueKind.TheVariants as kind
use Rattle.facet_readable.proofs.BlockLayouts.{item_by_blocks}
use Rattle.facet_readable.specs.Blocks.{IsLayoutOf, MayHaveBlocks}
use Rattle.facet_readable.specs.declared.blocks.BlockLayout.{BlockLayout}
use Rattle.facet_shape.specs.WithoutSpare.{shape_without_spare}
use Rattle.facet_shape.specs.declared.shape.Shape.{Shape}
use Rattle.facet_trees.specs.Structure.{scalar, sequence, structure_at, structure_of_kind}
use Rattle.facet_trees.specs.declared.form.Form.{Form}
use Rattle.facet_trees.specs.declared.form.Form.TheVariants as form
use Rattle.facet_values.specs.Place.{Place, own_item}
use Rattle.facet_values.specs.Reading.{IsItemOf}
use Rattle.facet_walk.proofs.SeenKinds.{HasElements, IsOfKind, elements_here, list_element, parts_here, structure_here}
use Rattle.facet_walk.specs.Look.{element_in}

-- what a set or a box consists of
set_element : (d : Def) → HasElements kind.Set d → parts_of_def d ≡ option_to_list (element_in d)
set_element (def.Set d) has = refl
set_element _ has = absurd has

box_element : (d : Def) → HasElements kind.Box d → parts_of_def d ≡ option_to_list (element_in d)
box_element (def.Pointer d) has = refl
box_element _ has = absurd has

-- the kinds whose values begin with no leaf and no sequence
abbrev pub AsksNothing : ValueKind → Type 0
AsksNothing kind.NoValue = Unit {0}
AsksNothing kind.Unit = Unit {0}
AsksNothing kind.Struct = Unit {0}
AsksNothing kind.Array = Unit {0}
AsksNothing kind.Enum = Unit {0}
AsksNothing kind.Option = Unit {0}
AsksNothing kind.Result = Unit {0}
AsksNothing _ = ⊥

pub asks_nothing : (k : ValueKind)
    → (k ≡ kind.NoValue) ⊎ ((k ≡ kind.Unit) ⊎ ((k ≡ kind.Struct) ⊎ ((k ≡ kind.Array) ⊎ ((k ≡ kind.Enum) ⊎ ((k ≡ kind.Option) ⊎ (k ≡ kind.Result)))))) → AsksNothing k
asks_nothing k (inl is) = rw is tt
asks_nothing k (inr (inl is)) = rw is tt
asks_nothing k (inr (inr (inl is))) = rw is tt
asks_nothing k (inr (inr (inr (inl is)))) = rw is tt
asks_nothing k (inr (inr (inr (inr (inl is))))) = rw is tt
asks_nothing k (inr (inr (inr (inr (inr (inl is)))))) = rw is tt
asks_nothing k (inr (inr (inr (inr (inr (inr is)))))) = rw is tt

module _ {L : Type 0} (m : LeafModel L) (shapes : List Shape) where
  leaf_asked : (k : ScalarType) (found : Option (Item L)) (r : Bool) → (IsTrue r ↔ IfSome (leaf_of found) (λ x. m.kind x ≡ k)) → IsTrue r ↔ IsItemOf m shapes (scalar k) found
  leaf_asked k None r has = (λ t. tt, λ u. has.1 tt)
  leaf_asked k (Some (Leaf x)) r has = has
  leaf_asked k (Some (Tag n)) r has = (λ t. tt, λ u. has.1 tt)
  leaf_asked k (Some (Sequence s)) r has = (λ t. tt, λ u. has.1 tt)

  nothing_asked : (k : ValueKind) (shape : Shape) (found : Option (Item L)) → AsksNothing k → IsItemOf m shapes (structure_of_kind shapes k shape) found
  nothing_asked kind.NoValue shape found none = tt
  nothing_asked kind.Unit shape found none = tt
  nothing_asked (kind.Leaf k) shape found none = absurd none
  nothing_asked kind.Struct shape found none = tt
  nothing_asked kind.Array shape found none = tt
  nothing_asked kind.Enum shape found none = tt
  nothing_asked kind.Option shape found none = tt
  nothing_asked kind.Result shape found none = tt
  nothing_asked kind.List shape found none = absurd none
  nothing_asked kind.BoxedSlice shape found none = absurd none
  nothing_asked kind.Map shape found none = absurd none
  nothing_asked kind.Set shape found none = absurd none
  nothing_asked kind.Box shape found none = absurd none

  module _ (p : Place L) (shape : Shape) where
    abbrev IsOf : ValueKind → Type 0
    IsOf k = IsOfKind shapes p.shape k shape

    abbrev IsRightItem : Bool → Type 0
    IsRightItem r = IsTrue r ↔ IsItemOf m shapes (structure_at shapes p.shape) (own_item p)

    abbrev HasRightBlocks : Form → List ShapeId → Bool → Type 0
    HasRightBlocks form ids r = (layout : BlockLayout) → IsLayoutOf shapes ids layout → (IsTrue r ↔ MayHaveBlocks layout form (own_item p)) → IsRightItem r

    pub leaf_item : (k : ScalarType) → IsOf (kind.Leaf k) → (r : Bool) → (IsTrue r ↔ IfSome (leaf_of (own_item p)) (λ x. m.kind x ≡ k)) → IsRightItem r
    leaf_item k is r has = subst (λ t. IsTrue r ↔ IsItemOf m shapes t (own_item p)) (sym (structure_here shapes p (kind.Leaf k) shape is)) (leaf_asked k (own_item p) r has)

    pub any_item : (k : ValueKind) → IsOf k → AsksNothing k → IsRightItem true
    any_item k is none = (
      λ t. subst (λ t. IsItemOf m shapes t (own_item p)) (sym (structure_here shapes p k shape is)) (nothing_asked k (shape_without_spare shape) (own_item p) none),
      λ u. refl,
    )

    sequence_item : (form : Form) (ids : List ShapeId) → structure_at shapes p.shape ≡ sequence form ids → (r : Bool) → HasRightBlocks form ids r
    sequence_item form ids of r layout laid has = subst (λ t. IsTrue r ↔ IsItemOf m shapes t (own_item p)) (sym of) (item_by_blocks m shapes form ids layout laid (own_item p) r has)

    list_consists : IsOf kind.List → parts (element_of shapes shape.def) (shape_without_spare shape) ≡ option_to_list (element_in shape.def)
    list_consists is = parts_here shapes p kind.List shape is ∙ list_element shape.def (elements_here shapes p kind.List shape is)

    set_consists : IsOf kind.Set → parts (element_of shapes shape.def) (shape_without_spare shape) ≡ option_to_list (element_in shape.def)
    set_consists is = parts_here shapes p kind.Set shape is ∙ set_element shape.def (elements_here shapes p kind.Set shape is)

    box_consists : IsOf kind.Box → parts (element_of shapes shape.def) (shape_without_spare shape) ≡ option_to_list (element_in shape.def)
    box_consists is = parts_here shapes p kind.Box shape is ∙ box_element shape.def (elements_here shapes p kind.Box shape is)

    pub list_item : IsOf kind.List → (r : Bool) → HasRightBlocks form.List (option_to_list (element_in shape.def)) r
    list_item is = sequence_item form.List _ (structure_here shapes p kind.List shape is ∙ ap (sequence form.List) (list_consists is))

    pub set_item : IsOf kind.Set → (r : Bool) → HasRightBlocks form.Set (option_to_list (element_in shape.def)) r
    set_item is = sequence_item form.Set _ (structure_here shapes p kind.Set shape is ∙ ap (sequence form.Set) (set_consists is))

    pub box_item : IsOf kind.Box → (r : Bool) → HasRightBlocks form.Box (option_to_list (element_in shape.def)) r
    box_item is = sequence_item form.Box _ (structure_here shapes p kind.Box shape is ∙ ap (sequence form.Box) (box_consists is))

    pub slice_item : IsOf kind.BoxedSlice → (r : Bool) → HasRightBlocks form.BoxedSlice (option_to_list (element_of shapes shape.def)) r
    slice_item is = sequence_item form.BoxedSlice _ (structure_here shapes p kind.BoxedSlice shape is ∙ ap (sequence form.BoxedSlice) (parts_here shapes p kind.BoxedSlice shape is))

    pub map_item : IsOf kind.Map → (r : Bool) → HasRightBlocks form.Map (parts_of_def shape.def) r
    map_item is = sequence_item form.Map _ (structure_here shapes p kind.Map shape is ∙ ap (sequence form.Map) (parts_here shapes p kind.Map shape is))

    module _ (well : IsWellFormed m shapes) where
      abbrev AreKnownIds : List ShapeId → Type 0
      AreKnownIds ids = All (λ id. id.0 < length shapes) ids

      known : AreKnown shapes
      known = known_by m shapes (λ t under. well cause.UnknownShape t under)

      -- what the definition of a sealed shape refers to is sealed
      pub def_known : slice_get shapes p.shape ≡ Some (shape_without_spare shape) → AreKnownIds (parts_of_def shape.def)
      def_known here = def_parts_front shapes shapes (omega arith) (λ t below. refl) known p.shape (shape_without_spare shape) here

      parts_known : slice_get shapes p.shape ≡ Some (shape_without_spare shape) → AreKnownIds (parts (element_of shapes shape.def) (shape_without_spare shape))
      parts_known here = parts_front shapes shapes (omega arith) (λ t below. refl) known p.shape (shape_without_spare shape) here

      pub list_known : IsOf kind.List → AreKnownIds (option_to_list (element_in shape.def))
      list_known is = subst AreKnownIds (list_consists is) (parts_known is.here)

      pub set_known : IsOf kind.Set → AreKnownIds (option_to_list (element_in shape.def))
      set_known is = subst AreKnownIds (set_consists is) (parts_known is.here)

      pub box_known : IsOf kind.Box → AreKnownIds (option_to_list (element_in shape.def))
      box_known is = subst AreKnownIds (box_consists is) (parts_known is.here)

      pub slice_known : IsOf kind.BoxedSlice → AreKnownIds (option_to_list (element_of shapes shape.def))
      slice_known is = subst AreKnownIds (parts_here shapes p kind.BoxedSlice shape is) (parts_known is.here)
