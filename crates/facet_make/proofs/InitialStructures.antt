-- How the values of a shape are made up, where it is known what their default is made of.
use Rattle.std.proofs.Common.{◌≡◌, ℕ, ◌<◌, true, List, [], Option, None, Some, length, slice_get, refl, sym, ap, ◌∙◌, subst}
use Rattle.std.specs.Prelude.{⊤}
use Rattle.std.specs.Option.{option_map_or}
use Rattle.facet_base.proofs.Lists.{some_there}
use Rattle.facet_base.specs.declared.known_pointer.KnownPointer.{KnownPointer}
use Rattle.facet_base.specs.declared.known_pointer.KnownPointer.TheVariants as known
use Rattle.facet_base.specs.declared.layout.ShapeId.{ShapeId}
use Rattle.facet_base.specs.declared.scalar_type.ScalarType.{ScalarType}
use Rattle.facet_base.specs.declared.scalar_type.ScalarType.TheVariants as scalar
use Rattle.facet_causes.specs.Arrangement.{arrangements, arrangements_of_kind}
use Rattle.facet_causes.specs.Reading.{element_of, kind_in, layout_at}
use Rattle.facet_def.specs.declared.def.Def.{Def}
use Rattle.facet_def.specs.declared.def.Def.TheVariants as def
use Rattle.facet_desc.specs.declared.ty.Ty.{Ty}
use Rattle.facet_desc.specs.declared.ty.Ty.TheVariants as ty
use Rattle.facet_desc.specs.declared.ty.UserType.TheVariants as user
use Rattle.facet_leaf.specs.LeafModel.{LeafModel}
use Rattle.facet_make.specs.Default.{default_by, empty_of}
use Rattle.facet_make.specs.Initial.{initial_of_kind, is_plain}
use Rattle.facet_make.specs.Made.{Made, made, refused}
use Rattle.facet_make.specs.declared.initial.Initial.TheVariants as initial
use Rattle.facet_outline.specs.ValueKind.{kind_by_def, kind_by_scalar, kind_by_type, kind_of_box, kind_of_pointer}
use Rattle.facet_outline.specs.declared.placed_fields.PlacedField.{PlacedField}
use Rattle.facet_outline.specs.declared.value_kind.ValueKind.{ValueKind}
use Rattle.facet_outline.specs.declared.value_kind.ValueKind.TheVariants as kind
use Rattle.facet_registry.specs.Registry.{kind_at}
use Rattle.facet_shape.specs.declared.shape.Shape.{Shape}
use Rattle.facet_trees.specs.Structure.{Structure, sequence, tagged, option_form, structure_at, structure_of_kind}
use Rattle.facet_trees.specs.Value.{Value, node, none}
use Rattle.facet_trees.specs.declared.form.Form.{Form}
use Rattle.facet_trees.specs.declared.form.Form.TheVariants as form
use Rattle.facet_values.proofs.KindRows.{structure_is}
use Rattle.facet_values.specs.Reading.{IsLengthOf}

-- the first tag is that of an absent option, and no part lies behind it
pub record HasFirstTag (st : Structure) : Type 0 where
  pub bodies : List (List PlacedField)
  pub of : st ≡ tagged option_form bodies
  pub nothing : slice_get bodies 0 ≡ Some []

-- a sequence, which is the default without blocks
pub record MayHaveNoBlocks (L : Type 0) (st : Structure) : Type 0 where
  pub form : Form
  pub ids : List ShapeId
  pub of : st ≡ sequence form ids
  pub any : IsLengthOf form 0
  pub empty : empty_of {L = L} form ≡ made (node form none)

-- a shape whose values are options says so by its definition
abbrev SaysOption : ValueKind → Def → Type 0
SaysOption kind.Option (def.Option o) = ⊤
SaysOption kind.Option _ = ⊥
SaysOption k d = ⊤

says_type : (d : Def) (t : Ty) → SaysOption (kind_by_type t) d
says_type d (ty.User (user.Struct s)) = tt
says_type d (ty.User (user.Enum e)) = tt
says_type d _ = tt

says_box : (element : Option ShapeId) (d : Def) → SaysOption (kind_of_box element) d
says_box (Some id) d = tt
says_box None d = tt

says_pointer : (element : Option ShapeId) (pointer : Option KnownPointer) (d : Def) → SaysOption (kind_of_pointer element pointer) d
says_pointer element (Some known.Box) d = says_box element d
says_pointer element _ d = tt

says_def : (element : Option ShapeId) (d : Def) (t : Ty) → SaysOption (kind_by_def element d t) d
says_def element (def.Pointer p) t = says_pointer element p.known (def.Pointer p)
says_def element def.Undefined t = says_type def.Undefined t
says_def element _ t = tt

says_scalar : (k : Option ScalarType) (element : Option ShapeId) (d : Def) (t : Ty) → SaysOption (kind_by_scalar k element d t) d
says_scalar (Some scalar.Str) element d t = says_def element d t
says_scalar None element d t = says_def element d t
says_scalar (Some _) element d t = tt

nothing_behind : (layouts : _) (d : Def) (t : Ty) → SaysOption kind.Option d → slice_get (arrangements_of_kind layouts kind.Option d t) 0 ≡ Some []
nothing_behind layouts (def.Option o) t says = refl
nothing_behind layouts _ t says = absurd says

-- the kind of a leaf
pub leaf_of_initial : (k : ValueKind) (l : ScalarType) → initial_of_kind k ≡ initial.Leaf l → k ≡ kind.Leaf l
leaf_of_initial (kind.Leaf _) l is = cc
leaf_of_initial kind.Unit l is = absurd (cc)
leaf_of_initial kind.Struct l is = absurd (cc)
leaf_of_initial kind.Array l is = absurd (cc)
leaf_of_initial kind.Option l is = absurd (cc)
leaf_of_initial kind.List l is = absurd (cc)
leaf_of_initial kind.Map l is = absurd (cc)
leaf_of_initial kind.Set l is = absurd (cc)
leaf_of_initial _ l is = absurd (cc)

module _ (shapes : List Shape) where
  plain_of_kind : (k : ValueKind) (shape : Shape) → initial_of_kind k ≡ initial.Parts → is_plain (structure_of_kind shapes k shape) ≡ true
  plain_of_kind kind.Unit shape is = refl
  plain_of_kind kind.Struct shape is = refl
  plain_of_kind kind.Array shape is = refl
  plain_of_kind (kind.Leaf _) shape is = absurd (cc)
  plain_of_kind _ shape is = absurd (cc)

  first_tag_of_kind : (k : ValueKind) (shape : Shape) → kind_in shapes shape ≡ k → initial_of_kind k ≡ initial.FirstTag → HasFirstTag (structure_of_kind shapes k shape)
  unfolding arrangements
  first_tag_of_kind kind.Option shape of is =
      let says = subst (λ k. SaysOption k shape.def) of (says_scalar shape.scalar (element_of shapes shape.def) shape.def shape.ty) in
      record {
        bodies = arrangements shapes shape;
        of = refl;
        nothing = ap (λ k. slice_get (arrangements_of_kind (layout_at shapes) k shape.def shape.ty) 0) of ∙ nothing_behind (layout_at shapes) shape.def shape.ty says;
      }
  first_tag_of_kind (kind.Leaf _) shape of is = absurd (cc)
  first_tag_of_kind _ shape of is = absurd (cc)

  no_blocks_of_kind : (L : Type 0) (k : ValueKind) (shape : Shape) → initial_of_kind k ≡ initial.NoBlocks → MayHaveNoBlocks L (structure_of_kind shapes k shape)
  no_blocks_of_kind L kind.List shape is = record { form = form.List; ids = _; of = refl; any = tt; empty = refl }
  no_blocks_of_kind L kind.Map shape is = record { form = form.Map; ids = _; of = refl; any = tt; empty = refl }
  no_blocks_of_kind L kind.Set shape is = record { form = form.Set; ids = _; of = refl; any = tt; empty = refl }
  no_blocks_of_kind L (kind.Leaf _) shape is = absurd (cc)
  no_blocks_of_kind L _ shape is = absurd (cc)

  refused_of_kind : {L : Type 0} (m : LeafModel L) (case : ℕ → Made (Value L) L) (k : ValueKind) (shape : Shape) → initial_of_kind k ≡ initial.None → default_by m shapes case (structure_of_kind shapes k shape) ≡ refused []
  refused_of_kind m case kind.Enum shape is = refl
  refused_of_kind m case kind.Result shape is = refl
  refused_of_kind m case kind.BoxedSlice shape is = refl
  refused_of_kind m case kind.Box shape is = refl
  refused_of_kind m case kind.NoValue shape is = refl
  refused_of_kind m case (kind.Leaf _) shape is = absurd (cc)
  refused_of_kind m case _ shape is = absurd (cc)

  module _ (s : ℕ) (below : s < length shapes) where
    -- what holds of the structure of each shape of the kind holds of that of the shape under the id
    by_kind : (P : Structure → Type 0) → ((shape : Shape) → kind_in shapes shape ≡ kind_at shapes s → P (structure_of_kind shapes (kind_at shapes s) shape)) → P (structure_at shapes s)
    by_kind P each = go (slice_get shapes s) refl
      where
        go : (o : Option Shape) → slice_get shapes s ≡ o → P (structure_at shapes s)
        go None nothing = absurd (some_there shapes s below (sym nothing))
        go (Some shape) here =
            let of : kind_in shapes shape ≡ kind_at shapes s = sym (ap (λ o. option_map_or (kind_in shapes) o kind.NoValue) here) in
            subst P (sym (structure_is shapes s shape here (kind_at shapes s) of)) (each shape of)

    pub plain_there : initial.Parts ≡ initial_of_kind (kind_at shapes s) → is_plain (structure_at shapes s) ≡ true
    plain_there is = by_kind (λ st. is_plain st ≡ true) (λ shape of. plain_of_kind (kind_at shapes s) shape (sym is))

    pub first_tag_there : initial.FirstTag ≡ initial_of_kind (kind_at shapes s) → HasFirstTag (structure_at shapes s)
    first_tag_there is = by_kind HasFirstTag (λ shape of. first_tag_of_kind (kind_at shapes s) shape of (sym is))

    pub no_blocks_there : (L : Type 0) → initial.NoBlocks ≡ initial_of_kind (kind_at shapes s) → MayHaveNoBlocks L (structure_at shapes s)
    no_blocks_there L is = by_kind (MayHaveNoBlocks L) (λ shape of. no_blocks_of_kind L (kind_at shapes s) shape (sym is))

    pub refused_there : {L : Type 0} (m : LeafModel L) (case : ℕ → Made (Value L) L) → initial.None ≡ initial_of_kind (kind_at shapes s) → default_by m shapes case (structure_at shapes s) ≡ refused []
    refused_there m case is = by_kind (λ st. default_by m shapes case st ≡ refused []) (λ shape of. refused_of_kind m case (kind_at shapes s) shape (sym is))
