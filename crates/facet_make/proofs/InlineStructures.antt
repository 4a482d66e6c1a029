-- The inline parts of a structure are inline parts of the shape, and an option that is absent has none.
use Rattle.std.proofs.Common.{◌≡◌, ℕ, List, [], All, Contains, Option, None, Some, slice_get, unwrap_or, refl, sym, subst}
use Rattle.std.specs.Option.{option_map_or}
use Rattle.std.proofs.lemmas.List.Elements.{All-nil}
use Rattle.facet_base.proofs.Lists.{All_at}
use Rattle.facet_base.specs.declared.known_pointer.KnownPointer.{KnownPointer}
use Rattle.facet_base.specs.declared.known_pointer.KnownPointer.TheVariants as known
use Rattle.facet_base.specs.declared.layout.ShapeId.{ShapeId}
use Rattle.facet_base.specs.declared.layout.ShapeLayout.{ShapeLayout}
use Rattle.facet_base.specs.declared.scalar_type.ScalarType.{ScalarType}
use Rattle.facet_base.specs.declared.scalar_type.ScalarType.TheVariants as scalar
use Rattle.facet_causes.proofs.PartsKnown.{placed_are_inline}
use Rattle.facet_causes.specs.Arrangement.{arrangements, arrangements_of_kind}
use Rattle.facet_causes.specs.KnownParts.{PlacedAreInline}
use Rattle.facet_causes.specs.Reading.{element_of, indices, inline_at, inline_of, kind_in, layout_at}
use Rattle.facet_def.specs.declared.def.Def.{Def}
use Rattle.facet_def.specs.declared.def.Def.TheVariants as def
use Rattle.facet_desc.specs.declared.ty.Ty.{Ty}
use Rattle.facet_desc.specs.declared.ty.Ty.TheVariants as ty
use Rattle.facet_desc.specs.declared.ty.UserType.TheVariants as user
use Rattle.facet_outline.specs.Part.{inline_parts}
use Rattle.facet_outline.specs.ValueKind.{kind_by_def, kind_by_scalar, kind_by_type, kind_of, kind_of_box, kind_of_pointer}
use Rattle.facet_outline.specs.declared.placed_fields.PlacedField.{PlacedField}
use Rattle.facet_outline.specs.declared.value_kind.ValueKind.{ValueKind}
use Rattle.facet_outline.specs.declared.value_kind.ValueKind.TheVariants as kind
use Rattle.facet_shape.specs.declared.shape.Shape.{Shape}
use Rattle.facet_trees.proofs.PartShapes.{contains_index}
use Rattle.facet_trees.specs.Structure.{Structure, no_values, plain, tagged, body_under, structure_at, structure_of_kind}
use Rattle.facet_trees.specs.declared.form.Form.{Form}
use Rattle.facet_trees.specs.declared.form.Form.TheVariants as form

-- each part that lies beside others, and behind no tag, is of a shape of which this holds
abbrev pub AllInline : (ℕ → Type 0) → Structure → Type 0
AllInline P (plain form body) = All (λ part. P part.shape.0) body
AllInline P _ = Unit {0}

-- under the tag of an absent option there are no parts; other forms than those of an option, a result or an enum have no tag
abbrev pub IsBare : Form → List (List PlacedField) → Type 0
IsBare form.Absent bodies = slice_get bodies 0 ≡ Some []
IsBare (form.Variant _) bodies = Unit {0}
IsBare form.Ok bodies = Unit {0}
IsBare _ bodies = ⊥

abbrev pub FirstIsBare : Structure → Type 0
FirstIsBare (tagged forms bodies) = IsBare (forms 0) bodies
FirstIsBare _ = Unit {0}

-- a shape whose values are options says so by its definition
abbrev Fits : ValueKind → Def → Type 0
Fits kind.Option (def.Option o) = Unit {0}
Fits kind.Option _ = ⊥
Fits _ d = Unit {0}

fits_type : (d : Def) (t : Ty) → Fits (kind_by_type t) d
fits_type d (ty.User (user.Struct s)) = tt
fits_type d (ty.User (user.Enum e)) = tt
fits_type d _ = tt

fits_box : (element : Option ShapeId) (d : Def) → Fits (kind_of_box element) d
fits_box (Some id) d = tt
fits_box None d = tt

fits_pointer : (element : Option ShapeId) (pointer : Option KnownPointer) (d : Def) → Fits (kind_of_pointer element pointer) d
fits_pointer element (Some known.Box) d = fits_box element d
fits_pointer element _ d = tt

fits_def : (element : Option ShapeId) (d : Def) (t : Ty) → Fits (kind_by_def element d t) d
fits_def element (def.Pointer p) t = fits_pointer element p.known (def.Pointer p)
fits_def element def.Undefined t = fits_type def.Undefined t
fits_def element _ t = tt

fits_scalar : (k : Option ScalarType) (element : Option ShapeId) (d : Def) (t : Ty) → Fits (kind_by_scalar k element d t) d
fits_scalar (Some scalar.Str) element d t = fits_def element d t
fits_scalar None element d t = fits_def element d t
fits_scalar (Some _) element d t = tt

fits : (element : Option ShapeId) (s : Shape) → Fits (kind_of element s) s.def
fits element s = fits_scalar s.scalar element s.def s.ty

bare_option : (layouts : ShapeId → ShapeLayout) (d : Def) (t : Ty) → Fits kind.Option d → slice_get (arrangements_of_kind layouts kind.Option d t) 0 ≡ Some []
bare_option layouts (def.Option o) t fit = refl
bare_option layouts _ t fit = absurd fit

all_under : (P : PlacedField → Type 0) (bodies : List (List PlacedField)) (tag : ℕ) → All (All P) bodies → All P (body_under bodies tag)
all_under P bodies tag all = go (slice_get bodies tag) refl
  where
    go : (o : Option (List PlacedField)) → slice_get bodies tag ≡ o → All P (unwrap_or o [])
    go None is = All-nil P
    go (Some body) is = All_at (All P) bodies tag body all is

module _ (shapes : List Shape) where
  module _ (s : ℕ) (shape : Shape) (here : slice_get shapes s ≡ Some shape) where
    abbrev own_inline : List ShapeId
    own_inline = inline_parts (element_of shapes shape.def) shape

    of_body : (tag : ℕ) → All (λ part. Contains (indices own_inline) part.shape.0) (body_under (arrangements shapes shape) tag)
    of_body tag =
        all_under (λ part. Contains (indices own_inline) part.shape.0) (arrangements shapes shape) tag
        (λ i ps under j part within. contains_index own_inline _ (All_at (PlacedAreInline shapes) shapes s shape (placed_are_inline shapes) here i ps under j part within))

    of_kind : (k : ValueKind) → AllInline (Contains (indices own_inline)) (structure_of_kind shapes k shape)
    of_kind kind.Unit = All-nil (λ (part : PlacedField). Contains (indices own_inline) part.shape.0)
    of_kind kind.Struct = of_body 0
    of_kind kind.Array = of_body 0
    of_kind _ = tt

  -- the parts that lie beside others, and behind no tag, are inline parts of the shape
  pub inline_of_structure : (s : ℕ) → AllInline (Contains (inline_at shapes s)) (structure_at shapes s)
  unfolding structure_at inline_of
  inline_of_structure s = go (slice_get shapes s) refl
    where
      go : (o : Option Shape) → slice_get shapes s ≡ o
          → AllInline (Contains (indices (option_map_or (λ shape. inline_parts (element_of shapes shape.def) shape) o []))) (option_map_or (λ shape. structure_of_kind shapes (kind_in shapes shape) shape) o no_values)
      go None is = tt
      go (Some shape) is = of_kind s shape is (kind_in shapes shape)

  bare_of_kind : (k : ValueKind) (shape : Shape) → kind_in shapes shape ≡ k → FirstIsBare (structure_of_kind shapes k shape)
  unfolding arrangements
  bare_of_kind kind.Option shape is =
      subst (λ k. slice_get (arrangements_of_kind (layout_at shapes) k shape.def shape.ty) 0 ≡ Some []) (sym is)
      (bare_option (layout_at shapes) shape.def shape.ty (subst (λ k. Fits k shape.def) is (fits (element_of shapes shape.def) shape)))
  bare_of_kind _ shape is = tt

  -- under the first tag there are no parts, where it is that of an absent option
  pub first_is_bare : (s : ℕ) → FirstIsBare (structure_at shapes s)
  unfolding structure_at
  first_is_bare s = go (slice_get shapes s)
    where
      go : (o : Option Shape) → FirstIsBare (option_map_or (λ shape. structure_of_kind shapes (kind_in shapes shape) shape) o no_values)
      go None = tt
      go (Some shape) = bare_of_kind (kind_in shapes shape) shape refl
