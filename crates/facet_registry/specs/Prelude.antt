-- The shapes that every registry begins with.
use Rattle.std.specs.Prelude.{ℕ, ◌+◌, Bool, true, false, List, [], ◌∷◌, Option, None, Some, codes}
use Rattle.std.specs.Option.{option_or}
use Rattle.facet_base.specs.Fnv.{fnv, fnv_start}
use Rattle.facet_base.specs.ScalarType.{identifier_of}
use Rattle.facet_base.specs.declared.characteristic.Characteristic.TheVariants as trait
use Rattle.facet_base.specs.declared.scalar_type.ScalarType.{ScalarType}
use Rattle.facet_base.specs.declared.scalar_type.ScalarType.TheVariants as scalar
use Rattle.facet_caps.specs.EmptyRecords.{empty_direct}
use Rattle.facet_caps.specs.declared.type_ops.TypeOps.TheVariants as ops
use Rattle.facet_caps.specs.declared.type_ops.TypeOpsDirect.{TypeOpsDirect}
use Rattle.facet_caps.specs.declared.vtable.VTableDirect.{VTableDirect}
use Rattle.facet_caps.specs.declared.vtable_erased.VTableErased.TheVariants as erased
use Rattle.facet_def.specs.declared.def.Def.TheVariants as def
use Rattle.facet_desc.specs.declared.primitive.NumericType.TheVariants as numeric
use Rattle.facet_desc.specs.declared.primitive.PrimitiveType.TheVariants as primitive
use Rattle.facet_desc.specs.declared.primitive.TextualType.TheVariants as textual
use Rattle.facet_desc.specs.declared.ty.Ty.{Ty}
use Rattle.facet_desc.specs.declared.ty.Ty.TheVariants as ty
use Rattle.facet_desc.specs.declared.ty.UserType.TheVariants as user
use Rattle.facet_leaf.specs.LeafModel.{LeafModel}
use Rattle.facet_leaf.specs.declared.hook.LeafHook.TheVariants as hook
pub use Rattle.facet_outline.specs.Layout.{scalar_layout}
use Rattle.facet_shape.specs.ShapeBuilder.{fresh_shape}
use Rattle.facet_shape.specs.declared.shape.Shape.{Shape}
use Rattle.facet_registry.specs.Registry.{Registry}

-- a whole number
abbrev pub whole : Bool → Ty
whole signed = ty.Primitive (primitive.Numeric (numeric.Integer signed))

-- the type of the scalars of a kind
abbrev pub scalar_ty : ScalarType → Ty
scalar_ty scalar.Unit = ty.User user.Opaque
scalar_ty scalar.String = ty.User user.Opaque
scalar_ty scalar.Bool = ty.Primitive primitive.Boolean
scalar_ty scalar.Char = ty.Primitive (primitive.Textual textual.Char)
scalar_ty scalar.Str = ty.Primitive (primitive.Textual textual.Str)
scalar_ty scalar.I8 = whole true
scalar_ty scalar.I16 = whole true
scalar_ty scalar.I32 = whole true
scalar_ty scalar.I64 = whole true
scalar_ty scalar.I128 = whole true
scalar_ty scalar.ISize = whole true
scalar_ty _ = whole false

-- all seven markers, for a String without COPY
abbrev pub scalar_markers : ScalarType → ℕ
scalar_markers scalar.String = 126
scalar_markers _ = 127

-- the module of the type, where it isn't built in
abbrev pub scalar_module : ScalarType → Option (List ℕ)
scalar_module scalar.String = Some (codes "alloc::string")
scalar_module _ = None

-- a shape in that module, where there is one
abbrev pub in_module : ScalarType → Shape → Shape
in_module k s = record s { module_path = option_or (scalar_module k) s.module_path }

-- the kinds of the sixteen scalars, in the order of their ids
abbrev pub prelude_kinds : List ScalarType
prelude_kinds =
    scalar.Unit ∷ scalar.Bool ∷ scalar.Char ∷ scalar.String
    ∷ scalar.U8 ∷ scalar.U16 ∷ scalar.U32 ∷ scalar.U64 ∷ scalar.U128 ∷ scalar.USize
    ∷ scalar.I8 ∷ scalar.I16 ∷ scalar.I32 ∷ scalar.I64 ∷ scalar.I128 ∷ scalar.ISize
    ∷ []

module _ {L : Type 0} (m : LeafModel L) where
  -- what can be asked of the scalars of a kind: of the unit its equality, order, hash and debug text, of leaves what the leaf semantics say
  abbrev pub scalar_vtable : ScalarType → VTableDirect
  scalar_vtable scalar.Unit = record empty_direct { debug = true; hash = true; partial_eq = true; partial_cmp = true; cmp = true }
  scalar_vtable k =
      record empty_direct {
        display = m.can k trait.Display;
        debug = m.can k trait.Debug;
        hash = m.can k trait.Hash;
        invariants = m.hook k hook.Invariants;
        parse = m.can k trait.FromStr;
        parse_bytes = m.hook k hook.ParseBytes;
        try_from = m.hook k hook.TryFrom;
        partial_eq = m.can k trait.PartialEq;
        partial_cmp = m.can k trait.PartialOrd;
        cmp = m.can k trait.Ord;
      }

  -- whether they have a default and clones, and count as true or not
  abbrev pub scalar_ops : ScalarType → TypeOpsDirect
  scalar_ops scalar.Unit = record { drop_in_place = false; default_in_place = true; clone_into = true; is_truthy = false }
  scalar_ops k =
      record { drop_in_place = false; default_in_place = m.can k trait.Default; clone_into = m.can k trait.Clone; is_truthy = m.hook k hook.Truthy }

  -- a shape with the members of the scalars of a kind
  abbrev pub with_scalar : ScalarType → Shape → Shape
  with_scalar k s =
      record s {
        layout = scalar_layout k;
        vtable = erased.Direct (scalar_vtable k);
        type_ops = Some (ops.Direct (scalar_ops k));
        marker_traits = record { bits = scalar_markers k };
        ty = scalar_ty k;
        def = def.Scalar;
        scalar = Some k;
        module_path = option_or (scalar_module k) s.module_path;
      }

  -- the shape of the scalars of a kind, under an id: what follows from the kind, and nothing else set
  unfoldable pub scalar_shape : ℕ → ScalarType → Shape
  scalar_shape id k =
      record (fresh_shape (identifier_of k) (scalar_layout k)) {
        id = record { 0 = id };
        decl_id = record { 0 = fnv fnv_start (identifier_of k) };
        vtable = erased.Direct (scalar_vtable k);
        type_ops = Some (ops.Direct (scalar_ops k));
        marker_traits = record { bits = scalar_markers k };
        ty = scalar_ty k;
        def = def.Scalar;
        module_path = scalar_module k;
        scalar = Some k;
      }

  -- the shapes of the scalars of these kinds, under the ids from one on
  abbrev pub scalar_shapes : ℕ → List ScalarType → List Shape
  scalar_shapes id [] = []
  scalar_shapes id (k ∷ kinds) = scalar_shape id k ∷ scalar_shapes (id + 1) kinds

  -- the sixteen scalars, sealed
  unfoldable pub prelude : Registry
  prelude = record { sealed = scalar_shapes 0 prelude_kinds; drafts = [] }
