-- What a declaration declares: a shape to draft, or why there is none.
use Rattle.std.specs.Prelude.{◌<◌, ◌≤◌, ⊤, Bool, not, List, [], ◌∷◌, length, Option, None, Some, Result, Ok, Err, if◌then◌else◌, nat_le}
use Rattle.std.specs.List.{list_any}
use Rattle.facet_base.specs.declared.layout.ShapeId.{ShapeId}
use Rattle.facet_base.specs.declared.layout.ShapeLayout.TheVariants.{Unsized}
use Rattle.facet_declaration.specs.declared.declaration.Decl.{Decl}
use Rattle.facet_declaration.specs.declared.declaration.Decl.TheVariants as decl
use Rattle.facet_declare.specs.Described.{enum_described, opaque_described, scalar_described, struct_described}
use Rattle.facet_declare.specs.Options.{options_of}
use Rattle.facet_declare.specs.declared.refusal.DeclarationRefusal.{DeclarationRefusal}
use Rattle.facet_declare.specs.declared.refusal.DeclarationRefusal.TheVariants.{NoSuchShape, WrongShape, MissingDeclId}
use Rattle.facet_desc.specs.declared.struct_type.StructKind.TheVariants as kind
use Rattle.facet_leaf.specs.LeafModel.{LeafModel}
use Rattle.facet_makers.specs.Makers.{array_shape, box_shape, boxed_slice_shape, list_shape, map_shape, option_shape, result_shape, set_shape, slice_shape, tuple_shape}
use Rattle.facet_makers.specs.Slices.{is_slice_at}
use Rattle.facet_outline.specs.Layout.{sized}
use Rattle.facet_registry.specs.Offsets.{part_at}
use Rattle.facet_registry.specs.Registry.{Registry, all_shapes, with_draft}
use Rattle.facet_shape.specs.ShapeBuilder.{built}
use Rattle.facet_shape.specs.declared.shape.Shape.{Shape}

-- the shape that is to be drafted, or the refusal
pub data Declared : Type 0 where
  drafted : Shape → Declared
  refused : DeclarationRefusal → Declared

-- a tuple has 1 to 12 parts
abbrev pub HasPartsOfTuple : Decl → Type 0
HasPartsOfTuple (decl.TupleOf ts) = (0 < length ts) × (length ts ≤ 12)
HasPartsOfTuple _ = ⊤

-- what the builder builds, which is refused where it needs a declaration id
abbrev pub declared_type : Option Shape → Declared
declared_type None = refused MissingDeclId
declared_type (Some s) = drafted s

-- no shape has the id, drafts included
abbrev pub is_missing : List Shape → ShapeId → Bool
is_missing shapes id = nat_le (length shapes) id.0

-- a shape over others, which must be there
abbrev pub over : List Shape → List ShapeId → Declared → Declared
over shapes ids declared = if list_any (is_missing shapes) ids then refused NoSuchShape else declared

-- a shape over one that must be of another definition
abbrev pub unless : Bool → Declared → Declared
unless wrong declared = if wrong then refused WrongShape else declared

module _ {L : Type 0} (m : LeafModel L) (shapes : List Shape) where
  -- by the form of the declaration
  abbrev pub declared_by : Decl → Declared
  declared_by (decl.OptionOf t) = over shapes (t ∷ []) (drafted (option_shape m t (part_at shapes t)))
  declared_by (decl.ListOf t) = over shapes (t ∷ []) (drafted (list_shape m t))
  declared_by (decl.SetOf t) = over shapes (t ∷ []) (drafted (set_shape m t))
  declared_by (decl.SliceOf t) = over shapes (t ∷ []) (drafted (slice_shape m t))
  declared_by (decl.BoxOf t) = over shapes (t ∷ []) (unless (is_slice_at shapes t.0) (drafted (box_shape m t)))
  declared_by (decl.BoxedSliceOf t) = over shapes (t ∷ []) (unless (not (is_slice_at shapes t.0)) (drafted (boxed_slice_shape m t)))
  declared_by (decl.ArrayOf t n) = over shapes (t ∷ []) (drafted (array_shape m t n (part_at shapes t)))
  declared_by (decl.MapOf k v) = over shapes (k ∷ v ∷ []) (drafted (map_shape m k v (part_at shapes k) (part_at shapes v)))
  declared_by (decl.ResultOf t e) = over shapes (t ∷ e ∷ []) (drafted (result_shape m t e (part_at shapes t) (part_at shapes e)))
  declared_by (decl.TupleOf ts) = over shapes ts (drafted (tuple_shape (part_at shapes) ts))
  declared_by (decl.Struct name size align caps options fields) = declared_type (built (struct_described kind.Struct name size align caps (options_of options) fields))
  declared_by (decl.TupleStruct name size align caps options fields) = declared_type (built (struct_described kind.TupleStruct name size align caps (options_of options) fields))
  declared_by (decl.Enum name size align r caps options variants) = declared_type (built (enum_described name size align r caps (options_of options) variants))
  declared_by (decl.Opaque name size align options) = declared_type (built (opaque_described name (sized size align) (options_of options)))
  declared_by (decl.OpaqueUnsized name options) = declared_type (built (opaque_described name Unsized (options_of options)))
  declared_by (decl.Scalar name k size align caps) = declared_type (built (scalar_described name k size align caps))

-- the id of the draft, or the refusal
abbrev pub answer_to : Registry → Declared → Result ShapeId DeclarationRefusal
answer_to registry (drafted s) = Ok (record { 0 = length (all_shapes registry) })
answer_to registry (refused refusal) = Err refusal

-- the registry with the draft; a refusal changes nothing
abbrev pub with_declared : Registry → Declared → Registry
with_declared registry (drafted s) = with_draft registry s
with_declared registry (refused refusal) = registry
