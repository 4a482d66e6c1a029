-- The shapes that a shape refers to.
use Rattle.std.specs.Prelude.{◌≡◌, ℕ, ◌<◌, Bool, true, false, All, List, [], ◌∷◌, ◌++◌, if◌then◌else◌, map, Some, option_map, slice_get}
use Rattle.std.specs.List.{flat_map}
use Rattle.std.specs.Option.{option_to_list}
use Rattle.facet_base.specs.declared.layout.ShapeId.{ShapeId}
use Rattle.facet_def.specs.declared.def.Def.{Def}
use Rattle.facet_def.specs.declared.def.Def.TheVariants as def
use Rattle.facet_desc.specs.declared.attribute.AttrData.{AttrData}
use Rattle.facet_desc.specs.declared.attribute.AttrData.TheVariants as payload
use Rattle.facet_desc.specs.declared.enum_type.EnumType.{EnumType}
use Rattle.facet_desc.specs.declared.pointer.PointerType.TheVariants as pointer
use Rattle.facet_desc.specs.declared.sequence.SequenceType.TheVariants as sequence
use Rattle.facet_desc.specs.declared.struct_type.StructKind.{StructKind}
use Rattle.facet_desc.specs.declared.struct_type.StructKind.TheVariants as struct_kind
use Rattle.facet_desc.specs.declared.struct_type.StructType.{StructType}
use Rattle.facet_desc.specs.declared.ty.Ty.{Ty}
use Rattle.facet_desc.specs.declared.ty.Ty.TheVariants as ty
use Rattle.facet_desc.specs.declared.ty.UserType.TheVariants as user
use Rattle.facet_shape.specs.declared.shape.Shape.{Shape}

-- the parts of a definition: what the values consist of, or point to
abbrev pub parts_of_def : Def → List ShapeId
parts_of_def (def.Map m) = m.k ∷ m.v ∷ []
parts_of_def (def.Set s) = s.t ∷ []
parts_of_def (def.List l) = l.t ∷ []
parts_of_def (def.Array a) = a.t ∷ []
parts_of_def (def.NdArray a) = a.t ∷ []
parts_of_def (def.Slice s) = s.t ∷ []
parts_of_def (def.Option o) = o.t ∷ []
parts_of_def (def.Result r) = r.t ∷ r.e ∷ []
parts_of_def (def.Pointer p) = option_to_list p.pointee
parts_of_def _ = []

-- the strong pointer that belongs to a weak one
abbrev pub strong_of_def : Def → List ShapeId
strong_of_def (def.Pointer p) = option_to_list p.strong
strong_of_def _ = []

-- the weak pointer that belongs to a strong one
abbrev pub weak_of_def : Def → List ShapeId
weak_of_def (def.Pointer p) = option_to_list p.weak
weak_of_def _ = []

-- the parts of a sequence, a pointer or a function type
abbrev pub parts_of_type : Ty → List ShapeId
parts_of_type (ty.Sequence (sequence.Array a)) = a.t ∷ []
parts_of_type (ty.Sequence (sequence.Slice s)) = s.t ∷ []
parts_of_type (ty.Pointer (pointer.Reference p)) = p.target ∷ []
parts_of_type (ty.Pointer (pointer.Raw p)) = p.target ∷ []
parts_of_type (ty.Pointer (pointer.Function f)) = f.parameters.items ++ f.return_type ∷ []
parts_of_type _ = []

-- the fields of a struct
abbrev pub fields_of_struct : StructType → List ShapeId
fields_of_struct s = map (λ f. f.shape) s.fields.items

-- the fields of all variants of an enum
abbrev pub fields_of_enum : EnumType → List ShapeId
fields_of_enum e = flat_map (λ v. fields_of_struct v.body) e.variants.items

-- it is a tuple
abbrev pub is_tuple : StructKind → Bool
is_tuple struct_kind.Tuple = true
is_tuple _ = false

-- the fields of a tuple
abbrev pub fields_of_tuple : Ty → List ShapeId
fields_of_tuple (ty.User (user.Struct s)) = if is_tuple s.kind then fields_of_struct s else []
fields_of_tuple _ = []

-- the fields of an enum, or of a struct that is no tuple
abbrev pub fields_of_other : Ty → List ShapeId
fields_of_other (ty.User (user.Struct s)) = if is_tuple s.kind then [] else fields_of_struct s
fields_of_other (ty.User (user.Enum e)) = fields_of_enum e
fields_of_other _ = []

-- the shape that an attribute holds, if it holds one
abbrev pub shapes_in : AttrData → List ShapeId
shapes_in (payload.Shape id) = id ∷ []
shapes_in _ = []

-- the shapes of its own proxies, the general one and those of formats
abbrev pub proxies_of : Shape → List ShapeId
proxies_of s = option_to_list (option_map (λ p. p.shape) s.proxy) ++ map (λ p. p.proxy.shape) s.format_proxies.items

-- what its definition and its type refer to, and that must stand before it
unfoldable pub part_references : Shape → List ShapeId
part_references s = parts_of_def s.def ++ strong_of_def s.def ++ parts_of_type s.ty ++ fields_of_tuple s.ty

-- the references that the eager height counts: all eager ones but those of the variance
unfoldable pub height_references : Shape → List ShapeId
height_references s = map (λ p. p.shape) s.type_params.items ++ part_references s ++ option_to_list s.inner ++ option_to_list s.builder_shape ++ proxies_of s

-- the references that must stand before it
unfoldable pub eager_references : Shape → List ShapeId
eager_references s = height_references s ++ map (λ d. d.shape) s.variance.deps.items

-- the references that may stand anywhere
unfoldable pub other_references : Shape → List ShapeId
other_references s = fields_of_other s.ty ++ weak_of_def s.def ++ flat_map (λ a. shapes_in a.payload) s.attributes.items

-- all shapes that it refers to
unfoldable pub references : Shape → List ShapeId
references s = eager_references s ++ other_references s

-- each shape of a list stands behind those that must stand before it
abbrev pub LeadLower : List Shape → Type 0
LeadLower shapes = (s : ℕ) (shape : Shape) → slice_get shapes s ≡ Some shape → All (λ r. r.0 < s) (eager_references shape)
