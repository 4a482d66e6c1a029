-- The names of shapes: the pieces of a name, and whole names over a list of shapes.
use Rattle.std.specs.Prelude.{◌≡◌, ℕ, zero, suc, ◌+◌, ℤ, pos, negsuc, Bool, true, false, List, [], ◌∷◌, ◌++◌, length, take, map, if◌then◌else◌, Option, None, Some, option_map, slice_get, codes}
use Rattle.std.specs.Fmt.{decimal}
use Rattle.std.specs.List.{flat_map, sum_by}
use Rattle.std.specs.Option.{option_map_or}
use Rattle.facet_base.specs.declared.layout.ShapeId.{ShapeId}
use Rattle.facet_base.specs.declared.type_name.NameForm.{NameForm}
use Rattle.facet_base.specs.declared.type_name.NameForm.TheVariants as form
use Rattle.facet_base.specs.declared.type_name.TypeNameOpts.{TypeNameOpts}
use Rattle.facet_def.specs.declared.def.Def.{Def}
use Rattle.facet_def.specs.declared.def.Def.TheVariants as def
use Rattle.facet_desc.specs.declared.ty.Ty.{Ty}
use Rattle.facet_desc.specs.declared.ty.Ty.TheVariants as ty
use Rattle.facet_desc.specs.declared.ty.UserType.TheVariants as user
use Rattle.facet_outline.specs.References.{fields_of_struct, is_tuple}
use Rattle.facet_shape.specs.declared.shape.Shape.{Shape}

-- a piece of a name: bytes of its own, or the name of another shape
pub data NamePiece : Type 0 where
  own_text : List ℕ → NamePiece
  child : ShapeId → NamePiece

-- the character … in UTF-8
abbrev pub ellipsis : List ℕ
ellipsis = 226 ∷ 128 ∷ 166 ∷ []

-- pieces with a comma and a space between each two
abbrev pub listed : List NamePiece → List NamePiece
listed [] = []
listed (piece ∷ pieces) = piece ∷ flat_map (λ p. own_text (codes ", ") ∷ p ∷ []) pieces

-- the name of a child, or … where children aren't shown
abbrev pub child_piece : Bool → ShapeId → NamePiece
child_piece true id = child id
child_piece false id = own_text ellipsis

-- the first n parameters, or one … for all of them
abbrev pub parameter_pieces : ℕ → Bool → List ShapeId → List NamePiece
parameter_pieces n true parameters = listed (map child (take n parameters))
parameter_pieces n false parameters = own_text ellipsis ∷ []

-- a word, and the first n parameters in angle brackets
abbrev pub generic_name : List ℕ → ℕ → Bool → List ShapeId → List NamePiece
generic_name word n shown parameters = own_text word ∷ own_text (codes "<") ∷ parameter_pieces n shown parameters ++ own_text (codes ">") ∷ []

-- the element and the number of an array
abbrev pub array_name : Bool → Def → List NamePiece
array_name shown (def.Array a) = own_text (codes "[") ∷ child_piece shown a.t ∷ own_text (codes "; ") ∷ own_text (decimal a.n) ∷ own_text (codes "]") ∷ []
array_name shown _ = own_text (codes "[?; ?]") ∷ []

-- the element of a slice
abbrev pub slice_name : Bool → Def → List NamePiece
slice_name shown (def.Slice s) = own_text (codes "[") ∷ child_piece shown s.t ∷ own_text (codes "]") ∷ []
slice_name shown _ = own_text (codes "[?]") ∷ []

-- the fields of a tuple: a single one has a comma behind it
abbrev pub field_pieces : List NamePiece → List NamePiece
field_pieces (piece ∷ []) = piece ∷ own_text (codes ",") ∷ []
field_pieces pieces = listed pieces

-- the fields of a tuple in brackets, each shown or as …
abbrev pub bracketed : Bool → List ShapeId → List NamePiece
bracketed shown ids = own_text (codes "(") ∷ field_pieces (map (child_piece shown) ids) ++ own_text (codes ")") ∷ []

-- the name of a tuple
abbrev pub tuple_name : Bool → Ty → List NamePiece
tuple_name shown (ty.User (user.Struct s)) = if is_tuple s.kind then bracketed shown (fields_of_struct s) else own_text (codes "(?)") ∷ []
tuple_name shown _ = own_text (codes "(?)") ∷ []

-- the shapes of its type parameters
abbrev pub parameters_of : Shape → List ShapeId
parameters_of s = map (λ p. p.shape) s.type_params.items

-- the pieces of a name of such a form, by the words of the form
abbrev pub form_pieces : NameForm → Bool → Shape → List NamePiece
form_pieces form.Vec shown s = generic_name (codes "Vec") 1 shown (parameters_of s)
form_pieces form.Option shown s = generic_name (codes "Option") 1 shown (parameters_of s)
form_pieces form.Result shown s = generic_name (codes "Result") 2 shown (parameters_of s)
form_pieces form.Map shown s = generic_name (codes "BTreeMap") 2 shown (parameters_of s)
form_pieces form.Set shown s = generic_name (codes "BTreeSet") 1 shown (parameters_of s)
form_pieces form.Box shown s = generic_name (codes "Box") 1 shown (parameters_of s)
form_pieces form.Array shown s = array_name shown s.def
form_pieces form.Slice shown s = slice_name shown s.def
form_pieces form.Tuple shown s = tuple_name shown s.ty

-- the pieces of the name of a shape, with its children shown or not: without a form it is the identifier
unfoldable pub name_pieces : Bool → Shape → List NamePiece
name_pieces shown s = option_map_or (λ f. form_pieces f shown s) s.type_name (own_text s.type_identifier ∷ [])

-- how many bytes a piece has of its own
abbrev pub own_bytes : NamePiece → ℕ
own_bytes (own_text bytes) = length bytes
own_bytes (child id) = 0

-- the child, where the piece is one
abbrev pub child_of : NamePiece → List ShapeId
child_of (own_text bytes) = []
child_of (child id) = id ∷ []

-- how many bytes of the full name aren't those of a child
unfoldable pub own_name_bytes : Shape → ℕ
own_name_bytes s = sum_by own_bytes (name_pieces true s)

-- the children of the full name in order
unfoldable pub name_children : Shape → List ShapeId
name_children s = flat_map child_of (name_pieces true s)

-- the bytes of a piece, where `name` gives those of the children
abbrev pub piece_bytes : (ShapeId → List ℕ) → NamePiece → List ℕ
piece_bytes name (own_text bytes) = bytes
piece_bytes name (child id) = name id

-- the bytes of pieces one behind the other
abbrev pub bytes_of : (ShapeId → List ℕ) → List NamePiece → List ℕ
bytes_of name pieces = flat_map (piece_bytes name) pieces

-- how many levels the children show, where they are shown: all where all are shown, else one less
abbrev pub levels_below : ℤ → Option ℤ
levels_below (pos zero) = None
levels_below (pos (suc less)) = Some (pos less)
levels_below (negsuc n) = Some (negsuc n)

-- the options for children, where they are shown
abbrev pub for_children : TypeNameOpts → Option TypeNameOpts
for_children opts = option_map (λ levels. record { recurse_ttl = levels }) (levels_below opts.recurse_ttl)

-- the name of a shape under options, where `name` gives the names of its children
abbrev pub name_under : (TypeNameOpts → ShapeId → List ℕ) → Option TypeNameOpts → Shape → List ℕ
name_under name None s = bytes_of (λ id. []) (name_pieces false s)
name_under name (Some opts) s = bytes_of (name opts) (name_pieces true s)

module _ (shapes : List Shape) where
  -- the full name of the shape under an id, k levels deep: below these nothing is written
  unfoldable pub full_name : ℕ → ShapeId → List ℕ
  full_name zero id = []
  full_name (suc k) id = option_map_or (λ s. bytes_of (λ c. full_name k c) (name_pieces true s)) (slice_get shapes id.0) []

  -- the name under options, k levels deep
  unfoldable pub name_text : ℕ → TypeNameOpts → ShapeId → List ℕ
  name_text zero opts id = []
  name_text (suc k) opts id = option_map_or (λ s. name_under (λ o c. name_text k o c) (for_children opts) s) (slice_get shapes id.0) []

  -- the full name has no more than k levels: deeper ones add nothing
  abbrev pub IsWhole : ℕ → ShapeId → Type 0
  IsWhole k id = (deeper : ℕ) → full_name (k + deeper) id ≡ full_name k id
