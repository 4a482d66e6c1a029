-- What the code finds at a place, in the words of the definitions.
use Rattle.std.specs.Prelude.{ℕ, ◌<◌, ◌≤◌, List, [], ◌∷◌, IsSomeAnd, Option, None, Some, length, map, slice_get}
use Rattle.std.specs.Option.{option_map_or}
use Rattle.facet_base.specs.declared.layout.ShapeId.{ShapeId}
use Rattle.facet_block.specs.declared.ptr_const.PtrConst.{PtrConst}
use Rattle.facet_block.specs.Block.{item_at, sequence_of, size_of}
use Rattle.facet_block.specs.Seq.{filled_of}
use Rattle.facet_causes.specs.Arrangement.{in_a_row, part_at, single}
use Rattle.facet_def.specs.declared.def.Def.{Def}
use Rattle.facet_def.specs.declared.def.Def.TheVariants as def
use Rattle.facet_desc.specs.declared.field.Field.{Field}
use Rattle.facet_leaf.specs.LeafModel.{LeafModel}
use Rattle.facet_outline.specs.declared.placed_fields.PlacedField.{PlacedField}
use Rattle.facet_shape.specs.declared.shape.Shape.{Shape}
use Rattle.facet_trees.specs.Structure.{Structure}
use Rattle.facet_trees.specs.declared.form.Form.{Form}
use Rattle.facet_values.specs.Place.{Place, block_places, part_places, place_in}
use Rattle.facet_values.specs.Reading.{IsReadableWithin}
use Rattle.facet_values.specs.Seen.{Seen, a_leaf, a_node, no_value, seen_by}
use Rattle.facet_walk.specs.declared.parts.Parts.{Parts}
use Rattle.facet_walk.specs.declared.parts.Parts.TheVariants as parts
use Rattle.facet_walk.specs.declared.place.Place as place
use Rattle.facet_walk.specs.declared.seeing.Seen as seeing
use Rattle.facet_walk.specs.declared.seeing.Seen.TheVariants as saw

-- a place begins in its block, or at its end
abbrev pub IsInside : {L : Type 0} → Place L → Type 0
IsInside p = p.offset ≤ size_of p.block

-- the place that a pointer points to, read by the shape under an id
abbrev pub pointed : {L : Type 0} → ShapeId → PtrConst L → Place L
pointed id at = place_in id.0 at.block.now at.offset

abbrev pub place_of : {L : Type 0} → place.Place L → Place L
place_of p = pointed p.shape p.at

-- the places of parts that lie side by side, counted from where a pointer points
abbrev pub parts_behind : {L : Type 0} → PtrConst L → List PlacedField → List (Place L)
parts_behind at body = part_places (place_in 0 at.block.now at.offset) body

-- fields with their offsets
abbrev pub placed : List Field → List PlacedField
placed fields = map (λ f. record { shape = f.shape; offset = f.offset }) fields

-- a key at the start of a block, and its value behind it
abbrev pub pair : ShapeId → ShapeId → ℕ → List PlacedField
pair key value offset = record { shape = key; offset = 0 } ∷ record { shape = value; offset = offset } ∷ []

abbrev pub places_of : {L : Type 0} → Parts L → List (Place L)
places_of parts.None = []
places_of (parts.One shape offset at) = parts_behind at (single shape offset)
places_of (parts.Fields fields at) = parts_behind at (placed fields.now)
places_of (parts.Row shape count size at) = parts_behind at (in_a_row shape count size)
places_of (parts.Elements shape blocks) = block_places (single shape 0) (filled_of blocks.now)
places_of (parts.Pairs key value offset blocks) = block_places (pair key value offset) (filled_of blocks.now)

abbrev pub seen_in : {L : Type 0} → seeing.Seen L → Seen L
seen_in (saw.Leaf x) = a_leaf x.now
seen_in (saw.Node form all) = a_node form (places_of all)

abbrev pub seen_of : {L : Type 0} → Option (seeing.Seen L) → Seen L
seen_of None = no_value
seen_of (Some found) = seen_in found

-- what is seen where a pointer points, by a structure whose parts are inline
abbrev pub seen_behind : {L : Type 0} → Structure → PtrConst L → Seen L
seen_behind structure at = seen_by [] structure (place_in 0 at.block.now at.offset) (item_at at.block.now at.offset)

-- each of the places reads as some value of so many levels at most of a shape that is there
pub record AreReadable {L : Type 0} (m : LeafModel L) (shapes : List Shape) (levels : ℕ) (places : List (Place L)) : Type 0 where
  pub each : (i : ℕ) → i < length places → IsSomeAnd (slice_get places i) (λ q. (q.shape < length shapes) × IsReadableWithin m shapes levels q)

-- the elements of an array side by side, by its definition
abbrev pub elements_in_a_row : List Shape → Def → List PlacedField
elements_in_a_row shapes (def.Array a) = in_a_row a.t a.n (part_at shapes a.t).size
elements_in_a_row shapes _ = []

-- the parts of an option under its tags, and those of a result, by the definition and the offset of the part
abbrev pub option_bodies : Def → ℕ → List (List PlacedField)
option_bodies (def.Option o) offset = [] ∷ single o.t offset ∷ []
option_bodies _ offset = []

abbrev pub result_bodies : Def → ℕ → List (List PlacedField)
result_bodies (def.Result r) offset = single r.t offset ∷ single r.e offset ∷ []
result_bodies _ offset = []

-- the shape of the elements of a list or of a set, or of what a box holds, by the definition
abbrev pub element_in : Def → Option ShapeId
element_in (def.List d) = Some d.t
element_in (def.Set d) = Some d.t
element_in (def.Pointer d) = d.pointee
element_in _ = None

-- the key and the value of a map, by its definition and the value's offset
abbrev pub pair_in : Def → ℕ → List PlacedField
pair_in (def.Map d) offset = pair d.k d.v offset
pair_in _ offset = []

-- what is seen of a sequence whose blocks have the same parts each
abbrev pub seen_in_blocks : {L : Type 0} → Form → List PlacedField → PtrConst L → Seen L
seen_in_blocks form body at = option_map_or (λ s. a_node form (block_places body (filled_of s))) (sequence_of (item_at at.block.now at.offset)) no_value
