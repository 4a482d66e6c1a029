-- Keys of maps and items of sets, what a lookup among them finds, and how many comparisons it takes.
use Rattle.std.specs.Prelude.{◌≡◌, ◌⊎◌, ℕ, suc, ◌+◌, ◌*◌, ◌^◌, ◌<◌, ◌≤◌, Bool, false, List, [], map, position, Option, None, Some, Result, Ok, Err, ok_or, slice_get}
use Rattle.std.specs.List.{count_by, list_any}
use Rattle.std.specs.Ordering.{is_eq, is_lt, is_some_and}
use Rattle.std.specs.declared.cmp.Ordering.{Ordering}
use Rattle.facet_block.specs.declared.block.Block.{Block}
use Rattle.facet_contain.specs.Parts.{part_shape, parts_of}
use Rattle.facet_leaf.specs.LeafModel.{LeafModel}
use Rattle.facet_outline.specs.declared.value_kind.ValueKind.TheVariants as kind
use Rattle.facet_registry.specs.Registry.{kind_at}
use Rattle.facet_shape.specs.declared.shape.Shape.{Shape}
use Rattle.facet_trees.specs.Ascending.{AreAscending, keys_of}
use Rattle.facet_trees.specs.Order.{Answer, by_total, ordering}
use Rattle.facet_trees.specs.Value.{Value, leaf, node}
use Rattle.facet_trees.specs.declared.form.Form.TheVariants as form
use Rattle.facet_values.specs.Place.{start_of}
use Rattle.facet_values.specs.Reading.{IsReadable, value_at}

-- the shape is a map or a set
abbrev pub HasKeys : List Shape → ℕ → Type 0
HasKeys shapes s = (kind_at shapes s ≡ kind.Map) ⊎ (kind_at shapes s ≡ kind.Set)

-- the shape of the keys of a map, or of the items of a set: that of the first part
abbrev pub key_shape : List Shape → ℕ → ℕ
key_shape shapes s = part_shape shapes s form.Map 0

-- the keys of a map or the items of a set, in order
abbrev pub keys_in : {L : Type 0} → Value L → List (Value L)
keys_in (leaf x) = []
keys_in (node form parts) = keys_of form parts

-- the keys that stand at the starts of blocks
abbrev pub keys_at : {L : Type 0} → List Shape → ℕ → List (Block L) → List (Value L)
keys_at shapes s blocks = map (λ block. value_at shapes 100 (start_of s block)) blocks

-- the answer of a comparison is an order that passes a test
abbrev pub is_ordered_as : (Ordering → Bool) → Answer → Bool
is_ordered_as test (Some order) = is_some_and test order
is_ordered_as test None = false

module _ {L : Type 0} (m : LeafModel L) (shapes : List Shape) (s : ℕ) where
  -- equal, and less, by the total order of the values of a shape
  abbrev pub is_equal : Value L → Value L → Bool
  is_equal v w = is_ordered_as is_eq (ordering m shapes by_total s v w)

  abbrev pub is_less : Value L → Value L → Bool
  is_less v w = is_ordered_as is_lt (ordering m shapes by_total s v w)

  -- some of the keys is equal to the key
  abbrev pub has_key : Value L → List (Value L) → Bool
  has_key key keys = list_any (λ k. is_equal k key) keys

  -- the index of the equal key, or else how many keys are less
  abbrev pub found_among : Value L → List (Value L) → Result ℕ ℕ
  found_among key keys = ok_or (position (λ k. is_equal k key) keys) (count_by (λ k. is_less k key) keys)

  -- a key stands at the start of each block, and they are ascending
  pub record AreKeys (blocks : List (Block L)) : Type 0 where
    pub readable : (i : ℕ) (block : Block L) → slice_get blocks i ≡ Some block → IsReadable m shapes (start_of s block)
    pub ascending : AreAscending m shapes s (keys_at shapes s blocks)

-- the part of a map that belongs to the key that was found
abbrev pub value_found : {L : Type 0} → Result ℕ ℕ → Value L → Option (Value L)
value_found (Ok i) v = slice_get (parts_of v) (suc (2 * i))
value_found (Err i) v = None

-- a count of comparisons rose by a number of steps such as a search by halves among so many keys takes: at least one where there are keys
pub record RisesByHalving (keys before after : ℕ) : Type 0 where
  pub steps : ℕ
  pub counted : after ≡ before + steps
  pub most : 2 ^ steps ≤ 2 * keys + 1
  pub least : 0 < keys → 0 < steps
