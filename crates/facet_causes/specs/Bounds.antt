-- How large the values of a shape are, and how deep their parts lie. It holds of each shape of a list that is well formed.
use Rattle.std.specs.Prelude.{◌≡◌, ℕ, suc, ◌<◌, ◌≤◌, Bool, true, false, Contains, List}
use Rattle.facet_causes.specs.Reading.{inline_at, kind_in, repeated_at}
use Rattle.facet_causes.specs.TooLarge.{each_counts}
use Rattle.facet_graph.specs.Cost.{cost}
use Rattle.facet_graph.specs.Height.{IsWithin}
use Rattle.facet_outline.specs.Layout.{part_layout}
use Rattle.facet_outline.specs.declared.value_kind.ValueKind.{ValueKind}
use Rattle.facet_outline.specs.declared.value_kind.ValueKind.TheVariants as kind
use Rattle.facet_shape.specs.declared.shape.Shape.{Shape}

-- the values of the kind begin with an item of their own: a leaf, a tag or a sequence
abbrev pub has_own_item : ValueKind → Bool
has_own_item kind.Unit = false
has_own_item kind.Struct = false
has_own_item kind.Array = false
has_own_item kind.NoValue = false
has_own_item _ = true

module _ (shapes : List Shape) where
  -- the values take at most 65,536 bytes, and are with all parts that lie one in another at most 65,536 values
  pub record IsBounded (s : ℕ) (shape : Shape) : Type 0 where
    pub bytes : (part_layout shape.layout).size ≤ 65536
    pub values : cost (repeated_at shapes) each_counts 100 s ≤ 65536

  -- at most 100 values lie one in another, and each inline part has one level less than what it lies in
  pub record HeightFalls (s : ℕ) : Type 0 where
    pub most : IsWithin (inline_at shapes) 100 s
    pub falls : (k part : ℕ) → IsWithin (inline_at shapes) (suc k) s → Contains (inline_at shapes s) part → IsWithin (inline_at shapes) k part

  -- where the values begin with an item of their own, there is a byte for it
  abbrev pub OwnItemHasByte : Shape → Type 0
  OwnItemHasByte shape = has_own_item (kind_in shapes shape) ≡ true → 0 < (part_layout shape.layout).size
