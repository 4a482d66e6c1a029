-- How the parts of the values of a shape lie: what holds of each shape that meets no cause, in the form in which walks need it.
use Rattle.std.specs.Prelude.{◌≡◌, ℕ, ◌+◌, ◌<◌, ◌≤◌, Bool, true, false, All, AllPairs, List, [], ◌∷◌, length}
use Rattle.facet_block.specs.Span.{IsApart, span}
use Rattle.facet_outline.specs.declared.placed_fields.PlacedField.{PlacedField}
use Rattle.facet_registry.specs.Registry.{size_at}
use Rattle.facet_shape.specs.declared.shape.Shape.{Shape}
use Rattle.facet_trees.specs.Structure.{Structure, plain, scalar, sequence, tagged, block_body, block_size, structure_at}
use Rattle.facet_values.specs.Reading.{own_span, part_spans}

-- the lists of inline parts of the values of a structure, each of which lies side by side in one value
abbrev pub bodies_of : Structure → List (List PlacedField)
bodies_of (plain form body) = body ∷ []
bodies_of (tagged forms bodies) = bodies
bodies_of _ = []

-- the values begin with an item of their own
abbrev pub has_own_item : Structure → Bool
has_own_item (scalar k) = true
has_own_item (tagged forms bodies) = true
has_own_item (sequence form ids) = true
has_own_item _ = false

module _ (shapes : List Shape) where
  -- each part is of a shape that is there, and ends within so many bytes; no two of them share a byte
  pub record LieApart (size : ℕ) (body : List PlacedField) : Type 0 where
    pub known : All (λ part. part.shape.0 < length shapes) body
    pub inside : All (λ part. part.offset + size_at shapes part.shape.0 ≤ size) body
    pub apart : AllPairs IsApart (part_spans shapes body)

  -- no part shares the first byte, where the tag lies
  abbrev pub LieBesideTag : List PlacedField → Type 0
  LieBesideTag body = All (λ part. IsApart own_span (span part.offset (size_at shapes part.shape.0))) body

  -- what a block of a sequence holds lies apart in it
  abbrev pub HoldsApart : Structure → Type 0
  HoldsApart (sequence form ids) = LieApart (block_size shapes ids) (block_body shapes ids)
  HoldsApart _ = Unit {0}

  -- what lies behind a tag lies beside it
  abbrev pub LiesBehindTag : Structure → Type 0
  LiesBehindTag (tagged forms bodies) = All LieBesideTag bodies
  LiesBehindTag _ = Unit {0}

  pub record IsLaidOut (s : ℕ) : Type 0 where
    -- an item of the value's own has a byte
    pub own : has_own_item (structure_at shapes s) ≡ true → 0 < size_at shapes s
    pub bodies : All (LieApart (size_at shapes s)) (bodies_of (structure_at shapes s))
    pub beside : LiesBehindTag (structure_at shapes s)
    pub blocks : HoldsApart (structure_at shapes s)
