-- The hash writes of a value of a shape.
use Rattle.std.specs.Prelude.{ℕ, pos, Bool, true, false, ◌&&◌, if◌then◌else◌, List, [], ◌∷◌, ◌++◌}
use Rattle.facet_base.specs.declared.characteristic.Characteristic.TheVariants as trait
use Rattle.facet_base.specs.declared.scalar_type.ScalarType.TheVariants as kind
use Rattle.facet_leaf.specs.LeafModel.{LeafModel}
use Rattle.facet_leaf.specs.hashing.HashWrite.{HashWrite, number}
use Rattle.facet_registry.specs.Registry.{offers}
use Rattle.facet_shape.specs.declared.shape.Shape.{Shape}
use Rattle.facet_trees.specs.Answered.{rank_at}
use Rattle.facet_trees.specs.Structure.{Structure, no_values, sequence, part_shapes, structure_at}
use Rattle.facet_trees.specs.Value.{Value, Values, leaf, node, more, count}
use Rattle.facet_trees.specs.declared.form.Form.{Form}
use Rattle.facet_trees.specs.declared.form.Form.TheVariants as form

-- the writes, in order, and whether they are all; they end where a part has no hash
pub record HashWrites : Type 0 where
  pub writes : List HashWrite
  pub finished : Bool

abbrev pub finished_with : List HashWrite → HashWrites
finished_with writes = record { writes = writes; finished = true }

-- no writes, since there is no hash
abbrev pub no_hash : HashWrites
no_hash = record { writes = []; finished = false }

-- the first writes, and behind them the others where the first are finished
abbrev pub writes_then : HashWrites → HashWrites → HashWrites
writes_then first others = if first.finished then record { writes = first.writes ++ others.writes; finished = others.finished } else first

-- a hash is answered by the structure: of containers by that of a box alone
abbrev pub is_hashable : Structure → Bool
is_hashable no_values = false
is_hashable (sequence form.Box ids) = true
is_hashable (sequence _ ids) = false
is_hashable _ = true

module _ {L : Type 0} (m : LeafModel L) (shapes : List Shape) where
  -- what is written of a form before its parts: the discriminant of a variant, and the tag of an option and of a result; of the others nothing
  abbrev pub form_writes : ℕ → Form → List HashWrite
  form_writes s (form.Variant k) = number kind.I64 (rank_at shapes s (form.Variant k)) ∷ []
  form_writes s form.Absent = number kind.U8 (pos 0) ∷ []
  form_writes s form.Present = number kind.U8 (pos 1) ∷ []
  form_writes s form.Ok = number kind.U8 (pos 0) ∷ []
  form_writes s form.Err = number kind.U8 (pos 1) ∷ []
  form_writes s _ = []

  unfoldable mutual
    -- where the shape has a hash, those of the leaf, or of the form and then of the parts
    pub hash_writes : ℕ → Value L → HashWrites
    hash_writes s (leaf x) = if offers shapes s trait.Hash && is_hashable (structure_at shapes s) then finished_with (m.writes x) else no_hash
    hash_writes s (node form vs) =
        if offers shapes s trait.Hash && is_hashable (structure_at shapes s)
        then writes_then (finished_with (form_writes s form)) (hash_writes_of_parts (part_shapes (structure_at shapes s) form (count vs)) vs) else no_hash

    -- those of the parts in order, each by its shape, up to the first that has no hash
    pub hash_writes_of_parts : List ℕ → Values L → HashWrites
    hash_writes_of_parts (s ∷ ss) (more v vs) = writes_then (hash_writes s v) (hash_writes_of_parts ss vs)
    hash_writes_of_parts _ _ = finished_with []
