-- The default of a shape.
use Rattle.std.specs.Prelude.{ℕ, zero, suc, if◌then◌else◌, List, [], map}
use Rattle.std.specs.Option.{option_map_or}
use Rattle.facet_base.specs.declared.characteristic.Characteristic.TheVariants as trait
use Rattle.facet_leaf.specs.LeafModel.{LeafModel}
use Rattle.facet_registry.specs.Registry.{offers}
use Rattle.facet_shape.specs.declared.shape.Shape.{Shape}
use Rattle.facet_trees.specs.Structure.{Structure, no_values, plain, scalar, sequence, tagged, structure_at}
use Rattle.facet_trees.specs.Value.{Value, leaf, node, none}
use Rattle.facet_trees.specs.declared.form.Form.{Form}
use Rattle.facet_trees.specs.declared.form.Form.TheVariants as form
use Rattle.facet_make.specs.Made.{Made, made, refused, in_order, node_of}

-- an option is absent, and lists, maps and sets are empty; enums, results, boxed slices and boxes have no default
abbrev pub empty_of : {L : Type 0} → Form → Made (Value L) L
empty_of form.Absent = made (node form.Absent none)
empty_of form.List = made (node form.List none)
empty_of form.Map = made (node form.Map none)
empty_of form.Set = made (node form.Set none)
empty_of _ = refused []

module _ {L : Type 0} (m : LeafModel L) (shapes : List Shape) where
  -- by the structure, and by the defaults of the inline parts
  abbrev pub default_by : (ℕ → Made (Value L) L) → Structure → Made (Value L) L
  default_by case no_values = refused []
  default_by case (scalar k) = option_map_or (λ x. made (leaf x)) (m.default_of k) (refused [])
  default_by case (plain form body) = node_of form (in_order none (map (λ part. case part.shape.0) body))
  default_by case (tagged forms bodies) = empty_of (forms 0)
  default_by case (sequence form ids) = empty_of form

  -- the default of a shape whose inline parts nest at most so many levels deep; without the capability there is none
  unfoldable pub default_case : ℕ → ℕ → Made (Value L) L
  default_case zero s = refused []
  default_case (suc levels) s = if offers shapes s trait.Default then default_by (default_case levels) (structure_at shapes s) else refused []
