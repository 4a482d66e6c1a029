-- The clone of a value of a shape.
use Rattle.std.specs.Prelude.{ℕ, Bool, true, false, ◌&&◌, if◌then◌else◌, List, [], ◌∷◌}
use Rattle.facet_base.specs.declared.characteristic.Characteristic.TheVariants as trait
use Rattle.facet_leaf.specs.LeafModel.{LeafModel}
use Rattle.facet_registry.specs.Registry.{offers}
use Rattle.facet_shape.specs.declared.shape.Shape.{Shape}
use Rattle.facet_trees.specs.Structure.{part_shapes, structure_at}
use Rattle.facet_trees.specs.Value.{Value, Values, count, leaf, node, none, more}
use Rattle.facet_trees.specs.declared.form.Form.{Form}
use Rattle.facet_trees.specs.declared.form.Form.TheVariants as form
use Rattle.facet_make.specs.Made.{Made, made, refused, in_order, node_of}

-- units, structs, arrays and enums are cloned; options, results and containers are not
abbrev pub is_cloned : Form → Bool
is_cloned form.Unit = true
is_cloned form.Record = true
is_cloned form.Array = true
is_cloned (form.Variant k) = true
is_cloned _ = false

module _ {L : Type 0} (m : LeafModel L) (shapes : List Shape) where
  unfoldable mutual
    -- without the capability there is none
    pub clone_case : ℕ → Value L → Made (Value L) L
    clone_case s (leaf x) = if offers shapes s trait.Clone then made (leaf (m.cloned x)) else refused []
    clone_case s (node form vs) =
        if offers shapes s trait.Clone && is_cloned form
        then node_of form (in_order none (clone_cases (part_shapes (structure_at shapes s) form (count vs)) vs)) else refused []

    -- those of the parts in order, each by its shape
    pub clone_cases : List ℕ → Values L → List (Made (Value L) L)
    clone_cases (s ∷ ss) (more v vs) = clone_case s v ∷ clone_cases ss vs
    clone_cases _ _ = []
