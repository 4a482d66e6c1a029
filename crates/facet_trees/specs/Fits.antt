-- What the values of a shape have in common: their leaves, forms and the shapes of their parts.
use Rattle.std.specs.Prelude.{◌≡◌, ℕ, ◌<◌, List, [], ◌∷◌, length}
use Rattle.facet_leaf.specs.LeafModel.{LeafModel}
use Rattle.facet_shape.specs.declared.shape.Shape.{Shape}
use Rattle.facet_trees.specs.Structure.{Structure, plain, scalar, sequence, tagged, part_shapes, structure_at, tag_of_form}
use Rattle.facet_trees.specs.Value.{Value, Values, leaf, node, none, more, count}
use Rattle.facet_trees.specs.declared.form.Form.{Form}

-- values of the structure can be of the form
abbrev pub HasForm : Structure → Form → Type 0
HasForm (plain own body) form = form ≡ own
HasForm (tagged forms bodies) form = (tag_of_form form < length bodies) × (form ≡ forms (tag_of_form form))
HasForm (sequence own ids) form = form ≡ own
HasForm _ form = ⊥

module _ {L : Type 0} (m : LeafModel L) (shapes : List Shape) where
  abbrev mutual
    -- the leaf is of the shape's kind, or the form is one of the shape's and the parts fit the shapes that stand for it
    pub Fits : ℕ → Value L → Type 0
    Fits s (leaf x) = structure_at shapes s ≡ scalar (m.kind x)
    Fits s (node form vs) = HasForm (structure_at shapes s) form × AllFit (part_shapes (structure_at shapes s) form (count vs)) vs

    -- there are as many parts as shapes, and each fits its shape
    pub AllFit : List ℕ → Values L → Type 0
    AllFit [] none = Unit {0}
    AllFit (s ∷ ss) (more v vs) = Fits s v × AllFit ss vs
    AllFit _ _ = ⊥
