-- The text that names the leaves of a value in an answer.
use Rattle.std.specs.Prelude.{ℕ, List, ◌++◌, codes}
use Rattle.std.specs.List.{flat_map}
use Rattle.facet_leaf.specs.LeafModel.{LeafModel}

-- for each leaf a comma, a space and its debug text
abbrev pub leaves_text : {L : Type 0} → LeafModel L → List L → List ℕ
leaves_text m xs = flat_map (λ x. codes ", " ++ m.debug x) xs
