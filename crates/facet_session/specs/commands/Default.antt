-- `default NAME #SHAPE`: makes the default of a shape, under a new name.
use Rattle.std.specs.Prelude.{ℕ, Bool, List, [], ◌∷◌}
use Rattle.facet_leaf.specs.LeafModel.{LeafModel}
use Rattle.facet_make.specs.Default.{default_case}
use Rattle.facet_shape.specs.declared.shape.Shape.{Shape}
use Rattle.facet_session.specs.Made.{add_made}
use Rattle.facet_session.specs.Refusal.{first_refusal, is_unsealed, is_taken}
use Rattle.facet_session.specs.State.{State}
use Rattle.facet_session.specs.Turn.{Turn, refused_or}
use Rattle.facet_session.specs.declared.refusal.Refusal.{Refusal}
use Rattle.facet_session.specs.declared.refusal.Refusal.TheVariants.{NoSuchShape, Taken}

-- the refusals that come before anything is made, in their order, each with its condition; the command serves all kinds
abbrev pub conditions : List Shape → Bool → ℕ → List (Bool × Refusal)
conditions shapes taken s = (is_unsealed shapes s, NoSuchShape) ∷ (taken, Taken) ∷ []

-- the command's turn; the default of a sealed shape has at most 100 levels
abbrev pub default : {L : Type 0} → LeafModel L → State L → List ℕ → ℕ → Turn L
default m state name s =
    refused_or state (first_refusal (conditions state.registry.sealed (is_taken state name) s)) (add_made state name s (default_case m state.registry.sealed 100 s))
