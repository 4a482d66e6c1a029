-- `put NAME #SHAPE TEXT`: parses a text as a scalar of a shape, under a new name.
use Rattle.std.specs.Prelude.{ℕ, Bool, not, List, [], ◌∷◌, Option, None, Some, codes}
use Rattle.facet_base.specs.declared.characteristic.Characteristic.TheVariants as characteristic
use Rattle.facet_leaf.specs.LeafModel.{LeafModel}
use Rattle.facet_registry.specs.Registry.{kind_at, offers}
use Rattle.facet_shape.specs.declared.shape.Shape.{Shape}
use Rattle.facet_outline.specs.declared.value_kind.ValueKind.{ValueKind}
use Rattle.facet_outline.specs.declared.value_kind.ValueKind.TheVariants as kind
use Rattle.facet_trees.specs.Value.{leaf}
use Rattle.facet_values.specs.Scalars.{is_scalar}
use Rattle.facet_session.specs.Refusal.{first_refusal, is_unsealed, is_taken}
use Rattle.facet_session.specs.State.{State, with_entry}
use Rattle.facet_session.specs.Turn.{Turn, refused, refused_or}
use Rattle.facet_session.specs.declared.refusal.Refusal.{Refusal}
use Rattle.facet_session.specs.declared.refusal.Refusal.TheVariants.{NoSuchShape, Taken, WrongShape, BadText, Unsupported}

-- the refusals that come before the text is parsed, in their order, each with its condition; the kinds that the command serves are the unit and leaves
abbrev pub conditions : List Shape → Bool → ℕ → List (Bool × Refusal)
conditions shapes taken s =
    (is_unsealed shapes s, NoSuchShape)
    ∷ (taken, Taken)
    ∷ (not (is_scalar (kind_at shapes s)), WrongShape)
    ∷ (not (offers shapes s characteristic.FromStr), Unsupported)
    ∷ []

-- the leaf of a kind that a text is, if it is one; what is no leaf is never parsed
abbrev pub parsed_as : {L : Type 0} → LeafModel L → ValueKind → List ℕ → Option L
parsed_as m (kind.Leaf k) text = m.parsed k text
parsed_as m _ text = None

-- the leaf that a text is, as a new entry
abbrev pub add_parsed : {L : Type 0} → State L → List ℕ → ℕ → Option L → Turn L
add_parsed state name s None = refused state BadText
add_parsed state name s (Some x) =
    record { state = with_entry state (record { name = name; shape = s; value = leaf x }); words = codes "ok"; made = x ∷ []; dropped = [] }

-- the command's turn
abbrev pub put : {L : Type 0} → LeafModel L → State L → List ℕ → ℕ → List ℕ → Turn L
put m state name s text =
    refused_or state (first_refusal (conditions state.registry.sealed (is_taken state name) s)) (add_parsed state name s (parsed_as m (kind_at state.registry.sealed s) text))
