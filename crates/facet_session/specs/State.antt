-- What a session stands for: a registry, and named values, which know no offsets.
use Rattle.std.specs.Prelude.{ℕ, List, [], ◌∷◌, ◌++◌}
use Rattle.std.specs.List.{flat_map}
use Rattle.facet_leaf.specs.LeafModel.{LeafModel}
use Rattle.facet_registry.specs.Prelude.{prelude}
use Rattle.facet_registry.specs.Registry.{Registry}
use Rattle.facet_trees.specs.Value.{Value, leaves}

-- a named value of a shape
pub record Entry (L : Type 0) : Type 0 where
  pub name : List ℕ
  pub shape : ℕ
  pub value : Value L

-- the registry, and the entries in order of creation
pub record State (L : Type 0) : Type 0 where
  pub registry : Registry
  pub entries : List (Entry L)

-- the prelude, and no entry
abbrev pub first_state : {L : Type 0} → LeafModel L → State L
first_state m = record { registry = prelude m; entries = [] }

-- the state over another registry
abbrev pub with_registry : {L : Type 0} → State L → Registry → State L
with_registry state registry = record { registry = registry; entries = state.entries }

-- the state with a new entry, the last one
abbrev pub with_entry : {L : Type 0} → State L → Entry L → State L
with_entry state entry = record { registry = state.registry; entries = state.entries ++ entry ∷ [] }

-- the leaves of all values, in order of creation
abbrev pub leaves_of_entries : {L : Type 0} → List (Entry L) → List L
leaves_of_entries entries = flat_map (λ entry. leaves entry.value) entries
