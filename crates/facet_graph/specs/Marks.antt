-- A mark for each node, kept from one search to the next.
use Rattle.std.specs.Prelude.{◌≡◌, ℕ, Bool, true, false, List, slice_index_or}
use Rattle.facet_graph.specs.Reach.{ReachesBad}

-- the node is marked
abbrev pub IsMarked : List Bool → ℕ → Type 0
IsMarked marks s = slice_index_or marks s false ≡ true

-- the node isn't marked
abbrev pub IsUnmarked : List Bool → ℕ → Type 0
IsUnmarked marks s = slice_index_or marks s false ≡ false

-- from no marked node is a bad node reached. Nothing is said of unmarked nodes
abbrev pub AreClean : (ℕ → List ℕ) → (ℕ → Bool) → List Bool → Type 0
AreClean edges bad marks = (s : ℕ) → IsMarked marks s → ¬ ReachesBad edges bad s

-- each mark is still there
abbrev pub AreKept : List Bool → List Bool → Type 0
AreKept old new = (s : ℕ) → IsMarked old s → IsMarked new s
