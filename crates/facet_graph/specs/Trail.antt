-- The nodes that a search has marked.
use Rattle.std.specs.Prelude.{◌≡◌, ◌||◌, ◌==◌, ℕ, Bool, true, false, List, length, slice_index_or}
use Rattle.std.specs.List.{list_any}
use Rattle.facet_graph.specs.Marks.{IsUnmarked}

-- the node stands on the trail
abbrev pub is_on : List ℕ → ℕ → Bool
is_on trail s = list_any (λ t. t == s) trail

-- the trail has the nodes that are marked now and weren't before, and no mark is gone
pub record IsTrail (old new : List Bool) (trail : List ℕ) : Type 0 where
  pub len : length new ≡ length old
  pub marks : (s : ℕ) → slice_index_or new s false ≡ (slice_index_or old s false || is_on trail s)
  pub fresh : (s : ℕ) → is_on trail s ≡ true → IsUnmarked old s
