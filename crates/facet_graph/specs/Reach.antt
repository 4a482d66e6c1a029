-- Ways along the edges of a graph. `edges s` lists the nodes to which an edge leads from the node s.
use Rattle.std.specs.Prelude.{◌≡◌, ℕ, ◌<◌, Bool, true, List, [], ◌∷◌, Contains, cond, nat_lt}

-- from a, one edge after another leads through the nodes of the way, of which b is the last
abbrev pub Leads : (ℕ → List ℕ) → ℕ → List ℕ → ℕ → Type 0
Leads edges a [] b = a ≡ b
Leads edges a (next ∷ way) b = Contains (edges a) next × Leads edges next way b

-- b is reached from a by zero or more edges
pub record Reaches (edges : ℕ → List ℕ) (a b : ℕ) : Type 0 where
  pub way : List ℕ
  pub leads : Leads edges a way b

-- a is reached from itself by one or more edges
pub record ReachesItself (edges : ℕ → List ℕ) (a : ℕ) : Type 0 where
  pub next : ℕ
  pub edge : Contains (edges a) next
  pub back : Reaches edges next a

-- from a some bad node is reached by zero or more edges
pub record ReachesBad (edges : ℕ → List ℕ) (bad : ℕ → Bool) (a : ℕ) : Type 0 where
  pub node : ℕ
  pub reached : Reaches edges a node
  pub is_bad : bad node ≡ true

-- no edge leads out of the first n nodes
abbrev pub StaysWithin : (ℕ → List ℕ) → ℕ → Type 0
StaysWithin edges n = (s t : ℕ) → s < n → Contains (edges s) t → t < n

-- the edges of the nodes from the first on
abbrev pub edges_from : ℕ → (ℕ → List ℕ) → ℕ → List ℕ
edges_from first edges s = cond (nat_lt s first) [] (edges s)
