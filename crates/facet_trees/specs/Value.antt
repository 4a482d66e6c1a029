-- Values as trees, without offsets, tags, capacities or layouts.
use Rattle.std.specs.Prelude.{ℕ, suc, max, List, [], ◌∷◌, ◌++◌}
use Rattle.facet_trees.specs.declared.form.Form.{Form}

mutual
  -- a leaf, or a form and the parts in order; a map's parts are key, value, key, value
  pub data Value (L : Type 0) : Type 0 where
    leaf : L → Value L
    node : Form → Values L → Value L

  pub data Values (L : Type 0) : Type 0 where
    none : Values L
    more : Value L → Values L → Values L

abbrev mutual
  -- the number of levels: 1 without parts, else 1 and the greatest of the parts'
  pub depth : {L : Type 0} → Value L → ℕ
  depth (leaf x) = 1
  depth (node form parts) = suc (greatest_depth parts)

  pub greatest_depth : {L : Type 0} → Values L → ℕ
  greatest_depth none = 0
  greatest_depth (more v vs) = max (depth v) (greatest_depth vs)

abbrev mutual
  -- the leaves in the order in which they are dropped
  pub leaves : {L : Type 0} → Value L → List L
  leaves (leaf x) = x ∷ []
  leaves (node form parts) = leaves_of_parts parts

  pub leaves_of_parts : {L : Type 0} → Values L → List L
  leaves_of_parts none = []
  leaves_of_parts (more v vs) = leaves v ++ leaves_of_parts vs

-- how many parts there are
abbrev pub count : {L : Type 0} → Values L → ℕ
count none = 0
count (more v vs) = suc (count vs)

-- the parts as a list
abbrev pub listed : {L : Type 0} → Values L → List (Value L)
listed none = []
listed (more v vs) = v ∷ listed vs

-- every second part, from the first on: the keys, where the parts are key, value, key, value
abbrev pub every_second : {L : Type 0} → Values L → List (Value L)
every_second none = []
every_second (more k none) = k ∷ []
every_second (more k (more v rest)) = k ∷ every_second rest
