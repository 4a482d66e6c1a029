-- The edges of a graph that lists them, without those that lead out of it.
use Rattle.std.proofs.Common.{◌≡◌, ℕ, ◌<◌, Bool, true, List, Contains, map, subst}
use Rattle.std.specs.List.{filter}
use Rattle.std.proofs.lemmas.List.Elements.{All-map, filter_passes}

pub listed_stays : {A E : Type 0} (edge : A → E) (node : E → ℕ) (n : ℕ) (p : ℕ → A → Bool) → ((s : ℕ) (a : A) → p s a ≡ true → node (edge a) < n)
    → (xs : List A) (s t : ℕ) → s < n → Contains (map node (map edge (filter (p s) xs))) t → t < n
listed_stays edge node n p inside xs s t below (i, under, at) =
    subst (λ u. u < n) at (All-map (λ u. u < n) node (map edge (filter (p s) xs)) (All-map (λ e. node e < n) edge (filter (p s) xs) (λ k d passed. inside s _ (filter_passes (p s) xs k d passed))) i t under)
