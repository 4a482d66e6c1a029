-- Heights and costs of shapes, by the entries of their tables.
use Rattle.std.proofs.Common.{◌≡◌, ℕ, zero, suc, ◌<◌, List, [], ◌∷◌, Option, None, Some, get_or, length, slice_get, take, sym, ap, ◌∙◌, subst, arith}
use Rattle.std.proofs.lemmas.List.{get_or-take}
use Rattle.facet_causes.specs.Reading.{OfShape}
use Rattle.facet_graph.specs.Height.{AreLow, IsHeightEntry, IsLow, IsWithin}
use Rattle.facet_graph.specs.Least.{IsLeast}
use Rattle.facet_shape.specs.declared.shape.Shape.{Shape}

pub within_by : (edges : ℕ → List ℕ) (s e : ℕ) → IsHeightEntry edges s e → 0 < e → IsWithin edges 100 s
within_by edges s zero entry some = absurd (omega arith)
within_by edges s (suc e) entry some = (entry.1 100).1 entry.0

-- a table that begins with another has its entries
pub entry_begins : {A : Type 0} (n : ℕ) (old new : List A) → take n new ≡ old → (s : ℕ) (d : A) → s < n → get_or old s d ≡ get_or new s d
entry_begins n old new begins s d below = ap (λ xs. get_or xs s d) (sym begins) ∙ get_or-take n new s d below

pub low_begins : (edges : ℕ → List ℕ) (n : ℕ) (old new : List ℕ) → take n new ≡ old → AreLow edges n old → AreLow edges n new
low_begins edges n old new begins low s below = subst (IsLow edges s) (entry_begins n old new begins s 0 below) (low s below)

-- what holds of each shape holds of the one under an id
pub of_each : (P : Shape → Type 0) → ((shape : Shape) → P shape) → (xs : List Shape) (s : ℕ) → s < length xs → OfShape P (slice_get xs s)
of_each P each [] s below = absurd (omega arith)
of_each P each (x ∷ xs) zero below = each x
of_each P each (x ∷ xs) (suc s) below = of_each P each xs s (omega arith)

-- what is found of ids is found of the shapes under them
pub of_any : (X : Type 0) (o : Option Shape) → OfShape (λ _. X) o → X
of_any X None none = absurd none
of_any X (Some shape) holds = holds

pub least_of_shapes : (P : ℕ → Type 0) (xs : List Shape) (o : Option ℕ) → IsLeast P (length xs) o → IsLeast (λ s. OfShape (λ _. P s) (slice_get xs s)) (length xs) o
least_of_shapes P xs None none = λ s below holds. none s below (of_any (P s) (slice_get xs s) holds)
least_of_shapes P xs (Some s) least = (least.0, of_each (λ _. P s) (λ _. least.1) xs s least.0, λ t before holds. least.2 t before (of_any (P t) (slice_get xs t) holds))
