-- What is known of each shape of a list that is well formed: it meets no cause, and what it refers to is there.
use Rattle.std.proofs.Common.{◌≡◌, ℕ, Bool, false, List, All, Some, get_or, slice_get, sym, ◌∙◌, subst}
use Rattle.std.specs.List.{list_any}
use Rattle.std.proofs.lemmas.Bool.{false≢true, false_from_ne_true}
use Rattle.std.proofs.lemmas.List.Folds.{list_any_at}
use Rattle.std.proofs.lemmas.Option.{slice_get-get_or, slice_get_within}
use Rattle.facet_causes.specs.Causes.{IsWellFormed, ShapeMeets}
use Rattle.facet_causes.specs.Reading.{OfShape}
use Rattle.facet_causes.specs.declared.cause.SealCause.{SealCause}
use Rattle.facet_causes.specs.declared.cause.SealCause.TheVariants as cause
use Rattle.facet_causes.proofs.Front.{AreKnown}
use Rattle.facet_causes.proofs.Sealed.{known_by}
use Rattle.facet_leaf.specs.LeafModel.{LeafModel}
use Rattle.facet_shape.specs.declared.shape.Shape.{Shape}

-- what holds of the shape under each id holds of all
pub each_shape : (shapes : List Shape) (P : Shape → Type 0) → ((s : ℕ) (shape : Shape) → slice_get shapes s ≡ Some shape → P shape) → All P shapes
each_shape shapes P each = λ i d below. each i (get_or shapes i d) (slice_get-get_or shapes i d below)

-- where a test fails of some elements it fails of each
pub fails_of_each : {X : Type 0} (p : X → Bool) (xs : List X) → list_any p xs ≡ false → All (λ x. p x ≡ false) xs
fails_of_each p xs none i d below = false_from_ne_true (p (get_or xs i d)) (λ met. false≢true (sym none ∙ list_any_at p xs i d below met))

module _ {L : Type 0} (m : LeafModel L) (shapes : List Shape) (well : IsWellFormed m shapes) where
  pub none_met : (c : SealCause) (s : ℕ) (shape : Shape) → slice_get shapes s ≡ Some shape → ¬ ShapeMeets m shapes c s shape
  none_met c s shape is met = well c s (slice_get_within shapes s shape is) (subst (OfShape (ShapeMeets m shapes c s)) (sym is) met)

  pub all_known : AreKnown shapes
  all_known = known_by m shapes (well cause.UnknownShape)
