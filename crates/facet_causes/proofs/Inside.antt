-- Where no shape has an unknown reference, edges stay within the list.
use Rattle.std.proofs.Common.{ℕ, ◌<◌, List, [], All, length, slice_get, refl, arith}
use Rattle.std.specs.Option.{option_map_or}
use Rattle.facet_causes.specs.Causes.{Meets}
use Rattle.facet_causes.specs.KeyNotOrd.{keys_of}
use Rattle.facet_causes.specs.Reading.{before_at, indices, inline_at, parts_at}
use Rattle.facet_causes.specs.declared.cause.SealCause.TheVariants as cause
use Rattle.facet_causes.proofs.Front.{before_stays, inline_stays, parts_stay, starts_front}
use Rattle.facet_causes.proofs.Sealed.{known_by}
use Rattle.facet_graph.specs.Reach.{StaysWithin}
use Rattle.facet_leaf.specs.LeafModel.{LeafModel}
use Rattle.facet_shape.specs.declared.shape.Shape.{Shape}

module _ {L : Type 0} (m : LeafModel L) (xs : List Shape) (none : (s : ℕ) → s < length xs → ¬ Meets m xs cause.UnknownShape s) where
  pub inline_inside : StaysWithin (inline_at xs) (length xs)
  inline_inside = inline_stays xs xs (omega arith) (λ s below. refl) (known_by m xs none)

  pub parts_inside : StaysWithin (parts_at xs) (length xs)
  parts_inside = parts_stay xs xs (omega arith) (λ s below. refl) (known_by m xs none)

  pub before_inside : StaysWithin (before_at xs) (length xs)
  before_inside = before_stays xs xs (omega arith) (λ s below. refl) (known_by m xs none)

  pub starts_inside : (s : ℕ) → All (λ u. u < length xs) (indices (option_map_or (keys_of xs) (slice_get xs s) []))
  starts_inside = starts_front xs xs (omega arith) (λ s below. refl) (known_by m xs none)
