-- What sealing a list of shapes comes to.
use Rattle.std.specs.Prelude.{List, Option, None, Some}
use Rattle.facet_causes.specs.Causes.{IsWellFormed}
use Rattle.facet_causes.specs.First.{IsFirstCause}
use Rattle.facet_causes.specs.declared.cause.SealError.{SealError}
use Rattle.facet_leaf.specs.LeafModel.{LeafModel}
use Rattle.facet_shape.specs.declared.shape.Shape.{Shape}

module _ {L : Type 0} (m : LeafModel L) (shapes : List Shape) where
  -- the shapes are well formed, or some cause comes first
  pub data Verdict : Type 0 where
    well_formed : IsWellFormed m shapes → Verdict
    first_cause : (error : SealError) → IsFirstCause m shapes error.cause error.shape.0 → Verdict

-- the cause that a verdict names, and the shape that meets it
unfoldable pub answer_of : {L : Type 0} {m : LeafModel L} {shapes : List Shape} → Verdict m shapes → Option SealError
answer_of (well_formed is) = None
answer_of (first_cause error first) = Some error
