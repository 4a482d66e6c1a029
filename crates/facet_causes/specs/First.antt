-- The first cause that some shape meets.
use Rattle.std.specs.Prelude.{ℕ, ◌<◌, List, Some, length, ⊤}
use Rattle.facet_causes.specs.Causes.{Meets, rank}
use Rattle.facet_causes.specs.declared.cause.SealCause.{SealCause}
use Rattle.facet_causes.specs.declared.cause.SealCause.TheVariants as cause
use Rattle.facet_causes.specs.declared.cause.SealFault.{SealFault}
use Rattle.facet_causes.specs.declared.cause.SealFault.TheVariants as fault
use Rattle.facet_graph.specs.Least.{IsLeast}
use Rattle.facet_leaf.specs.LeafModel.{LeafModel}
use Rattle.facet_shape.specs.declared.shape.Shape.{Shape}

module _ {L : Type 0} (m : LeafModel L) (shapes : List Shape) where
  -- no shape meets one of the first n causes
  abbrev pub NoneBelow : ℕ → Type 0
  NoneBelow n = (c : SealCause) (s : ℕ) → rank c < n → s < length shapes → ¬ Meets m shapes c s

  -- no shape meets a cause before this one
  abbrev pub NoneBefore : SealCause → Type 0
  NoneBefore c = NoneBelow (rank c)

  -- none of the first n shapes meets a cause
  abbrev pub NoneOfFirst : ℕ → Type 0
  NoneOfFirst n = (c : SealCause) (s : ℕ) → s < n → ¬ Meets m shapes c s

  -- s is the least shape that meets the cause, and no shape meets an earlier one
  pub record IsFirstCause (c : SealCause) (s : ℕ) : Type 0 where
    pub none_before : NoneBefore c
    pub least : IsLeast (Meets m shapes c) (length shapes) (Some s)

  -- a refusal names the first cause
  abbrev pub Explains : SealFault → Type 0
  Explains (fault.Refused error) = IsFirstCause error.cause error.shape.0
  Explains fault.NoMemory = ⊤

-- the cause is seen on the shape, what it refers to and their layouts, without a search
abbrev pub IsLocal : SealCause → Type 0
IsLocal cause.InlineCycle = ⊥
IsLocal cause.TooLarge = ⊥
IsLocal cause.KeyNotOrd = ⊥
IsLocal _ = ⊤
