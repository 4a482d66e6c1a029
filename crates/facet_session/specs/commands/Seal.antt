-- `seal`: seals the drafts, or drops them where one meets a cause.
use Rattle.std.specs.Prelude.{ℕ, List, [], ◌++◌, Option, None, Some, codes}
use Rattle.std.specs.Fmt.{decimal}
use Rattle.facet_causes.specs.declared.cause.SealCause.{SealCause}
use Rattle.facet_causes.specs.declared.cause.SealCause.TheVariants as cause
use Rattle.facet_causes.specs.declared.cause.SealError.{SealError}
use Rattle.facet_leaf.specs.LeafModel.{LeafModel}
use Rattle.facet_registry.specs.Registry.{all_sealed, all_shapes, without_drafts}
use Rattle.facet_verdict.specs.Verdict.{answer_of}
use Rattle.facet_verdict.proofs.Deciding.{verdict}
use Rattle.facet_session.specs.State.{State, with_registry}
use Rattle.facet_session.specs.Turn.{Turn}

-- the name of a cause
abbrev pub cause_name : SealCause → List ℕ
cause_name cause.UnknownShape = codes "UnknownShape"
cause_name cause.EagerForward = codes "EagerForward"
cause_name cause.Mismatch = codes "Mismatch"
cause_name cause.UnsizedPart = codes "UnsizedPart"
cause_name cause.InlineCycle = codes "InlineCycle"
cause_name cause.TooLarge = codes "TooLarge"
cause_name cause.BadLayout = codes "BadLayout"
cause_name cause.FieldOutside = codes "FieldOutside"
cause_name cause.FieldMisaligned = codes "FieldMisaligned"
cause_name cause.FieldOverlap = codes "FieldOverlap"
cause_name cause.ZeroSizedScalar = codes "ZeroSizedScalar"
cause_name cause.DiscriminantRepeated = codes "DiscriminantRepeated"
cause_name cause.DiscriminantRange = codes "DiscriminantRange"
cause_name cause.KeyNotOrd = codes "KeyNotOrd"
cause_name cause.CapabilityMissing = codes "CapabilityMissing"

-- the words of a refusal: the cause, and the shape that meets it
abbrev pub error_words : SealError → List ℕ
error_words error = codes "refused " ++ cause_name error.cause ++ codes " #" ++ decimal error.shape.0

-- all shapes are sealed, or the drafts are dropped
abbrev pub sealed_or_cut : {L : Type 0} → State L → Option SealError → Turn L
sealed_or_cut state None = record { state = with_registry state (all_sealed state.registry); words = codes "ok"; made = []; dropped = [] }
sealed_or_cut state (Some error) = record { state = with_registry state (without_drafts state.registry); words = error_words error; made = []; dropped = [] }

-- the command's turn
abbrev pub seal : {L : Type 0} → LeafModel L → State L → Turn L
seal m state = sealed_or_cut state (answer_of (verdict m (all_shapes state.registry)))
