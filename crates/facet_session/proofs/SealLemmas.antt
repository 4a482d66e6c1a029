-- The turns of `seal`.
use Rattle.std.proofs.Common.{◌≡◌, ◌≢◌, ℕ, Option, List, [], ◌∷◌, ◌++◌, None, Some, codes, refl, sym, ap, ◌∙◌, subst, arith, length-append}
use Rattle.std.specs.Fmt.{decimal}
use Rattle.std.proofs.lemmas.List.Elements.{All-append}
use Rattle.facet_causes.specs.Causes.{IsWellFormed}
use Rattle.facet_causes.specs.First.{IsFirstCause}
use Rattle.facet_causes.specs.declared.cause.SealCause.{SealCause}
use Rattle.facet_causes.specs.declared.cause.SealCause.TheVariants as cause
use Rattle.facet_causes.specs.declared.cause.SealError.{SealError}
use Rattle.facet_leaf.specs.OneLine.{IsOneLine}
use Rattle.facet_leaf.proofs.OneLines.{number}
use Rattle.facet_leaf.specs.LeafModel.{LeafModel}
use Rattle.facet_registry.proofs.SealedReadings.{size_stays}
use Rattle.facet_registry.specs.Registry.{all_sealed, all_shapes, without_drafts}
use Rattle.facet_registry.specs.WellFormed.{IsRegistry}
use Rattle.facet_shape.specs.declared.shape.Shape.{Shape}
use Rattle.facet_values.proofs.StayingReading.{reads_longer}
use Rattle.facet_values.specs.Place.{start_of}
use Rattle.facet_verdict.specs.Verdict.{answer_of}
use Rattle.facet_verdict.proofs.Deciding.{verdict}
use Rattle.facet_verdict.proofs.Naming.{first_named, none_named}
use Rattle.facet_session.specs.declared.session.Answer.{Answer}
use Rattle.facet_session.specs.declared.session.Cell.{Cell}
use Rattle.facet_session.specs.declared.session.Session.{Session}
use Rattle.facet_session.specs.Session.{CarriesOut, ShowEntries, Shows, ShowsEntry}
use Rattle.facet_session.specs.State.{Entry, State}
use Rattle.facet_session.specs.commands.Seal.{cause_name, error_words, seal, sealed_or_cut}
use Rattle.facet_session.proofs.TurnLaws.{TurnLaws, one_line}
use Rattle.facet_session.proofs.TurnLemmas.{words_carried}

module _ {L : Type 0} (m : LeafModel L) where
  module _ (sealed drafts : List Shape) (well : IsWellFormed m sealed) where
    entry_longer : (cell : Cell L) (entry : Entry L) → ShowsEntry m sealed cell entry → ShowsEntry m (sealed ++ drafts) cell entry
    entry_longer cell entry shown = record {
      name = shown.name;
      shape = shown.shape;
      sealed = let all = length-append sealed drafts in let below = shown.sealed in omega (arith, all, below);
      size = shown.size ∙ sym (size_stays m sealed drafts well entry.shape shown.sealed);
      reads = reads_longer m sealed drafts well (start_of entry.shape cell.block) entry.value shown.sealed shown.reads;
      shallow = shown.shallow;
    }

    -- entries stay when drafts are sealed
    entries_longer : (cells : List (Cell L)) (entries : List (Entry L)) → ShowEntries m sealed cells entries → ShowEntries m (sealed ++ drafts) cells entries
    entries_longer [] [] shown = shown
    entries_longer [] (e ∷ es) shown = shown
    entries_longer (c ∷ cs) [] shown = shown
    entries_longer (c ∷ cs) (e ∷ es) shown = (entry_longer c e shown.0, entries_longer cs es shown.1)

  module _ (before now : Session L) (answer : Answer) (cells : now.cells.items ≡ before.cells.items) (empty : now.log.leaves ≡ []) (state : State L) (shown : Shows m before state) where
    pub seal_carried : IsRegistry m before.shapes → IsWellFormed m (all_shapes before.shapes) → now.shapes ≡ all_sealed before.shapes
        → answer ≡ record { text = codes "ok"; made = 0; dropped = 0 } → CarriesOut m now answer (seal m state)
    seal_carried is well shapes same =
        let registry = state.registry in
        let sealed = subst (λ r. IsWellFormed m r.sealed) shown.registry is.well_formed in
        let all = subst (λ r. IsWellFormed m (all_shapes r)) shown.registry well in
        let shows = entries_longer registry.sealed registry.drafts sealed before.cells.items state.entries shown.cells in
        subst (λ found. CarriesOut m now answer (sealed_or_cut state found)) (sym (none_named m (all_shapes registry) (verdict m (all_shapes registry)) all))
        (words_carried m now answer (codes "ok") (record { registry = all_sealed registry; entries = state.entries }) empty same
        (record { registry = shapes ∙ ap all_sealed shown.registry; cells = subst (λ cs. ShowEntries m (all_shapes registry) cs state.entries) (sym cells) shows }))

    pub cut_carried : (error : SealError) → IsFirstCause m (all_shapes before.shapes) error.cause error.shape.0 → now.shapes ≡ without_drafts before.shapes
        → answer ≡ record { text = error_words error; made = 0; dropped = 0 } → CarriesOut m now answer (seal m state)
    cut_carried error first shapes same =
        let registry = state.registry in
        let cause = subst (λ r. IsFirstCause m (all_shapes r) error.cause error.shape.0) shown.registry first in
        subst (λ found. CarriesOut m now answer (sealed_or_cut state found)) (sym (first_named m (all_shapes registry) (verdict m (all_shapes registry)) error cause))
        (words_carried m now answer (error_words error) (record { registry = without_drafts registry; entries = state.entries }) empty same
        (record { registry = shapes ∙ ap without_drafts shown.registry; cells = subst (λ cs. ShowEntries m registry.sealed cs state.entries) (sym cells) shown.cells }))

-- the name of a cause is one line
cause_line : (c : SealCause) → IsOneLine (cause_name c)
cause_line cause.UnknownShape = one_line (codes "UnknownShape") refl
cause_line cause.EagerForward = one_line (codes "EagerForward") refl
cause_line cause.Mismatch = one_line (codes "Mismatch") refl
cause_line cause.UnsizedPart = one_line (codes "UnsizedPart") refl
cause_line cause.InlineCycle = one_line (codes "InlineCycle") refl
cause_line cause.TooLarge = one_line (codes "TooLarge") refl
cause_line cause.BadLayout = one_line (codes "BadLayout") refl
cause_line cause.FieldOutside = one_line (codes "FieldOutside") refl
cause_line cause.FieldMisaligned = one_line (codes "FieldMisaligned") refl
cause_line cause.FieldOverlap = one_line (codes "FieldOverlap") refl
cause_line cause.ZeroSizedScalar = one_line (codes "ZeroSizedScalar") refl
cause_line cause.DiscriminantRepeated = one_line (codes "DiscriminantRepeated") refl
cause_line cause.DiscriminantRange = one_line (codes "DiscriminantRange") refl
cause_line cause.KeyNotOrd = one_line (codes "KeyNotOrd") refl
cause_line cause.CapabilityMissing = one_line (codes "CapabilityMissing") refl

-- so are the words of a refusal
error_line : (error : SealError) → IsOneLine (error_words error)
error_line error =
    let other : ℕ → Type 0 = λ b. b ≢ 10 in
    let id = decimal error.shape.0 in
    All-append other (codes "refused " ++ cause_name error.cause ++ codes " #") id
    (All-append other (codes "refused " ++ cause_name error.cause) (codes " #") (All-append other (codes "refused ") (cause_name error.cause) (one_line (codes "refused ") refl) (cause_line error.cause)) (one_line (codes " #") refl))
    (number 10 error.shape.0)

-- the laws of turns
sealed_laws : {L : Type 0} (state : State L) (found : Option SealError) → TurnLaws state (sealed_or_cut state found)
sealed_laws state None = record { balance = λ p. omega arith; words = one_line (codes "ok") refl }
sealed_laws state (Some error) = record { balance = λ p. omega arith; words = error_line error }

pub seal_laws : {L : Type 0} (m : LeafModel L) (state : State L) → TurnLaws state (seal m state)
seal_laws m state = sealed_laws state (answer_of (verdict m (all_shapes state.registry)))
