-- The turns of `shape`.
use Rattle.std.proofs.Common.{◌≡◌, ◌≢◌, ◌+◌, ◌≤◌, [], ◌∷◌, ◌++◌, length, Ok, Err, refl, sym, ap, ◌∙◌, subst, arith, length-append}
use Rattle.std.specs.Fmt.{decimal}
use Rattle.std.proofs.lemmas.List.Elements.{All-cons}
use Rattle.facet_base.specs.declared.layout.ShapeId.{ShapeId}
use Rattle.facet_declaration.specs.declared.declaration.Decl.{Decl}
use Rattle.facet_declare.specs.Outcome as outcome
use Rattle.facet_declare.specs.Outcome.{Declared, answer_to, declared_by, with_declared}
use Rattle.facet_declare.specs.declared.refusal.DeclarationRefusal.{DeclarationRefusal}
use Rattle.facet_leaf.specs.LeafModel.{LeafModel}
use Rattle.facet_leaf.proofs.OneLines.{number}
use Rattle.facet_registry.specs.Registry.{Registry, all_shapes, with_draft, with_id}
use Rattle.facet_shape.specs.WithoutSpare.{shape_without_spare}
use Rattle.facet_session.specs.declared.session.Answer.{Answer}
use Rattle.facet_session.specs.declared.session.Session.{Session}
use Rattle.facet_session.specs.Refusal.{words_of}
use Rattle.facet_session.specs.Session.{CarriesOut, ShowEntries, Shows}
use Rattle.facet_session.specs.State.{State, with_registry}
use Rattle.facet_session.specs.commands.Shape.{declared_turn, refusal_of, shape}
use Rattle.facet_session.proofs.TurnLaws.{TurnLaws, refused_laws}
use Rattle.facet_session.proofs.TurnLemmas.{words_carried}

module _ {L : Type 0} (m : LeafModel L) (before now : Session L) (answer : Answer) (cells : now.cells.items ≡ before.cells.items) (empty : now.log.leaves ≡ []) (state : State L) (shown : Shows m before state) where
  -- the sealed shapes are the same, so the entries are shown as before
  shown_over : (registry : Registry) → now.shapes ≡ registry → registry.sealed ≡ state.registry.sealed → Shows m now (with_registry state registry)
  shown_over registry is sealed = record {
    registry = is;
    cells = subst (λ cs. ShowEntries m registry.sealed cs state.entries) (sym cells) (subst (λ shapes. ShowEntries m shapes before.cells.items state.entries) (sym sealed) shown.cells);
  }

  by_outcome : (d : Declared) (id : ShapeId) → Ok id ≡ answer_to before.shapes d → now.shapes ≡ with_declared before.shapes d
      → answer ≡ record { text = 35 ∷ decimal (length (all_shapes before.shapes)); made = 0; dropped = 0 } → CarriesOut m now answer (declared_turn state d)
  by_outcome (outcome.drafted s) id is shapes same =
      words_carried m now answer (35 ∷ decimal (length (all_shapes state.registry))) (with_registry state (with_draft state.registry s)) empty
      (same ∙ ap (λ r. record { text = 35 ∷ decimal (length (all_shapes r)); made = 0; dropped = 0 }) shown.registry)
      (shown_over (with_draft state.registry s) (shapes ∙ ap (λ r. with_draft r s) shown.registry) refl)
  by_outcome (outcome.refused refusal) id is shapes same = absurd (cc)

  by_refusal : (d : Declared) (refusal : DeclarationRefusal) → Err refusal ≡ answer_to before.shapes d → now.shapes ≡ with_declared before.shapes d
      → answer ≡ record { text = words_of (refusal_of refusal); made = 0; dropped = 0 } → CarriesOut m now answer (declared_turn state d)
  by_refusal (outcome.drafted s) refusal is shapes same = absurd (cc)
  by_refusal (outcome.refused other) refusal is shapes same =
      let why : refusal ≡ other = cc in
      words_carried m now answer (words_of (refusal_of other)) state empty
      (same ∙ ap (λ r. record { text = words_of (refusal_of r); made = 0; dropped = 0 }) why)
      (shown_over state.registry (shapes ∙ shown.registry) refl)

  module _ (decl : Decl) where
    same_outcome : declared_by m (all_shapes before.shapes) decl ≡ declared_by m (all_shapes state.registry) decl
    same_outcome = ap (λ r. declared_by m (all_shapes r) decl) shown.registry

    pub shape_carried : (id : ShapeId) → Ok id ≡ answer_to before.shapes (declared_by m (all_shapes before.shapes) decl) → now.shapes ≡ with_declared before.shapes (declared_by m (all_shapes before.shapes) decl)
        → answer ≡ record { text = 35 ∷ decimal (length (all_shapes before.shapes)); made = 0; dropped = 0 } → CarriesOut m now answer (shape m state decl)
    shape_carried id is shapes same =
        subst (λ d. CarriesOut m now answer (declared_turn state d)) same_outcome (by_outcome (declared_by m (all_shapes before.shapes) decl) id is shapes same)

    pub shape_refused : (refusal : DeclarationRefusal) → Err refusal ≡ answer_to before.shapes (declared_by m (all_shapes before.shapes) decl) → now.shapes ≡ with_declared before.shapes (declared_by m (all_shapes before.shapes) decl)
        → answer ≡ record { text = words_of (refusal_of refusal); made = 0; dropped = 0 } → CarriesOut m now answer (shape m state decl)
    shape_refused refusal is shapes same =
        subst (λ d. CarriesOut m now answer (declared_turn state d)) same_outcome (by_refusal (declared_by m (all_shapes before.shapes) decl) refusal is shapes same)

-- the laws of turns
declared_laws : {L : Type 0} (state : State L) (d : Declared) → TurnLaws state (declared_turn state d)
declared_laws state (outcome.drafted s) = record {
  balance = λ p. omega arith;
  words = All-cons (λ b. b ≢ 10) 35 (decimal (length (all_shapes state.registry))) (λ e. omega arith) (number 10 (length (all_shapes state.registry)));
}
declared_laws state (outcome.refused refusal) = refused_laws state (refusal_of refusal)

pub shape_laws : {L : Type 0} (m : LeafModel L) (state : State L) (decl : Decl) → TurnLaws state (shape m state decl)
shape_laws m state decl = declared_laws state (declared_by m (all_shapes state.registry) decl)

-- a declaration drafts at most one shape
pub one_more : (registry : Registry) (d : Declared) → length (all_shapes (with_declared registry d)) ≤ length (all_shapes registry) + 1
one_more registry (outcome.drafted s) =
    let draft = with_id (length (all_shapes registry)) (shape_without_spare s) in
    omega (arith, length-append registry.sealed registry.drafts, length-append registry.drafts (draft ∷ []), length-append registry.sealed (registry.drafts ++ draft ∷ []))
one_more registry (outcome.refused refusal) = omega arith
