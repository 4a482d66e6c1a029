-- `shape DECL`: drafts the shape that a declaration describes.
use Rattle.std.specs.Prelude.{[], ◌∷◌, length}
use Rattle.std.specs.Fmt.{decimal}
use Rattle.facet_declaration.specs.declared.declaration.Decl.{Decl}
use Rattle.facet_declare.specs.Outcome as outcome
use Rattle.facet_declare.specs.Outcome.{Declared, declared_by}
use Rattle.facet_declare.specs.declared.refusal.DeclarationRefusal.{DeclarationRefusal}
use Rattle.facet_declare.specs.declared.refusal.DeclarationRefusal.TheVariants as why
use Rattle.facet_leaf.specs.LeafModel.{LeafModel}
use Rattle.facet_registry.specs.Registry.{all_shapes, with_draft}
use Rattle.facet_session.specs.State.{State, with_registry}
use Rattle.facet_session.specs.Turn.{Turn, refused}
use Rattle.facet_session.specs.declared.refusal.Refusal.{Refusal}
use Rattle.facet_session.specs.declared.refusal.Refusal.TheVariants.{MissingDeclId, NoSuchShape, WrongShape}

-- the refusal of a declaration as that of a command
abbrev pub refusal_of : DeclarationRefusal → Refusal
refusal_of why.NoSuchShape = NoSuchShape
refusal_of why.WrongShape = WrongShape
refusal_of why.MissingDeclId = MissingDeclId

-- the shape is drafted, and its id is the answer; or the refusal is
abbrev pub declared_turn : {L : Type 0} → State L → Declared → Turn L
declared_turn state (outcome.drafted s) = record { state = with_registry state (with_draft state.registry s); words = 35 ∷ decimal (length (all_shapes state.registry)); made = []; dropped = [] }
declared_turn state (outcome.refused refusal) = refused state (refusal_of refusal)

-- the command's turn
abbrev pub shape : {L : Type 0} → LeafModel L → State L → Decl → Turn L
shape m state decl = declared_turn state (declared_by m (all_shapes state.registry) decl)
