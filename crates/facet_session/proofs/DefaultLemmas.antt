-- The turns of `default`.
use Rattle.std.proofs.Common.{◌≡◌, ℕ, ◌<◌, List, [], ◌++◌, Bool, cond, length, None, Some, Ok, bytes_eq, sym, ap, ◌∙◌}
use Rattle.std.specs.List.{list_any}
use Rattle.std.proofs.lemmas.Bool.{leb-false}
use Rattle.facet_block.specs.DropLog.{LeafLog}
use Rattle.facet_block.specs.declared.block.Block.{Block}
use Rattle.facet_leaf.specs.LeafModel.{LeafModel}
use Rattle.facet_make.proofs.DefaultLaws.{default_shallow}
use Rattle.facet_make.specs.Default.{default_case}
use Rattle.facet_make.specs.Exits.{After}
use Rattle.facet_make.specs.Made.{Made, refused as is_refused}
use Rattle.facet_shape.specs.declared.shape.Shape.{Shape}
use Rattle.facet_trees.specs.Value.{Value}
use Rattle.facet_session.specs.declared.session.Cell.{Cell}
use Rattle.facet_session.specs.declared.session.Session.{Session}
use Rattle.facet_session.specs.declared.refusal.Refusal.{Refusal}
use Rattle.facet_session.specs.declared.refusal.Refusal.TheVariants.{NoSuchShape, Taken}
use Rattle.facet_session.specs.Cell.{HoldsValue}
use Rattle.facet_session.specs.Made.{add_made}
use Rattle.facet_session.specs.Refusal.{first_refusal, is_unsealed, is_taken}
use Rattle.facet_session.specs.Session.{Shows}
use Rattle.facet_session.specs.State.{State}
use Rattle.facet_session.specs.Turn.{refused, refused_or}
use Rattle.facet_session.specs.commands.Default.{conditions, default}
use Rattle.facet_session.proofs.MadeLemmas.{add_made_laws}
use Rattle.facet_session.proofs.ShownSessions.{taken_shown}
use Rattle.facet_session.proofs.TurnLaws.{TurnLaws, refused_or_laws}
use Rattle.facet_session.proofs.TurnLemmas.{none_holds}

-- a shape that no condition refuses is sealed
pub served : (shapes : List Shape) (taken : Bool) (s : ℕ) → None ≡ first_refusal (conditions shapes taken s) → s < length shapes
served shapes taken s none = leb-false (length shapes) s (none_holds (is_unsealed shapes s) NoSuchShape (cond taken (Some Taken) None) none).0

module _ {L : Type 0} (m : LeafModel L) (session : Session L) (name : List ℕ) (s : ℕ) (state : State L) (shown : Shows m session state) where
  -- the refusal of a session is that of each state that it shows
  refusal_shown : first_refusal (conditions session.shapes.sealed (list_any (λ cell. bytes_eq cell.name name) session.cells.items) s) ≡ first_refusal (conditions state.registry.sealed (is_taken state name) s)
  refusal_shown =
      ap (λ r. first_refusal (conditions r.sealed (list_any (λ cell. bytes_eq cell.name name) session.cells.items) s)) shown.registry
      ∙ ap (λ t. first_refusal (conditions state.registry.sealed t s)) (taken_shown m state.registry.sealed session.cells.items state.entries name shown.cells)

  pub default_refused : (refusal : Refusal) → Some refusal ≡ first_refusal (conditions session.shapes.sealed (list_any (λ cell. bytes_eq cell.name name) session.cells.items) s)
      → default m state name s ≡ refused state refusal
  default_refused refusal is = ap (λ found. refused_or state found (add_made state name s (default_case m state.registry.sealed 100 s))) (sym (is ∙ refusal_shown))

  pub default_served : None ≡ first_refusal (conditions session.shapes.sealed (list_any (λ cell. bytes_eq cell.name name) session.cells.items) s)
      → default m state name s ≡ add_made state name s (default_case m session.shapes.sealed 100 s)
  default_served none =
      ap (λ found. refused_or state found (add_made state name s (default_case m state.registry.sealed 100 s))) (sym (none ∙ refusal_shown))
      ∙ ap (λ r. add_made state name s (default_case m r.sealed 100 s)) (sym shown.registry)

module _ {L : Type 0} (m : LeafModel L) (shapes : List Shape) (s : ℕ) {old new : Block L} {begin end : LeafLog L} where
  -- a cell whose block was filled with the default of its shape holds a value
  pub made_holds : (cell : Cell L) → cell.shape.0 ≡ s → cell.block ≡ new → s < length shapes → After m shapes (default_case m shapes 100 s) s 0 old new begin end (Ok (Some tt)) → HoldsValue m shapes cell
  made_holds cell shape block sealed made =
      record {
        sealed = rw shape sealed;
        readable = rw (shape, block) (record { value = made.value; reads = made.reads; shallow = default_shallow m shapes 100 s made.value made.is });
      }

  -- where the log was empty, it has the leaves that were taken back
  pub refused_is : (case : Made (Value L) L) → begin.leaves ≡ [] → After m shapes case s 0 old new begin end (Ok None) → case ≡ is_refused end.leaves
  refused_is case empty back = back.why ∙ ap is_refused (sym (back.log ∙ ap (λ xs. xs ++ back.taken) empty))

-- the laws of turns
pub default_laws : {L : Type 0} (m : LeafModel L) (state : State L) (name : List ℕ) (s : ℕ) → TurnLaws state (default m state name s)
default_laws m state name s = refused_or_laws state _ _ (add_made_laws state name s (default_case m state.registry.sealed 100 s))
