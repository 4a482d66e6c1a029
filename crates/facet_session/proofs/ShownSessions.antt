-- A state that a session shows: what its cells store, and what a cell more shows.
use Rattle.std.proofs.Common.{◌≡◌, ℕ, List, [], ◌∷◌, ◌++◌, All, refl, sym, ap, ◌∙◌, subst, bytes_eq}
use Rattle.std.specs.List.{list_any, AllByRecursion}
use Rattle.std.proofs.lemmas.List.Elements.{All-from_recursion}
use Rattle.facet_leaf.specs.LeafModel.{LeafModel}
use Rattle.facet_registry.specs.Prelude.{prelude}
use Rattle.facet_shape.specs.declared.shape.Shape.{Shape}
use Rattle.facet_trees.specs.Value.{leaves}
use Rattle.facet_values.proofs.ValueAt.{value_found}
use Rattle.facet_values.specs.Place.{start_of}
use Rattle.facet_values.specs.Reading.{Reads}
use Rattle.facet_session.specs.declared.session.Session.{Session}
use Rattle.facet_session.specs.declared.session.Cell.{Cell}
use Rattle.facet_session.specs.Interpreter.{last}
use Rattle.facet_session.specs.State.{Entry, State, first_state, leaves_of_entries}
use Rattle.facet_session.specs.Session.{ShowsEntry, ShowEntries, Shows, IsReady, IsNew, IsUnchanged}
use Rattle.facet_session.specs.Cell.{HoldsValue, stored_in_all}

module _ {L : Type 0} (m : LeafModel L) where
  -- a session with the same registry and cells shows the same states
  pub shows_same : (s t : Session L) (state : State L) → IsUnchanged s t → Shows m s state → Shows m t state
  shows_same s t state same shown = record {
    registry = same.registry ∙ shown.registry;
    cells = subst (λ cs. ShowEntries m state.registry.sealed cs state.entries) (sym same.cells) shown.cells;
  }

  module _ (shapes : List Shape) where
    pub show_more : (cells : List (Cell L)) (entries : List (Entry L)) (cell : Cell L) (entry : Entry L) → ShowEntries m shapes cells entries → ShowsEntry m shapes cell entry
        → ShowEntries m shapes (cells ++ cell ∷ []) (entries ++ entry ∷ [])
    show_more [] [] cell entry shown one = (one, tt)
    show_more [] (e ∷ es) cell entry shown one = absurd shown
    show_more (c ∷ cs) [] cell entry shown one = absurd shown
    show_more (c ∷ cs) (e ∷ es) cell entry shown one = (shown.0, show_more cs es cell entry shown.1 one)

    pub taken_shown : (cells : List (Cell L)) (entries : List (Entry L)) (name : List ℕ) → ShowEntries m shapes cells entries
        → list_any (λ cell. bytes_eq cell.name name) cells ≡ list_any (λ entry. bytes_eq entry.name name) entries
    taken_shown [] [] name shown = refl
    taken_shown [] (e ∷ es) name shown = absurd shown
    taken_shown (c ∷ cs) [] name shown = absurd shown
    taken_shown (c ∷ cs) (e ∷ es) name shown =
        let first = ap (λ n. bytes_eq n name) shown.0.name in
        let rest = taken_shown cs es name shown.1 in
        cc

    at_start : (cell : Cell L) (entry : Entry L) → ShowsEntry m shapes cell entry → Reads m shapes (start_of cell.shape.0 cell.block) entry.value
    at_start cell entry shown = rw shown.shape shown.reads

    holds_value : (cell : Cell L) (entry : Entry L) → ShowsEntry m shapes cell entry → HoldsValue m shapes cell
    holds_value cell entry shown =
        record { sealed = rw shown.shape shown.sealed; readable = record { value = entry.value; reads = at_start cell entry shown; shallow = shown.shallow } }

    -- each cell holds a value
    pub all_hold : (cells : List (Cell L)) (entries : List (Entry L)) → ShowEntries m shapes cells entries → AllByRecursion (HoldsValue m shapes) cells
    all_hold [] [] shown = tt
    all_hold [] (e ∷ es) shown = absurd shown
    all_hold (c ∷ cs) [] shown = absurd shown
    all_hold (c ∷ cs) (e ∷ es) shown = (holds_value c e shown.0, all_hold cs es shown.1)

    -- what the cells store are the leaves of the values
    pub stored_shown : (cells : List (Cell L)) (entries : List (Entry L)) → ShowEntries m shapes cells entries → stored_in_all shapes cells ≡ leaves_of_entries entries
    stored_shown [] [] shown = refl
    stored_shown [] (e ∷ es) shown = absurd shown
    stored_shown (c ∷ cs) [] shown = absurd shown
    stored_shown (c ∷ cs) (e ∷ es) shown =
        let first = ap leaves (value_found m shapes 100 (start_of c.shape.0 c.block) e.value (at_start c e shown.0) shown.0.shallow) in
        let rest = stored_shown cs es shown.1 in
        cc

  -- the cells of a session that shows a state hold values
  pub cells_hold : (session : Session L) → IsReady m session → All (HoldsValue m session.shapes.sealed) session.cells.items
  cells_hold session ready =
      let all = all_hold ready.state.registry.sealed session.cells.items ready.state.entries ready.shown.cells in
      subst (λ r. All (HoldsValue m r.sealed) session.cells.items) (sym ready.shown.registry) (All-from_recursion _ _ all)

  -- and store the leaves of its entries
  pub stored_session : (session : Session L) (state : State L) → Shows m session state → stored_in_all session.shapes.sealed session.cells.items ≡ leaves_of_entries state.entries
  stored_session session state shown =
      ap (λ r. stored_in_all r.sealed session.cells.items) shown.registry ∙ stored_shown state.registry.sealed session.cells.items state.entries shown.cells

  -- a new session shows the first state
  pub shows_new : (s : Session L) → IsNew m s → Shows m s (first_state m)
  shows_new s new = record {
    registry = new.registry;
    cells = subst (λ cells. ShowEntries m (prelude m).sealed cells []) (sym new.cells) tt;
  }

  no_cells : (shapes : List Shape) (cells : List (Cell L)) → ShowEntries m shapes cells [] → cells ≡ []
  no_cells shapes [] shown = refl
  no_cells shapes (cell ∷ cells) shown = absurd shown

  -- a session that shows no entry has no cell
  pub cells_gone : (s : Session L) (state : State L) → Shows m s (last state).state → s.cells.items ≡ []
  cells_gone s state shown = no_cells state.registry.sealed s.cells.items shown.cells
