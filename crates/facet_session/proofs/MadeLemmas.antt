-- The turns of commands that make a whole value.
use Rattle.std.proofs.Common.{◌≡◌, ℕ, List, [], ◌∷◌, ◌++◌, length, codes, count_by, refl, sym, ap, ◌∙◌, subst, arith}
use Rattle.std.proofs.lemmas.List.{append-nil}
use Rattle.std.proofs.lemmas.List.Concat.{flat_map-append}
use Rattle.facet_base.proofs.Lists.{count_by_append}
use Rattle.facet_block.specs.Block.{size_of}
use Rattle.facet_leaf.specs.LeafModel.{LeafModel}
use Rattle.facet_make.specs.Made as making
use Rattle.facet_make.specs.Made.{Made}
use Rattle.facet_registry.specs.Registry.{size_at}
use Rattle.facet_trees.specs.Value.{Value, leaves}
use Rattle.facet_values.proofs.OneReading.{one_value}
use Rattle.facet_values.specs.Place.{start_of}
use Rattle.facet_values.specs.Reading.{Reads}
use Rattle.facet_session.specs.declared.session.Session.{Session}
use Rattle.facet_session.specs.declared.session.Cell.{Cell}
use Rattle.facet_session.specs.declared.session.Answer.{Answer}
use Rattle.facet_session.specs.declared.refusal.Refusal.TheVariants.{Unsupported}
use Rattle.facet_session.specs.Cell.{HoldsValue, stored_in}
use Rattle.facet_session.specs.Made.{add_made}
use Rattle.facet_session.specs.Session.{ShowsEntry, ShowEntries, Shows, CarriesOut}
use Rattle.facet_session.specs.State.{Entry, State, leaves_of_entries}
use Rattle.facet_session.specs.Turn.{listed}
use Rattle.facet_session.proofs.ShownSessions.{show_more}
use Rattle.facet_session.proofs.StoredLeaves.{stored_read}
use Rattle.facet_session.proofs.TurnLaws.{TurnLaws, one_line, words_one_line}

-- the laws of turns
pub add_made_laws : {L : Type 0} (state : State L) (name : List ℕ) (s : ℕ) (case : Made (Value L) L) → TurnLaws state (add_made state name s case)
add_made_laws {L} state name s (making.made v) =
    let entry : Entry L = record { name = name; shape = s; value = v } in
    record {
      balance = λ p.
          let more = ap (count_by p) (flat_map-append (λ (e : Entry L). leaves e.value) state.entries (entry ∷ []) ∙ ap (λ xs. leaves_of_entries state.entries ++ xs) (append-nil (leaves v)))
          ∙ count_by_append p (leaves_of_entries state.entries) (leaves v) in
          omega (arith, more);
      words = one_line (codes "ok") refl;
    }
add_made_laws state name s (making.refused taken) = record { balance = λ p. omega arith; words = words_one_line Unsupported }

module _ {L : Type 0} (m : LeafModel L) where
  -- a session with a cell more carries out the making of the value that the cell reads as
  pub made_carried : (before now : Session L) (answer : Answer) (cell : Cell L) (v : Value L) → HoldsValue m before.shapes.sealed cell
      → size_of cell.block ≡ size_at before.shapes.sealed cell.shape.0 → Reads m before.shapes.sealed (start_of cell.shape.0 cell.block) v
      → now.shapes ≡ before.shapes → now.cells.items ≡ before.cells.items ++ cell ∷ [] → now.log.leaves ≡ []
      → answer.text ≡ codes "ok" ++ listed m (codes " made [") (stored_in before.shapes.sealed cell) → answer.made ≡ length (stored_in before.shapes.sealed cell) → answer.dropped ≡ 0
      → (state : State L) → Shows m before state → CarriesOut m now answer (add_made state cell.name cell.shape.0 (making.made v))
  made_carried before now answer cell v held size reads shapes cells empty text made dropped state shown =
      let stored = stored_read m before.shapes.sealed cell v held reads in
      record {
        text = text ∙ ap (λ xs. codes "ok" ++ listed m (codes " made [") xs) (sym stored) ∙ sym (append-nil (codes "ok" ++ listed m (codes " made [") (leaves v)));
        made = made ∙ ap length (sym stored);
        dropped = dropped;
        state = record {
          registry = shapes ∙ shown.registry;
          cells =
              let entry : Entry L = record { name = cell.name; shape = cell.shape.0; value = v } in
              let same = one_value m before.shapes.sealed (start_of cell.shape.0 cell.block) v held.readable.value reads held.readable.reads in
              let one : ShowsEntry m before.shapes.sealed cell entry = record {
                name = refl;
                shape = refl;
                sealed = held.sealed;
                size = size;
                reads = reads;
                shallow = rw same held.readable.shallow;
              } in
              subst (λ cs. ShowEntries m state.registry.sealed cs (state.entries ++ entry ∷ [])) (sym cells)
              (show_more m state.registry.sealed before.cells.items state.entries cell entry shown.cells (subst (λ r. ShowsEntry m r.sealed cell entry) shown.registry one));
        };
        log = empty;
      }

  -- a session whose log has the leaves that were taken back carries out the refusal
  pub taken_back_carried : (session : Session L) (answer : Answer) (name : List ℕ) (s : ℕ)
      → answer.text ≡ codes "unsupported" ++ listed m (codes " made [") session.log.leaves ++ listed m (codes " dropped [") session.log.leaves
      → answer.made ≡ length session.log.leaves → answer.dropped ≡ length session.log.leaves
      → (state : State L) → Shows m session state → CarriesOut m session answer (add_made state name s (making.refused session.log.leaves))
  taken_back_carried session answer name s text made dropped state shown = record { text = text; made = made; dropped = dropped; state = shown; log = refl }
