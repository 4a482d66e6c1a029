use Rattle.std.proofs.Common.{[], ◌∙◌, ◌++◌, ◌≤◌, All, ap, sym, subst, refl, length, codes}
use Rattle.facet_session.specs.Session.{ShowEntries}
use Rattle.facet_session.specs.Turn.{listed}
use Rattle.facet_session.specs.Cell.{HoldsValue, stored_in_all}
use Rattle.facet_session.proofs.ShownSessions.{cells_hold, stored_session}
use Rattle.facet_session.proofs.stepping.finish.Goals as goal

pub make_room-requires : goal.make_room-requires
make_room-requires g c =
    let session = c.args.session.now in
    subst (All (HoldsValue g.L.Leaf.model session.shapes.sealed)) (sym c.as_slice.ensures) (cells_hold g.L.Leaf.model session c.requires)

pub text_of_end-requires : goal.text_of_end-requires
text_of_end-requires g c =
    let session = c.args.session.now in
    subst (All (HoldsValue g.L.Leaf.model session.shapes.sealed)) (sym c.as_slice-2.ensures) (cells_hold g.L.Leaf.model session c.requires)

pub drop_values-requires-clause-room : goal.drop_values-requires-clause-room
drop_values-requires-clause-room g c =
    let session = c.args.session.now in
    subst (λ cells. length (stored_in_all session.shapes.sealed cells) ≤ c.make_room.new.log.spare) c.as_slice.ensures c.in_ok-make_room.ensures.ok

pub drop_values-requires-clause-held : goal.drop_values-requires-clause-held
drop_values-requires-clause-held g c = cells_hold g.L.Leaf.model c.args.session.now c.requires

pub returns-clause-turn : goal.returns-clause-turn
returns-clause-turn g c state shown =
    let m = g.L.Leaf.model in
    let session = c.args.session.now in
    let empty = c.in_ok-make_room.ensures.leaves ∙ c.clear.ensures.leaves in
    let stored = stored_session m session state shown in
    let gone = c.drop_values.ensures ∙ ap (λ xs. xs ++ stored_in_all session.shapes.sealed session.cells.items) empty ∙ stored in
    record {
      text =
          c.in_ok-text.ensures
          ∙ ap (λ cells. codes "end" ++ listed m (codes " dropped [") (stored_in_all session.shapes.sealed cells)) c.as_slice-2.ensures
          ∙ ap (λ xs. codes "end" ++ listed m (codes " dropped [") xs) stored;
      made = refl;
      dropped = ap length (c.leaves.ensures ∙ gone);
      state = record { registry = shown.registry; cells = subst (λ cells. ShowEntries m state.registry.sealed cells []) (sym c.new.ensures) tt };
      log = gone;
    }
