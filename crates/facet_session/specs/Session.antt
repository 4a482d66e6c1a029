-- A session against the interpreter's state.
use Rattle.std.specs.Prelude.{◌≡◌, ◌<◌, ◌≤◌, List, [], ◌∷◌, length, Contains}
use Rattle.facet_block.specs.Block.{size_of}
use Rattle.facet_leaf.specs.LeafModel.{LeafModel}
use Rattle.facet_registry.specs.Prelude.{prelude}
use Rattle.facet_registry.specs.Registry.{size_at}
use Rattle.facet_shape.specs.declared.shape.Shape.{Shape}
use Rattle.facet_trees.specs.Value.{depth}
use Rattle.facet_values.specs.Place.{start_of}
use Rattle.facet_values.specs.Reading.{Reads}
use Rattle.facet_session.specs.declared.session.Session.{Session}
use Rattle.facet_session.specs.declared.session.Cell.{Cell}
use Rattle.facet_session.specs.declared.session.Answer.{Answer}
use Rattle.facet_session.specs.State.{Entry, State}
use Rattle.facet_session.specs.Turn.{Turn, text_of}

module _ {L : Type 0} (m : LeafModel L) where
  -- a cell has the name and the shape of an entry, which is sealed, and its block, of the shape's size, reads from 0 as the entry's value, which has at most 100 levels
  pub record ShowsEntry (shapes : List Shape) (cell : Cell L) (entry : Entry L) : Type 0 where
    pub name : cell.name ≡ entry.name
    pub shape : cell.shape.0 ≡ entry.shape
    pub sealed : entry.shape < length shapes
    pub size : size_of cell.block ≡ size_at shapes entry.shape
    pub reads : Reads m shapes (start_of entry.shape cell.block) entry.value
    pub shallow : depth entry.value ≤ 100

  -- the cells do so, each at its turn
  abbrev pub ShowEntries : List Shape → List (Cell L) → List (Entry L) → Type 0
  ShowEntries shapes [] [] = Unit {0}
  ShowEntries shapes (cell ∷ cells) (entry ∷ entries) = ShowsEntry shapes cell entry × ShowEntries shapes cells entries
  ShowEntries shapes _ _ = ⊥

  -- a session has the registry of a state, and its cells are, in order, the state's entries
  pub record Shows (session : Session L) (state : State L) : Type 0 where
    pub registry : session.shapes ≡ state.registry
    pub cells : ShowEntries state.registry.sealed session.cells.items state.entries

  -- some state is shown
  pub record IsReady (session : Session L) : Type 0 where
    pub state : State L
    pub shown : Shows session state

  -- a turn is carried out: the answer has its text and the numbers of its leaves, the session shows its state, and the log has the leaves that it dropped
  pub record CarriesOut (session : Session L) (answer : Answer) (turn : Turn L) : Type 0 where
    pub text : answer.text ≡ text_of m turn
    pub made : answer.made ≡ length turn.made
    pub dropped : answer.dropped ≡ length turn.dropped
    pub state : Shows session turn.state
    pub log : session.log.leaves ≡ turn.dropped

-- the prelude, no cell and an empty log
pub record IsNew {L : Type 0} (m : LeafModel L) (session : Session L) : Type 0 where
  pub registry : session.shapes ≡ prelude m
  pub cells : session.cells.items ≡ []
  pub log : session.log.leaves ≡ []

-- each cell stays as it is
abbrev pub KeepsCells : {L : Type 0} → Session L → Session L → Type 0
KeepsCells {L} before now = (cell : Cell L) → Contains before.cells.items cell → Contains now.cells.items cell

-- registry and cells are as before
pub record IsUnchanged {L : Type 0} (before now : Session L) : Type 0 where
  pub registry : now.shapes ≡ before.shapes
  pub cells : now.cells.items ≡ before.cells.items
