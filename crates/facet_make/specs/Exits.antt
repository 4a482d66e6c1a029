-- What a call that makes a value leaves, by its answer.
use Rattle.std.specs.Prelude.{◌≡◌, ℕ, ◌+◌, ◌≤◌, List, ◌++◌, Option, None, Some, Result, Ok, Err, length}
use Rattle.std.specs.declared.alloc.AllocError.{AllocError}
use Rattle.facet_block.specs.declared.block.Block.{Block}
use Rattle.facet_block.specs.DropLog.{LeafLog}
use Rattle.facet_block.specs.Span.{IsChanged, span}
use Rattle.facet_leaf.specs.LeafModel.{LeafModel}
use Rattle.facet_make.specs.Made.{IsAmong, Made, leaves_made, made, refused}
use Rattle.facet_registry.specs.Registry.{size_at}
use Rattle.facet_shape.specs.declared.shape.Shape.{Shape}
use Rattle.facet_trees.specs.Value.{Value, leaves}
use Rattle.facet_values.specs.Place.{place_in}
use Rattle.facet_values.specs.Reading.{Reads}

module _ {L : Type 0} where
  -- the place reads as the value that is made, all else in the block is as before, and so are the log's leaves
  pub record IsMade (m : LeafModel L) (shapes : List Shape) (case : Made (Value L) L) (s at : ℕ) (old new : Block L) (begin end : LeafLog L) : Type 0 where
    pub value : Value L
    pub is : case ≡ made value
    pub reads : Reads m shapes (place_in s new at) value
    pub changed : IsChanged old new (span at (size_at shapes s))
    pub log : end.leaves ≡ begin.leaves
    pub spare : begin.spare ≤ end.spare

  -- the block is as before, and behind the log's leaves stand those that were taken back
  pub record IsTakenBack (Why : List L → Type 0) (old new : Block L) (begin end : LeafLog L) : Type 0 where
    pub taken : List L
    pub why : Why taken
    pub block : new ≡ old
    pub log : end.leaves ≡ begin.leaves ++ taken
    pub spare : begin.spare ≤ end.spare + length taken

  -- made; or refused, with the leaves that the case takes back, in its order; or out of memory, with some of the leaves that the case makes
  abbrev pub After : LeafModel L → List Shape → Made (Value L) L → ℕ → ℕ → Block L → Block L → LeafLog L → LeafLog L → Result (Option (Unit {0})) AllocError → Type 0
  After m shapes case s at old new begin end (Ok (Some _)) = IsMade m shapes case s at old new begin end
  After m shapes case s at old new begin end (Ok None) = IsTakenBack (λ taken. case ≡ refused taken) old new begin end
  After m shapes case s at old new begin end (Err _) = IsTakenBack (λ taken. IsAmong taken (leaves_made leaves case)) old new begin end
