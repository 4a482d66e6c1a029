-- What the walks leave that make a value: beside the value itself, the room in the log that taking back needs.
use Rattle.std.specs.Prelude.{◌≡◌, ℕ, ◌+◌, ◌≤◌, All, List, Option, None, Some, Result, Ok, Err, length, map}
use Rattle.std.specs.declared.alloc.AllocError.{AllocError}
use Rattle.facet_block.specs.Block.{item_at, size_of, with_item}
use Rattle.facet_block.specs.DropLog.{LeafLog}
use Rattle.facet_block.specs.Span.{IsBeside, Span, span}
use Rattle.facet_block.specs.declared.block.Block.{Block}
use Rattle.facet_block.specs.declared.block.Item.{Leaf}
use Rattle.facet_leaf.specs.LeafModel.{LeafModel}
use Rattle.facet_make.specs.Exits.{IsMade, IsTakenBack}
use Rattle.facet_make.specs.Made.{IsAmong, Made, leaves_made, made, refused}
use Rattle.facet_outline.specs.declared.placed_fields.PlacedField.{PlacedField}
use Rattle.facet_registry.specs.Registry.{size_at}
use Rattle.facet_shape.specs.declared.shape.Shape.{Shape}
use Rattle.facet_trees.specs.Value.{Value, Values, depth, greatest_depth, leaves, leaves_of_parts}
use Rattle.facet_values.specs.Place.{part_places, place_in}
use Rattle.facet_values.specs.Reading.{ReadAll}

module _ {L : Type 0} where
  -- the second block is the first but for what lies in the spans
  pub record AreChanged (old new : Block L) (ranges : List Span) : Type 0 where
    pub size : size_of new ≡ size_of old
    pub outside : (i : ℕ) → All (IsBeside i) ranges → item_at new i ≡ item_at old i

  -- these leaves were taken back, and the answer says why
  abbrev pub Stops : {A : Type 0} → (A → List L) → Made A L → Result (Option ℕ) AllocError → List L → Type 0
  Stops leaves_in case (Ok (Some n)) taken = ⊥
  Stops leaves_in case (Ok None) taken = case ≡ refused taken
  Stops leaves_in case (Err e) taken = IsAmong taken (leaves_made leaves_in case)

  -- what was made is taken back, and the log still has room for the leaves that were held before
  pub record IsStopped {A : Type 0} (leaves_in : A → List L) (case : Made A L) (result : Result (Option ℕ) AllocError) (held : ℕ) (old new : Block L) (begin end : LeafLog L) : Type 0 where
    pub back : IsTakenBack (Stops leaves_in case result) old new begin end
    pub room : held ≤ end.spare

  -- a leaf of which this holds lies at an offset, and the log has room for it and for those that were held before
  pub record IsLeafPut (Is : L → Type 0) (at held n : ℕ) (old new : Block L) (end : LeafLog L) : Type 0 where
    pub put : L
    pub is : Is put
    pub block : new ≡ with_item old at (Some (Leaf put))
    pub number : n ≡ held + 1
    pub room : n ≤ end.spare

-- the ranges of parts that lie side by side, where their value begins at an offset
abbrev pub ranges_from : List Shape → ℕ → List PlacedField → List Span
ranges_from shapes at body = map (λ part. span (at + part.offset) (size_at shapes part.shape.0)) body

module _ {L : Type 0} (m : LeafModel L) (shapes : List Shape) (levels : ℕ) where
  -- a value is made, and the log has room for its leaves and for those that were held before, which are so many together
  pub record IsMadeWithin (case : Made (Value L) L) (s at held n : ℕ) (old new : Block L) (begin end : LeafLog L) : Type 0 where
    pub one : IsMade m shapes case s at old new begin end
    pub shallow : depth one.value ≤ levels
    pub number : n ≡ held + length (leaves one.value)
    pub room : n ≤ end.spare

  -- the same of parts that lie side by side
  pub record AreMadeWithin (case : Made (Values L) L) (body : List PlacedField) (at held n : ℕ) (old new : Block L) (begin end : LeafLog L) : Type 0 where
    pub values : Values L
    pub is : case ≡ made values
    pub reads : ReadAll m shapes (part_places (place_in 0 new at) body) values
    pub shallow : greatest_depth values ≤ levels
    pub changed : AreChanged old new (ranges_from shapes at body)
    pub log : end.leaves ≡ begin.leaves
    pub spare : begin.spare ≤ end.spare
    pub number : n ≡ held + length (leaves_of_parts values)
    pub room : n ≤ end.spare

  abbrev pub AfterOne : Made (Value L) L → ℕ → ℕ → ℕ → Block L → Block L → LeafLog L → LeafLog L → Result (Option ℕ) AllocError → Type 0
  AfterOne case s at held old new begin end (Ok (Some n)) = IsMadeWithin case s at held n old new begin end
  AfterOne case s at held old new begin end result = IsStopped leaves case result held old new begin end

  abbrev pub AfterParts : Made (Values L) L → List PlacedField → ℕ → ℕ → Block L → Block L → LeafLog L → LeafLog L → Result (Option ℕ) AllocError → Type 0
  AfterParts case body at held old new begin end (Ok (Some n)) = AreMadeWithin case body at held n old new begin end
  AfterParts case body at held old new begin end result = IsStopped leaves_of_parts case result held old new begin end
