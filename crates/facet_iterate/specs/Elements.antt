-- Where the elements of lists and sets and the pairs of maps begin, and what is read there.
use Rattle.std.specs.Prelude.{◌≡◌, ℕ, ◌+◌, ◌<◌, List, [], ◌∷◌, ◌++◌, All, MatchOption, Option, length, map, refl}
use Rattle.std.specs.Coded.{Coded, code_by, coded×, coded_ℕ}
use Rattle.facet_block.specs.contracts.block.Block as block
use Rattle.facet_block.specs.declared.block.Block.{Block}
use Rattle.facet_block.specs.declared.ptr_const.PtrConst.{PtrConst}
use Rattle.facet_leaf.specs.LeafModel.{LeafModel}
use Rattle.facet_shape.specs.declared.shape.Shape.{Shape}
use Rattle.facet_trees.specs.Value.{Value}
use Rattle.facet_values.specs.Place.{Place, place_in}
use Rattle.facet_values.specs.Reading.{IsReadable, Reads}
use base.Fml.{ftrue}
use denote.Hole.Row.{hole}
use denote.Sharing.{nothing}
use mir.Syntax.{ty_unit, wrote}

-- a block, and an offset in it in bytes
pub record Position (L : Type 0) : Type 0 where
  pub block : Block L
  pub offset : ℕ

-- the code by which a proof tells blocks apart, given that of leaves: `Block` has it at every type of leaves with that code
abbrev block_code : {L : Type 0} → Coded L → Coded (Block L)
block_code {L} leaves = (block.the_row (hole L (wrote ty_unit) ty_unit [] [] (λ _ _. ftrue) (λ _ _ _. nothing) leaves)).coded

-- a position is stored as the pair of its fields
abbrev pub position_code : {L : Type 0} → Coded L → Coded (Position L)
position_code {L} leaves = code_by (Block L × ℕ) (coded× (block_code leaves) coded_ℕ) (λ at. (at.block, at.offset)) (λ pair. record { block = pair.0; offset = pair.1 }) (λ _. refl)

module _ {L : Type 0} where
  -- where a pointer points
  abbrev pub position_of : PtrConst L → Position L
  position_of q = record { block = q.block.now; offset = q.offset }

  -- where the pointers to a key and to its value point
  abbrev pub pair_of : PtrConst L × PtrConst L → Position L × Position L
  pair_of pair = (position_of pair.0, position_of pair.1)

  -- a position, read by the shape under an id
  abbrev pub place_at : ℕ → Position L → Place L
  place_at id at = place_in id at.block at.offset

  -- the starts of blocks
  abbrev pub starts : List (Block L) → List (Position L)
  starts blocks = map (λ block. record { block = block; offset = 0 }) blocks

  -- so many bytes further in the block
  abbrev pub further : ℕ → Position L → Position L
  further count at = record { block = at.block; offset = at.offset + count }

  -- keys, and their values so many bytes behind them
  abbrev pub with_values : ℕ → List (Position L) → List (Position L × Position L)
  with_values offset keys = map (λ key. (key, further offset key)) keys

module _ {L : Type 0} (m : LeafModel L) (shapes : List Shape) where
  -- each position, read by the shape under the id, reads as the value at its turn
  abbrev pub ReadInTurn : ℕ → List (Position L) → List (Value L) → Type 0
  ReadInTurn id [] [] = Unit {0}
  ReadInTurn id (at ∷ ats) (v ∷ vs) = Reads m shapes (place_at id at) v × ReadInTurn id ats vs
  ReadInTurn id _ _ = ⊥

  -- each pair of positions reads as a key and its value, which stand one behind the other
  abbrev pub ReadInPairs : ℕ → ℕ → List (Position L × Position L) → List (Value L) → Type 0
  ReadInPairs key value [] [] = Unit {0}
  ReadInPairs key value (pair ∷ pairs) (k ∷ v ∷ vs) = Reads m shapes (place_at key pair.0) k × Reads m shapes (place_at value pair.1) v × ReadInPairs key value pairs vs
  ReadInPairs key value _ _ = ⊥

  -- the shape is sealed, and a value of it lies at each position: what calls require of a place
  pub record LeadToValues (id : ℕ) (ats : List (Position L)) : Type 0 where
    pub sealed : id < length shapes
    pub readable : All (λ at. IsReadable m shapes (place_at id at)) ats

  -- the same of keys and values
  pub record LeadToPairs (key value : ℕ) (pairs : List (Position L × Position L)) : Type 0 where
    pub sealed_key : key < length shapes
    pub sealed_value : value < length shapes
    pub keys : All (λ pair. IsReadable m shapes (place_at key pair.0)) pairs
    pub values : All (λ pair. IsReadable m shapes (place_at value pair.1)) pairs

  module _ (id : ℕ) where
    -- a call returned a pointer to the first of the values, and the others are still to come; or None, and there are none
    abbrev pub ReturnsFirst : List (Value L) → Option (PtrConst L) → List (Position L) → Type 0
    ReturnsFirst vs result rest =
        MatchOption result ((vs ≡ []) × (rest ≡ []))
        (λ q. (first : Value L) × (others : List (Value L)) × (vs ≡ first ∷ others) × Reads m shapes (place_at id (position_of q)) first × ReadInTurn id rest others)

    -- the same from the back
    abbrev pub ReturnsLast : List (Value L) → Option (PtrConst L) → List (Position L) → Type 0
    ReturnsLast vs result rest =
        MatchOption result ((vs ≡ []) × (rest ≡ []))
        (λ q. (others : List (Value L)) × (last : Value L) × (vs ≡ others ++ last ∷ []) × Reads m shapes (place_at id (position_of q)) last × ReadInTurn id rest others)

  module _ (key value : ℕ) where
    -- a call returned pointers to the first key and its value, and the other pairs are still to come; or None, and there are none
    abbrev pub ReturnsFirstPair : List (Value L) → Option (PtrConst L × PtrConst L) → List (Position L × Position L) → Type 0
    ReturnsFirstPair vs result rest =
        MatchOption result ((vs ≡ []) × (rest ≡ []))
        (λ q. (k v : Value L) × (others : List (Value L)) × (vs ≡ k ∷ v ∷ others)
        × Reads m shapes (place_at key (position_of q.0)) k × Reads m shapes (place_at value (position_of q.1)) v × ReadInPairs key value rest others)

    -- the same from the back
    abbrev pub ReturnsLastPair : List (Value L) → Option (PtrConst L × PtrConst L) → List (Position L × Position L) → Type 0
    ReturnsLastPair vs result rest =
        MatchOption result ((vs ≡ []) × (rest ≡ []))
        (λ q. (others : List (Value L)) × (k v : Value L) × (vs ≡ others ++ k ∷ v ∷ [])
        × Reads m shapes (place_at key (position_of q.0)) k × Reads m shapes (place_at value (position_of q.1)) v × ReadInPairs key value rest others)
