-- A text and its pieces.
use Rattle.std.proofs.Common.{◌≡◌, ℕ, List, ◌∷◌}
use Rattle.std.proofs.lemmas.List.Splits.{join_with_byte-slice_split}
use Rattle.facet_declaration.proofs.Splits.{split_some, split_joined, split_lacks}
use Rattle.facet_grammar.specs.Pieces.{pieces_of, joined, ArePieces}

-- a text has a first piece
pub pieces_some : (s : List ℕ) → (first : List ℕ × List (List ℕ)) × (pieces_of s ≡ first.0 ∷ first.1)
pieces_some s = split_some 32 s

-- the pieces, joined, are the text
pub joined_pieces : (s : List ℕ) → joined (pieces_of s) ≡ s
joined_pieces s = join_with_byte-slice_split 32 s

-- pieces without a space are those of the text that they are joined to
pub pieces_joined : (piece : List ℕ) (pieces : List (List ℕ)) → ArePieces (piece ∷ pieces) → pieces_of (joined (piece ∷ pieces)) ≡ piece ∷ pieces
pieces_joined piece pieces h = split_joined 32 piece pieces h

-- no piece of a text has a space
pub pieces_whole : (s : List ℕ) → ArePieces (pieces_of s)
pieces_whole s = split_lacks 32 s
