-- A text as its pieces, which spaces separate.
use Rattle.std.specs.Prelude.{◌≡◌, ℕ, Bool, true, false, not, List, [], ◌∷◌, Option}
use Rattle.std.specs.List.{list_any, join_with_byte}
use Rattle.facet_words.specs.Words.{is_space}
use Rattle.facet_declaration.specs.Cuts.{pieces_at, pieces_behind as behind_at}

-- the pieces of a text
abbrev pub pieces_of : List ℕ → List (List ℕ)
pieces_of text = pieces_at 32 text

-- the pieces of what stands behind a piece: none where the text ends there
abbrev pub pieces_behind : Option (List ℕ) → List (List ℕ)
pieces_behind behind = behind_at 32 behind

-- the text that has these pieces
abbrev pub joined : List (List ℕ) → List ℕ
joined pieces = join_with_byte 32 pieces

-- none of them has a space
abbrev pub ArePieces : List (List ℕ) → Type 0
ArePieces pieces = list_any (list_any is_space) pieces ≡ false

-- the first piece, if there is one, doesn't pass a test
abbrev pub stops : (List ℕ → Bool) → List (List ℕ) → Bool
stops takes [] = true
stops takes (piece ∷ pieces) = not (takes piece)
