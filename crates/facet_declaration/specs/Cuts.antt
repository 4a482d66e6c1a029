-- Texts that are cut at a byte, their pieces, and lists of words.
use Rattle.std.specs.Prelude.{ℕ, List, [], ◌∷◌, Option, None, Some, option_map, if◌then◌else◌, ◌==◌}
use Rattle.std.specs.List.{slice_split}
use Rattle.std.specs.Option.{option_and_then}
use Rattle.facet_words.specs.Words.{is_empty}

-- what stands before and behind the first `b` of a text
abbrev pub cut_at : ℕ → List ℕ → Option (List ℕ × List ℕ)
cut_at b [] = None
cut_at b (c ∷ text) = if c == b then Some ([], text) else option_map (λ parts. (c ∷ parts.0, parts.1)) (cut_at b text)

-- the front of a cut that leaves nothing behind it
abbrev pub whole_front : List ℕ × List ℕ → Option (List ℕ)
whole_front parts = if is_empty parts.1 then Some parts.0 else None

-- what stands before the only `b` of a text, which ends it
abbrev pub ended_by : ℕ → List ℕ → Option (List ℕ)
ended_by b text = option_and_then whole_front (cut_at b text)

-- the pieces of a text that the byte `b` separates
abbrev pub pieces_at : ℕ → List ℕ → List (List ℕ)
pieces_at b text = slice_split (λ c. c == b) text

-- the pieces of what stands behind a piece: none where the text ends there
abbrev pub pieces_behind : ℕ → Option (List ℕ) → List (List ℕ)
pieces_behind b None = []
pieces_behind b (Some text) = pieces_at b text

-- what each of some pieces is, if each is something
abbrev pub read_each : {A : Type 0} → (List ℕ → Option A) → List (List ℕ) → Option (List A)
read_each of [] = Some []
read_each of (piece ∷ pieces) = option_and_then (λ x. option_map (λ xs. x ∷ xs) (read_each of pieces)) (of piece)
