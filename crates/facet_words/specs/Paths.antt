-- Which words are paths.
use Rattle.std.specs.Prelude.{ℕ, ◌&&◌, Bool, false, List, [], ◌∷◌, Option, None, Some, if◌then◌else◌, ◌==◌}
use Rattle.std.specs.List.{slice_split}
use Rattle.facet_words.specs.Words.{is_empty, is_name}

-- a colon
abbrev pub is_colon : ℕ → Bool
is_colon b = b == 58

-- at least one name, with an empty part between each two
abbrev pub are_path_parts : List (List ℕ) → Bool
are_path_parts [] = false
are_path_parts (name ∷ []) = is_name name
are_path_parts (name ∷ gap ∷ parts) = is_name name && is_empty gap && are_path_parts parts

-- names joined by `::`, which is what they are at the single colons
abbrev pub is_path : List ℕ → Bool
is_path bytes = are_path_parts (slice_split is_colon bytes)

-- the path that a word is
abbrev pub path_of : List ℕ → Option (List ℕ)
path_of bytes = if is_path bytes then Some bytes else None
