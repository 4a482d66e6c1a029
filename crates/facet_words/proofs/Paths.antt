-- Paths: the code's reader, and that they are one piece.
use Rattle.std.proofs.Common.{◌≡◌, ◌≢◌, ℕ, ◌<◌, ◌&&◌, Bool, true, false, cond, List, [], ◌∷◌, length, Some, refl, sym, ap, ◌∙◌, arith}
use Rattle.std.specs.List.{list_all, position_or_len, before_first, after_first, onto_first, slice_split}
use Rattle.std.proofs.lemmas.Bool.Decides.{nat_tests}
use Rattle.std.proofs.lemmas.Bool.{and_left, and_right, and_parts, and_from, cond-false, cond-true, eqb-true, false_from_ne_true}
use Rattle.std.proofs.lemmas.Option.{cond_some}
use Rattle.facet_words.specs.Paths.{are_path_parts, is_colon, is_path, path_of}
use Rattle.facet_words.specs.Words.{is_empty, is_name}
use Rattle.facet_words.proofs.Cuts.{cut_none, cut_some}
use Rattle.facet_words.proofs.WordBytes.{IsWord, is_word_byte, name_bytes, word_tested}

-- what stands behind the first colon of a text
abbrev IsCutAtColon : List ℕ → List ℕ → List ℕ → Type 0
IsCutAtColon s name behind = (name ≡ before_first is_colon s) × (behind ≡ after_first is_colon s) × (position_or_len is_colon s < length s)

-- a name and `::` before a text
pub path_goes_on : (s name behind names : List ℕ) → IsCutAtColon s name behind → behind ≡ 58 ∷ names → is_name name ≡ true → is_path names ≡ is_path s
path_goes_on s name behind names cut colon named =
    sym (and_true (is_name name) (is_path names) named) ∙ (λ i. are_path_parts (name ∷ slice_split is_colon (sym colon i))) ∙ ap are_path_parts (cut_some is_colon s name behind cut.0 cut.1 cut.2)
  where
    and_true : (x y : Bool) → x ≡ true → (x && true && y) ≡ y
    and_true true y h = refl
    and_true false y h = let no : ⊥ = cc in absurd no

-- something else before `::`
pub path_unnamed : (s name behind names : List ℕ) → IsCutAtColon s name behind → behind ≡ 58 ∷ names → is_name name ≡ false → false ≡ is_path s
path_unnamed s name behind names cut colon unnamed =
    sym (and_left _ _ (and_left _ _ unnamed)) ∙ (λ i. are_path_parts (name ∷ slice_split is_colon (sym colon i))) ∙ ap are_path_parts (cut_some is_colon s name behind cut.0 cut.1 cut.2)

-- a colon with no other behind it
single_colon : (name behind : List ℕ) → ((rest : List ℕ) → behind ≢ 58 ∷ rest) → are_path_parts (name ∷ slice_split is_colon behind) ≡ false
single_colon name [] h = and_right _ _ refl
single_colon name (b ∷ rest) h =
    let other : is_colon b ≡ false = false_from_ne_true _ (λ e. h rest (ap (λ c. c ∷ rest) (eqb-true b 58 e))) in
    ap (λ parts. are_path_parts (name ∷ parts)) (cond-false _ _ _ other) ∙ gap_filled (slice_split is_colon rest)
  where
    gap_filled : (parts : List (List ℕ)) → are_path_parts (name ∷ onto_first b parts) ≡ false
    gap_filled [] = and_left _ _ (and_right _ _ refl)
    gap_filled (part ∷ parts) = and_left _ _ (and_right _ _ refl)

-- a text with such a colon is no path
pub path_ends_early : (s name behind : List ℕ) → IsCutAtColon s name behind → ((rest : List ℕ) → behind ≢ 58 ∷ rest) → false ≡ is_path s
path_ends_early s name behind cut h = sym (single_colon name behind h) ∙ ap are_path_parts (cut_some is_colon s name behind cut.0 cut.1 cut.2)

-- a text without a colon is a path where it is a name
pub path_of_one : (s : List ℕ) → position_or_len is_colon s ≡ length s → is_name s ≡ is_path s
path_of_one s none = ap are_path_parts (cut_none is_colon s none)

-- a path that was read is one, and is written as it stands
pub path_spelled : (word path : List ℕ) → path_of word ≡ Some path → (is_path path ≡ true) × (path ≡ word)
path_spelled word path e =
    let found = cond_some (is_path word) word path e in
    (ap is_path (sym found.1) ∙ found.0, sym found.1)

-- a path is read as it stands
pub path_read : (path : List ℕ) → is_path path ≡ true → path_of path ≡ Some path
path_read path h = cond-true _ _ _ h

-- the bytes of a path are those of names, and colons

-- each part is of such bytes
parts_bytes : (parts : List (List ℕ)) → are_path_parts parts ≡ true → list_all (list_all is_word_byte) parts ≡ true
parts_bytes [] h = let no : ⊥ = cc in absurd no
parts_bytes (name ∷ []) h = and_from _ _ (name_bytes name h) refl
parts_bytes (name ∷ gap ∷ parts) h =
    let outer : (is_name name && is_empty gap ≡ true) × (are_path_parts parts ≡ true) = and_parts _ _ h in
    let inner : (is_name name ≡ true) × (is_empty gap ≡ true) = and_parts _ _ outer.0 in
    and_from _ _ (name_bytes name inner.0) (and_from _ _ (gap_bytes gap inner.1) (parts_bytes parts outer.1))
  where
    gap_bytes : (gap : List ℕ) → is_empty gap ≡ true → list_all is_word_byte gap ≡ true
    gap_bytes [] h = refl
    gap_bytes (b ∷ gap) h = let no : ⊥ = cc in absurd no

-- a byte before parts
onto_bytes : (b : ℕ) (parts : List (List ℕ)) → list_all (list_all is_word_byte) (onto_first b parts) ≡ true → (is_word_byte b ≡ true) × (list_all (list_all is_word_byte) parts ≡ true)
onto_bytes b [] h =
    let outer : (is_word_byte b && true ≡ true) × (true ≡ true) = and_parts _ _ h in
    ((and_parts _ _ outer.0).0, refl)
onto_bytes b (part ∷ parts) h =
    let outer : (is_word_byte b && list_all is_word_byte part ≡ true) × (list_all (list_all is_word_byte) parts ≡ true) = and_parts _ _ h in
    let inner : (is_word_byte b ≡ true) × (list_all is_word_byte part ≡ true) = and_parts _ _ outer.0 in
    (inner.0, and_from _ _ inner.1 outer.1)

-- a text whose parts are of such bytes is so too
joined_bytes : (s : List ℕ) → list_all (list_all is_word_byte) (slice_split is_colon s) ≡ true → list_all is_word_byte s ≡ true
joined_bytes [] h = refl
joined_bytes (b ∷ s) h =
    let cases : (colon : Bool) → is_colon b ≡ colon → list_all (list_all is_word_byte) (cond colon ([] ∷ slice_split is_colon s) (onto_first b (slice_split is_colon s))) ≡ true → list_all is_word_byte (b ∷ s) ≡ true =
    λ colon. elim colon as (λ colon. is_colon b ≡ colon → list_all (list_all is_word_byte) (cond colon ([] ∷ slice_split is_colon s) (onto_first b (slice_split is_colon s))) ≡ true → list_all is_word_byte (b ∷ s) ≡ true) [
      | true ↦ λ here parts. and_from _ _ (colon_byte b here) (joined_bytes s parts)
      | false ↦ λ here parts.
          let split = onto_bytes b (slice_split is_colon s) parts in
          and_from _ _ split.0 (joined_bytes s split.1)
    ] in
    cases (is_colon b) refl h
  where
    colon_byte : (b : ℕ) → is_colon b ≡ true → is_word_byte b ≡ true
    colon_byte b h = grind (arith, nat_tests)

-- a path is of such bytes
pub path_bytes : (path : List ℕ) → is_path path ≡ true → list_all is_word_byte path ≡ true
path_bytes path h = joined_bytes path (parts_bytes (slice_split is_colon path) h)

-- a path is one piece
pub path_is_a_piece : (path : List ℕ) → is_path path ≡ true → IsWord path
path_is_a_piece [] h = let no : ⊥ = cc in absurd no
path_is_a_piece (b ∷ path) h = word_tested (b ∷ path) (path_bytes (b ∷ path) h)
