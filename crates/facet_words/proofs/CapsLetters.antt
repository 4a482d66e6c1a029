-- Capabilities are read from their letters in order, and written as these.
use Rattle.std.proofs.Common.{◌≡◌, ℕ, ◌&&◌, ◌||◌, Bool, true, false, not, cond, List, [], ◌∷◌, map, length, Some, bytes_eq, codes, get_or, refl, sym, ap, ◌∙◌, ⊎_elim, arith, nat_eq}
use Rattle.std.specs.List.{list_all}
use Rattle.std.proofs.lemmas.Bool.{and_from, and_parts, both_ways, cond-false, cond-true, eq-eqb, eqb-true, false_from_ne_true, not-true, or_cases, or_from, or_left, or_parts, or_right}
use Rattle.std.proofs.lemmas.Option.{cond_some}
use Rattle.std.proofs.lemmas.Slice.Eq.{bytes_eq-Decides}
use Rattle.facet_words.specs.declared.caps.Caps.{Caps}
use Rattle.facet_words.specs.Caps.{behind_letter, caps_in, caps_of, flags_of, has, has_in_order, letters, letters_set, or_dash, spell_caps}
use Rattle.facet_words.specs.Words.{is_empty}
use Rattle.facet_words.proofs.WordBytes.{IsWord, is_word, is_word_byte, word_tested}

-- no letter stands twice
abbrev are_distinct : List ℕ → Bool
are_distinct [] = true
are_distinct (letter ∷ others) = not (has letter others) && are_distinct others

-- which of some letters stand in a word
abbrev flags_in : List ℕ → List ℕ → List Bool
flags_in ls word = map (λ letter. has letter word) ls

-- two letters that differ, the other way round
other_letter : (a b : ℕ) → nat_eq a b ≡ false → nat_eq b a ≡ false
other_letter a b h = false_from_ne_true _ (λ e. both_ways _ h (eq-eqb a b (sym (eqb-true b a e))))

-- a letter that is none of some others has no say in which of them stand in a word
flags_behind : (ls : List ℕ) (letter : ℕ) (word : List ℕ) → has letter ls ≡ false → flags_in ls (letter ∷ word) ≡ flags_in ls word
flags_behind [] letter word h = refl
flags_behind (l ∷ ls) letter word h =
    let parts = or_parts _ _ h in
    let here : nat_eq letter l ≡ false = other_letter l letter parts.0 in
    (λ i. (here i || has l word) ∷ flags_behind ls letter word parts.1 i)

-- a word of some letters in order has no other letter
only_letters : (ls : List ℕ) (word : List ℕ) (letter : ℕ) → has_in_order ls word ≡ true → has letter ls ≡ false → has letter word ≡ false
only_letters [] [] letter h other = refl
only_letters [] (b ∷ word) letter h other = let no : ⊥ = cc in absurd no
only_letters (l ∷ ls) [] letter h other = refl
only_letters (l ∷ ls) (b ∷ word) letter h other =
    let parts : (nat_eq l letter ≡ false) × (has letter ls ≡ false) = or_parts _ _ other in
    let cases : (first : Bool) → nat_eq b l ≡ first → has_in_order ls (cond first word (b ∷ word)) ≡ true → has letter (b ∷ word) ≡ false =
    λ first. elim first as (λ first. nat_eq b l ≡ first → has_in_order ls (cond first word (b ∷ word)) ≡ true → has letter (b ∷ word) ≡ false) [
      | true ↦ λ here rest. or_from _ _ (ap (λ c. nat_eq c letter) (eqb-true b l here) ∙ parts.0) (only_letters ls word letter rest parts.1)
      | false ↦ λ here rest. only_letters ls (b ∷ word) letter rest parts.1
    ] in
    cases (nat_eq b l) refl h

-- a word of distinct letters in order is the letters that stand in it
letters_written : (ls : List ℕ) (word : List ℕ) → are_distinct ls ≡ true → has_in_order ls word ≡ true → letters_set ls (flags_in ls word) ≡ word
letters_written [] [] d h = refl
letters_written [] (b ∷ word) d h = let no : ⊥ = cc in absurd no
letters_written (l ∷ ls) [] d h = letters_written ls [] (and_parts _ _ d).1 h
letters_written (l ∷ ls) (b ∷ word) d h =
    let distinct : (not (has l ls) ≡ true) × (are_distinct ls ≡ true) = and_parts _ _ d in
    let other : has l ls ≡ false = not-true _ distinct.0 in
    let cases : (first : Bool) → nat_eq b l ≡ first → has_in_order ls (cond first word (b ∷ word)) ≡ true → letters_set (l ∷ ls) (flags_in (l ∷ ls) (b ∷ word)) ≡ b ∷ word =
    λ first. elim first as (λ first. nat_eq b l ≡ first → has_in_order ls (cond first word (b ∷ word)) ≡ true → letters_set (l ∷ ls) (flags_in (l ∷ ls) (b ∷ word)) ≡ b ∷ word) [
      | true ↦ λ here rest.
          let same : b ≡ l = eqb-true b l here in
          ap (λ flag. letters_set (l ∷ ls) (flag ∷ flags_in ls (b ∷ word))) (or_left _ _ here)
          ∙ (λ i. l ∷ letters_set ls (flags_in ls (same i ∷ word)))
          ∙ ap (λ flags. l ∷ letters_set ls flags) (flags_behind ls l word other)
          ∙ (λ i. sym same i ∷ letters_written ls word distinct.1 rest i)
      | false ↦ λ here rest.
          ap (λ flag. letters_set (l ∷ ls) (flag ∷ flags_in ls (b ∷ word))) (only_letters ls (b ∷ word) l rest other)
          ∙ letters_written ls (b ∷ word) distinct.1 rest
    ] in
    cases (nat_eq b l) refl h

-- what is written

-- other letters aren't written
not_written : (ls : List ℕ) (flags : List Bool) (letter : ℕ) → has letter ls ≡ false → has letter (letters_set ls flags) ≡ false
not_written [] flags letter h = refl
not_written (l ∷ ls) [] letter h = refl
not_written (l ∷ ls) (true ∷ flags) letter h = let parts = or_parts _ _ h in or_from _ _ parts.0 (not_written ls flags letter parts.1)
not_written (l ∷ ls) (false ∷ flags) letter h = not_written ls flags letter (or_parts _ _ h).1

-- a word without a letter stays as it is
stays : (letter : ℕ) (word : List ℕ) → has letter word ≡ false → behind_letter letter word ≡ word
stays letter [] h = refl
stays letter (b ∷ word) h =
    let parts : (nat_eq b letter ≡ false) × (has letter word ≡ false) = or_parts _ _ h in
    cond-false _ _ _ parts.0

-- an empty word has letters in order
empty_in_order : (ls : List ℕ) → has_in_order ls [] ≡ true
empty_in_order [] = refl
empty_in_order (l ∷ ls) = empty_in_order ls

-- letters that are written stand in order
written_in_order : (ls : List ℕ) (flags : List Bool) → are_distinct ls ≡ true → has_in_order ls (letters_set ls flags) ≡ true
written_in_order [] flags d = refl
written_in_order (l ∷ ls) [] d = empty_in_order ls
written_in_order (l ∷ ls) (true ∷ flags) d =
    ap (has_in_order ls) (cond-true _ _ _ (eq-eqb l l refl)) ∙ written_in_order ls flags (and_parts _ _ d).1
written_in_order (l ∷ ls) (false ∷ flags) d =
    let distinct : (not (has l ls) ≡ true) × (are_distinct ls ≡ true) = and_parts _ _ d in
    ap (has_in_order ls) (stays l (letters_set ls flags) (not_written ls flags l (not-true _ distinct.0))) ∙ written_in_order ls flags distinct.1

-- each of them stands there, and no other
flags_written : (ls : List ℕ) (flags : List Bool) → are_distinct ls ≡ true → length flags ≡ length ls → flags_in ls (letters_set ls flags) ≡ flags
flags_written [] [] d e = refl
flags_written [] (flag ∷ flags) d e = let no : ⊥ = cc in absurd no
flags_written (l ∷ ls) [] d e = let no : ⊥ = cc in absurd no
flags_written (l ∷ ls) (true ∷ flags) d e =
    let distinct : (not (has l ls) ≡ true) × (are_distinct ls ≡ true) = and_parts _ _ d in
    let rest = letters_set ls flags in
    (λ i. or_left (nat_eq l l) (has l rest) (eq-eqb l l refl) i ∷ (flags_behind ls l rest (not-true _ distinct.0) ∙ flags_written ls flags distinct.1 (omega arith)) i)
flags_written (l ∷ ls) (false ∷ flags) d e =
    let distinct : (not (has l ls) ≡ true) × (are_distinct ls ≡ true) = and_parts _ _ d in
    (λ i. not_written ls flags l (not-true _ distinct.0) i ∷ flags_written ls flags distinct.1 (omega arith) i)

-- capabilities

-- those with these members
abbrev from_flags : List Bool → Caps
from_flags flags = record {
  partial_eq = get_or flags 0 false;
  partial_cmp = get_or flags 1 false;
  cmp = get_or flags 2 false;
  hash = get_or flags 3 false;
  debug = get_or flags 4 false;
  default_in_place = get_or flags 5 false;
  clone_into = get_or flags 6 false;
  display = get_or flags 7 false;
  parse = get_or flags 8 false;
}

-- the letters of capabilities, without the `-`
abbrev letters_of : Caps → List ℕ
letters_of c = letters_set letters (flags_of c)

-- capabilities are those whose letters stand in their word
caps_back : (c : Caps) → caps_in (letters_of c) ≡ c
caps_back c = ap from_flags (flags_written letters (flags_of c) refl refl)

-- a word that isn't empty needs no `-`
no_dash : (word : List ℕ) → not (is_empty word) ≡ true → or_dash word ≡ word
no_dash [] h = let no : ⊥ = cc in absurd no
no_dash (b ∷ word) h = refl

-- capabilities that were read are written as the word
pub caps_spelled : (word : List ℕ) (c : Caps) → caps_of word ≡ Some c → spell_caps c ≡ word
caps_spelled word c e =
    let found = cond_some (bytes_eq word (codes "-") || not (is_empty word) && has_in_order letters word) (caps_in word) c e in
    ap spell_caps (sym found.1) ∙ ⊎_elim none some (or_cases _ _ found.0)
  where
    none : bytes_eq word (codes "-") ≡ true → spell_caps (caps_in word) ≡ word
    none h =
        let dash : word ≡ codes "-" = (bytes_eq-Decides word (codes "-")).0 h in
        ap (λ w. spell_caps (caps_in w)) dash ∙ sym dash

    some : not (is_empty word) && has_in_order letters word ≡ true → spell_caps (caps_in word) ≡ word
    some h =
        let parts : (not (is_empty word) ≡ true) × (has_in_order letters word ≡ true) = and_parts _ _ h in
        ap or_dash (letters_written letters word refl parts.1) ∙ no_dash word parts.0

-- capabilities are read from what they are written as
pub caps_read : (c : Caps) → caps_of (spell_caps c) ≡ Some c
caps_read c = by_letters (letters_of c) refl
  where
    by_letters : (word : List ℕ) → letters_of c ≡ word → caps_of (or_dash (letters_of c)) ≡ Some c
    by_letters [] e = ap (λ w. caps_of (or_dash w)) e ∙ ap Some (ap caps_in (sym e) ∙ caps_back c)
    by_letters (b ∷ word) e =
        let in_order : has_in_order letters (b ∷ word) ≡ true = ap (has_in_order letters) (sym e) ∙ written_in_order letters (flags_of c) refl in
        ap (λ w. caps_of (or_dash w)) e ∙ cond-true _ _ _ (or_right _ _ (and_from true _ refl in_order)) ∙ ap Some (ap caps_in (sym e) ∙ caps_back c)

-- letters are bytes of a word
letters_bytes : (ls : List ℕ) (flags : List Bool) → list_all is_word_byte ls ≡ true → list_all is_word_byte (letters_set ls flags) ≡ true
letters_bytes [] flags h = refl
letters_bytes (l ∷ ls) [] h = refl
letters_bytes (l ∷ ls) (true ∷ flags) h = let parts : (is_word_byte l ≡ true) × (list_all is_word_byte ls ≡ true) = and_parts _ _ h in and_from _ _ parts.0 (letters_bytes ls flags parts.1)
letters_bytes (l ∷ ls) (false ∷ flags) h = letters_bytes ls flags (and_parts _ _ h).1

-- capabilities are written as one piece
pub caps_is_a_piece : (c : Caps) → IsWord (spell_caps c)
caps_is_a_piece c = word_tested _ (dashed (letters_of c) (letters_bytes letters (flags_of c) refl))
  where
    dashed : (word : List ℕ) → list_all is_word_byte word ≡ true → is_word (or_dash word) ≡ true
    dashed [] h = refl
    dashed (b ∷ word) h = h
