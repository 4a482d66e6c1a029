-- Which words are capabilities.
use Rattle.std.specs.Prelude.{ℕ, Bool, true, false, not, ◌&&◌, ◌||◌, List, [], ◌∷◌, Option, None, Some, bytes_eq, codes, if◌then◌else◌, ◌==◌}
use Rattle.std.specs.List.{list_any}
use Rattle.facet_words.specs.declared.caps.Caps.{Caps}
use Rattle.facet_words.specs.Words.{is_empty}

-- the letters of the capabilities, in their order
abbrev pub letters : List ℕ
letters = codes "epohgdcsf"

-- a word without the letter, where it begins with it
abbrev pub behind_letter : ℕ → List ℕ → List ℕ
behind_letter letter [] = []
behind_letter letter (b ∷ word) = if b == letter then word else b ∷ word

-- a word has some of these letters, in this order, and nothing else
abbrev pub has_in_order : List ℕ → List ℕ → Bool
has_in_order [] word = is_empty word
has_in_order (letter ∷ others) word = has_in_order others (behind_letter letter word)

-- a letter stands in a word
abbrev pub has : ℕ → List ℕ → Bool
has letter word = list_any (λ b. b == letter) word

-- the capabilities whose letters stand in a word
abbrev pub caps_in : List ℕ → Caps
caps_in word = record {
  partial_eq = has 101 word;
  partial_cmp = has 112 word;
  cmp = has 111 word;
  hash = has 104 word;
  debug = has 103 word;
  default_in_place = has 100 word;
  clone_into = has 99 word;
  display = has 115 word;
  parse = has 102 word;
}

-- the capabilities that a word is: `-` for none, or their letters in order
abbrev pub caps_of : List ℕ → Option Caps
caps_of word = if bytes_eq word (codes "-") || not (is_empty word) && has_in_order letters word then Some (caps_in word) else None

-- those of some letters that have a true beside them
abbrev pub letters_set : List ℕ → List Bool → List ℕ
letters_set (letter ∷ others) (true ∷ flags) = letter ∷ letters_set others flags
letters_set (letter ∷ others) (false ∷ flags) = letters_set others flags
letters_set _ _ = []

-- the members, in the order of their letters
abbrev pub flags_of : Caps → List Bool
flags_of c = c.partial_eq ∷ c.partial_cmp ∷ c.cmp ∷ c.hash ∷ c.debug ∷ c.default_in_place ∷ c.clone_into ∷ c.display ∷ c.parse ∷ []

-- a word, or `-` where it is empty
abbrev pub or_dash : List ℕ → List ℕ
or_dash [] = codes "-"
or_dash (b ∷ word) = b ∷ word

-- the word that capabilities are written as
abbrev pub spell_caps : Caps → List ℕ
spell_caps c = or_dash (letters_set letters (flags_of c))
