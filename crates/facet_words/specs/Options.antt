-- Which words are options of a declaration, and in which order options stand.
use Rattle.std.specs.Prelude.{◌≡◌, ℕ, ◌+◌, ◌<◌, ◌^◌, ◌&&◌, Bool, true, false, List, [], ◌∷◌, ◌++◌, codes, Option, None, Some, option_map, if◌then◌else◌, ◌==◌, nat_le}
use Rattle.std.specs.Option.{option_and_then, option_or}
use Rattle.std.specs.Fmt.{decimal}
use Rattle.std.specs.List.{after_first, before_first, list_all}
use Rattle.facet_base.specs.declared.variance_desc.VariancePosition.{VariancePosition}
use Rattle.facet_base.specs.declared.variance_desc.VariancePosition.TheVariants as position
use Rattle.facet_words.specs.declared.option_key.OptionKey.{OptionKey}
use Rattle.facet_words.specs.declared.option_key.OptionKey.TheVariants as key
use Rattle.facet_words.specs.declared.options.Opt.{Opt}
use Rattle.facet_words.specs.declared.options.Opt.TheVariants.{Repr, Packed, Id, Mod, Param, Base, Dep}
use Rattle.facet_words.specs.FixedWords.{base_of, spell_base, spell_variance, variance_of}
use Rattle.facet_words.specs.Paths.{is_colon, is_path, path_of}
use Rattle.facet_words.specs.Words.{is_empty, is_name, number_of, reference_of}

-- what an option begins with
abbrev pub word_of_key : OptionKey → List ℕ
word_of_key key.Repr = codes ".repr="
word_of_key key.Packed = codes ".packed"
word_of_key key.Id = codes ".id="
word_of_key key.Mod = codes ".mod="
word_of_key key.Param = codes ".param="
word_of_key key.Base = codes ".base="
word_of_key key.Covariant = codes ".dep=+"
word_of_key key.Contravariant = codes ".dep=-"
word_of_key key.Invariant = codes ".dep=="

-- all of them
abbrev pub option_keys : List OptionKey
option_keys = key.Repr ∷ key.Packed ∷ key.Id ∷ key.Mod ∷ key.Param ∷ key.Base ∷ key.Covariant ∷ key.Contravariant ∷ key.Invariant ∷ []

-- a name, a colon and a reference
abbrev pub param_of : List ℕ → Option Opt
param_of word = if is_name (before_first is_colon word) then option_map (λ n. Param (before_first is_colon word) (record { 0 = n })) (reference_of (after_first is_colon word)) else None

-- a reference, in a position
abbrev pub dep_of : VariancePosition → List ℕ → Option Opt
dep_of p word = option_map (λ n. Dep p (record { 0 = n })) (reference_of word)

-- the option that begins so, with this word behind it
abbrev pub option_behind : OptionKey → List ℕ → Option Opt
option_behind key.Repr word = option_map Repr (base_of word)
option_behind key.Packed word = if is_empty word then Some Packed else None
option_behind key.Id word = option_map Id (number_of word)
option_behind key.Mod word = option_map Mod (path_of word)
option_behind key.Param word = param_of word
option_behind key.Base word = option_map Base (variance_of word)
option_behind key.Covariant word = dep_of position.Covariant word
option_behind key.Contravariant word = dep_of position.Contravariant word
option_behind key.Invariant word = dep_of position.Invariant word

-- what stands behind a beginning, if the word begins so
abbrev pub behind : List ℕ → List ℕ → Option (List ℕ)
behind [] word = Some word
behind (b ∷ front) [] = None
behind (b ∷ front) (c ∷ word) = if c == b then behind front word else None

-- the first of some beginnings that a word has, and what stands behind it
abbrev pub key_in : List OptionKey → List ℕ → Option (OptionKey × List ℕ)
key_in [] word = None
key_in (k ∷ others) word = option_or (option_map (λ rest. (k, rest)) (behind (word_of_key k) word)) (key_in others word)

-- the option that a word is
abbrev pub option_of : List ℕ → Option Opt
option_of word = option_and_then (λ found. option_behind found.0 found.1) (key_in option_keys word)

-- what an option begins with when it is written
abbrev pub key_of : Opt → OptionKey
key_of (Repr b) = key.Repr
key_of Packed = key.Packed
key_of (Id n) = key.Id
key_of (Mod path) = key.Mod
key_of (Param name shape) = key.Param
key_of (Base v) = key.Base
key_of (Dep position.Covariant shape) = key.Covariant
key_of (Dep position.Contravariant shape) = key.Contravariant
key_of (Dep position.Invariant shape) = key.Invariant

-- what is written behind it
abbrev pub spell_behind : Opt → List ℕ
spell_behind (Repr b) = spell_base b
spell_behind Packed = []
spell_behind (Id n) = decimal n
spell_behind (Mod path) = path
spell_behind (Param name shape) = name ++ 58 ∷ 35 ∷ decimal shape.0
spell_behind (Base v) = spell_variance v
spell_behind (Dep p shape) = 35 ∷ decimal shape.0

-- the word that an option is written as
abbrev pub spell_option : Opt → List ℕ
spell_option o = word_of_key (key_of o) ++ spell_behind o

-- an option can be written: its numbers have at most nine digits, its names are names and its path is a path
abbrev pub IsOption : Opt → Type 0
IsOption (Id n) = n < 10 ^ 9
IsOption (Mod path) = is_path path ≡ true
IsOption (Param name shape) = (is_name name ≡ true) × (shape.0 < 10 ^ 9)
IsOption (Dep p shape) = shape.0 < 10 ^ 9
IsOption _ = Unit {0}

-- the place of an option in the order
abbrev pub rank : Opt → ℕ
rank (Repr b) = 0
rank Packed = 1
rank (Id n) = 2
rank (Mod path) = 3
rank (Param name shape) = 4
rank (Base v) = 5
rank (Dep p shape) = 6

-- the least rank that may follow it: parameters and dependencies may stand more than once
abbrev pub next_rank : Opt → ℕ
next_rank (Param name shape) = 4
next_rank (Dep p shape) = 6
next_rank o = rank o + 1

-- an option may stand before another
abbrev pub may_precede : Opt → Opt → Bool
may_precede o other = nat_le (next_rank o) (rank other)

-- each option may stand before all that follow it
abbrev pub are_ordered : List Opt → Bool
are_ordered [] = true
are_ordered (o ∷ options) = list_all (may_precede o) options && are_ordered options

-- an opaque has no representation and isn't packed
abbrev pub is_for_opaque : Opt → Bool
is_for_opaque (Repr b) = false
is_for_opaque Packed = false
is_for_opaque _ = true
