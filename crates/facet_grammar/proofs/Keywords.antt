-- The keywords: each is one piece, and stands at the front of the pieces that it is read from.
use Rattle.std.proofs.Common.{◌≡◌, ℕ, List, [], ◌∷◌, Some, bytes_eq, refl, sym}
use Rattle.std.proofs.lemmas.Bool.{cond-true}
use Rattle.std.proofs.lemmas.Option.{cond_some}
use Rattle.std.proofs.lemmas.Slice.Eq.{bytes_eq-Decides}
use Rattle.facet_words.proofs.WordBytes.{IsWord, word_tested}
use Rattle.facet_grammar.specs.declared.keyword.Keyword.{Keyword}
use Rattle.facet_grammar.specs.declared.keyword.Keyword.TheVariants as keyword
use Rattle.facet_grammar.specs.Keywords.{text_of}
use Rattle.facet_grammar.specs.Forms.{behind_keyword}

-- a keyword is one piece
pub word_of_keyword : (keyword : Keyword) → IsWord (text_of keyword)
word_of_keyword keyword.Put = word_tested _ refl
word_of_keyword keyword.Default = word_tested _ refl
word_of_keyword keyword.Seal = word_tested _ refl
word_of_keyword keyword.Shape = word_tested _ refl
word_of_keyword keyword.Option = word_tested _ refl
word_of_keyword keyword.List = word_tested _ refl
word_of_keyword keyword.Set = word_tested _ refl
word_of_keyword keyword.Slice = word_tested _ refl
word_of_keyword keyword.Box = word_tested _ refl
word_of_keyword keyword.BoxedSlice = word_tested _ refl
word_of_keyword keyword.Array = word_tested _ refl
word_of_keyword keyword.Map = word_tested _ refl
word_of_keyword keyword.Result = word_tested _ refl
word_of_keyword keyword.Tuple = word_tested _ refl
word_of_keyword keyword.Struct = word_tested _ refl
word_of_keyword keyword.TupleStruct = word_tested _ refl
word_of_keyword keyword.Enum = word_tested _ refl
word_of_keyword keyword.Opaque = word_tested _ refl
word_of_keyword keyword.Unsized = word_tested _ refl
word_of_keyword keyword.Scalar = word_tested _ refl

-- what stands behind a keyword
pub keyword_found : (keyword : Keyword) (pieces behind : List (List ℕ)) → behind_keyword keyword pieces ≡ Some behind → text_of keyword ∷ behind ≡ pieces
keyword_found keyword [] behind e = let no : ⊥ = cc in absurd no
keyword_found keyword (piece ∷ pieces) behind e =
    let found = cond_some (bytes_eq piece (text_of keyword)) pieces behind e in
    let same : piece ≡ text_of keyword = (bytes_eq-Decides piece (text_of keyword)).0 found.0 in
    (λ i. sym same i ∷ sym found.1 i)

-- a keyword is found where it stands
pub keyword_read : (keyword : Keyword) (behind : List (List ℕ)) → behind_keyword keyword (text_of keyword ∷ behind) ≡ Some behind
keyword_read keyword behind = cond-true _ _ _ ((bytes_eq-Decides (text_of keyword) (text_of keyword)).1 refl)
