-- A form is a list of keywords and kinds of tokens. Pieces are read as the tokens of a form, and written.
use Rattle.std.specs.Prelude.{◌≡◌, ◌↔◌, ◌&&◌, ◌||◌, Bool, true, false, List, [], ◌∷◌, ◌++◌, drop, Option, None, Some, option_map, if◌then◌else◌, bytes_eq, ℕ}
use Rattle.std.specs.List.{AllByRecursion}
use Rattle.std.specs.Option.{option_and_then}
use Rattle.facet_grammar.specs.declared.keyword.Keyword.{Keyword}
use Rattle.facet_grammar.specs.declared.token.Kind.{Kind}
use Rattle.facet_grammar.specs.declared.token.Kind.TheVariants as kind
use Rattle.facet_grammar.specs.declared.token.Part.{Part}
use Rattle.facet_grammar.specs.declared.token.Part.TheVariants as part
use Rattle.facet_grammar.specs.declared.token.Token.{Token}
use Rattle.facet_grammar.specs.Keywords.{text_of}
use Rattle.facet_grammar.specs.Pieces.{ArePieces}
use Rattle.facet_grammar.specs.Tokens.{is_single, read_token, spell_token, is_of, IsToken}

-- the pieces behind a keyword, where the first piece is this keyword
abbrev pub behind_keyword : Keyword → List (List ℕ) → Option (List (List ℕ))
behind_keyword keyword [] = None
behind_keyword keyword (piece ∷ pieces) = if bytes_eq piece (text_of keyword) then Some pieces else None

-- the tokens of a form that the pieces are, all of them
abbrev pub read_tokens : List Part → List (List ℕ) → Option (List Token)
read_tokens [] [] = Some []
read_tokens [] (piece ∷ pieces) = None
read_tokens (part.Keyword keyword ∷ form) pieces = option_and_then (λ behind. read_tokens form behind) (behind_keyword keyword pieces)
read_tokens (part.Token k ∷ form) pieces = option_and_then (λ first. option_map (λ tokens. first.0 ∷ tokens) (read_tokens form first.1)) (read_token k pieces)

-- the pieces that the tokens of a form are written as, with its keywords
abbrev pub spell_tokens : List Part → List Token → List (List ℕ)
spell_tokens [] tokens = []
spell_tokens (part.Keyword keyword ∷ form) tokens = text_of keyword ∷ spell_tokens form tokens
spell_tokens (part.Token k ∷ form) [] = []
spell_tokens (part.Token k ∷ form) (token ∷ tokens) = spell_token token ++ spell_tokens form tokens

-- there is a first token, and it is of a kind
abbrev pub starts_with : Kind → List Token → Bool
starts_with k [] = false
starts_with k (token ∷ tokens) = is_of k token

-- there is none
abbrev pub is_empty : {A : Type 0} → List A → Bool
is_empty [] = true
is_empty (x ∷ xs) = false

-- tokens are of a form's kinds, in order
abbrev pub kinds_are : List Part → List Token → Bool
kinds_are [] tokens = is_empty tokens
kinds_are (part.Keyword keyword ∷ form) tokens = kinds_are form tokens
kinds_are (part.Token k ∷ form) tokens = starts_with k tokens && kinds_are form (drop 1 tokens)

-- each of them can be written
abbrev pub AreTokens : List Token → Type 0
AreTokens tokens = AllByRecursion IsToken tokens

-- a token of these kinds begins with no dot
abbrev pub is_undotted : Kind → Bool
is_undotted kind.Fields = true
is_undotted kind.Variants = true
is_undotted _ = false

-- options end before such a token
abbrev pub options_end : Kind → List Part → Bool
options_end kind.Options (part.Token k ∷ form) = is_undotted k
options_end kind.OpaqueOptions (part.Token k ∷ form) = is_undotted k
options_end _ _ = false

-- what stands behind a token of this kind begins with no piece that the token would take
abbrev pub ends_before : Kind → List Part → Bool
ends_before k form = is_single k || is_empty form || options_end k form

-- so it is for each kind of a form
abbrev pub is_form : List Part → Bool
is_form [] = true
is_form (part.Keyword keyword ∷ form) = is_form form
is_form (part.Token k ∷ form) = ends_before k form && is_form form

-- tokens that can be written, of a form's kinds
pub record Fits (form : List Part) (tokens : List Token) : Type 0 where
  pub kinds : kinds_are form tokens ≡ true
  pub written : AreTokens tokens

-- pieces read as tokens exactly where the tokens fit the form and are written as these pieces
abbrev pub AreInverse : List Part → Type 0
AreInverse form = (pieces : List (List ℕ)) (tokens : List Token) → ArePieces pieces
    → (read_tokens form pieces ≡ Some tokens) ↔ (Fits form tokens × (spell_tokens form tokens ≡ pieces))
