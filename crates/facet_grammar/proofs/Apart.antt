-- Two forms that no line fits both.
use Rattle.std.proofs.Common.{◌≡◌, ℕ, ◌&&◌, ◌||◌, Bool, true, false, not, List, [], ◌∷◌, Option, Some, bytes_eq, refl, sym, ap, ◌∙◌}
use Rattle.std.specs.Option.{is_some}
use Rattle.std.proofs.lemmas.Bool.{cond-true, and_parts, both_ways, not-true}
use Rattle.std.proofs.lemmas.Option.{cond_some, option_and_then_some}
use Rattle.std.proofs.lemmas.Slice.Eq.{bytes_eq-Decides}
use Rattle.facet_grammar.specs.declared.keyword.Keyword.{Keyword}
use Rattle.facet_grammar.specs.declared.token.Part.{Part}
use Rattle.facet_grammar.specs.declared.token.Part.TheVariants as part
use Rattle.facet_grammar.specs.declared.token.Token.{Token}
use Rattle.facet_grammar.specs.Keywords.{text_of}
use Rattle.facet_grammar.specs.Tokens.{is_single, read_piece, read_first, read_token}
use Rattle.facet_grammar.specs.Forms.{behind_keyword, read_tokens}
use Rattle.facet_words.proofs.Numbers.{map_some}

-- a part takes one piece
abbrev pub takes_one : Part → Bool
takes_one (part.Keyword keyword) = true
takes_one (part.Token k) = is_single k

-- a part that takes one piece takes this one
abbrev pub is_read : Part → List ℕ → Bool
is_read (part.Keyword keyword) piece = bytes_eq piece (text_of keyword)
is_read (part.Token k) piece = is_some (read_piece k piece)

-- of two parts one is a keyword that the other doesn't take
abbrev pub no_common : Part → Part → Bool
no_common (part.Keyword keyword) other = not (is_read other (text_of keyword))
no_common (part.Token k) (part.Keyword keyword) = not (is_read (part.Token k) (text_of keyword))
no_common (part.Token k) (part.Token other) = false

-- two forms have such parts at one index, or one ends where the other goes on, and each part before takes one piece
abbrev pub are_apart : List Part → List Part → Bool
are_apart [] [] = false
are_apart [] (first ∷ form) = takes_one first
are_apart (first ∷ form) [] = takes_one first
are_apart (first ∷ form) (second ∷ other) = takes_one first && takes_one second && (no_common first second || are_apart form other)

-- what a part has read that takes one piece
record HasRead (first : Part) (form : List Part) (pieces : List (List ℕ)) : Type 0 where
  piece : List ℕ
  behind : List (List ℕ)
  more : List Token
  cut : piece ∷ behind ≡ pieces
  fits : is_read first piece ≡ true
  read : read_tokens form behind ≡ Some more

-- a token that was found
found_some : {A : Type 0} (o : Option A) (x : A) → o ≡ Some x → is_some o ≡ true
found_some o x e = ap is_some e

-- a part that takes one piece has read the first one
one_read : (first : Part) (form : List Part) (pieces : List (List ℕ)) (tokens : List Token) → takes_one first ≡ true → read_tokens (first ∷ form) pieces ≡ Some tokens → HasRead first form pieces
one_read (part.Keyword keyword) form [] tokens one e = let no : ⊥ = cc in absurd no
one_read (part.Keyword keyword) form (piece ∷ pieces) tokens one e =
    option_and_then_some _ (behind_keyword keyword (piece ∷ pieces)) tokens e
    (λ behind found then.
    let here = cond_some (bytes_eq piece (text_of keyword)) pieces behind found in
    record { piece = piece; behind = behind; more = tokens; cut = ap (λ more. piece ∷ more) (sym here.1); fits = here.0; read = then })
one_read (part.Token k) form pieces tokens one e =
    option_and_then_some _ (read_token k pieces) tokens e
    (λ first found then.
    let more = map_some (λ tokens. first.0 ∷ tokens) (read_tokens form first.1) tokens then in
    let here : read_first k pieces ≡ Some first = sym (cond-true _ _ _ one) ∙ found in
    token_first pieces first here more.0 more.1)
  where
    token_first : (pieces : List (List ℕ)) (first : Token × List (List ℕ)) → read_first k pieces ≡ Some first → (more : List Token) → read_tokens form first.1 ≡ Some more → HasRead (part.Token k) form pieces
    token_first [] first here more then = let no : ⊥ = cc in absurd no
    token_first (piece ∷ pieces) first here more then =
        let found = map_some {B = Token × List (List ℕ)} (λ t. (t, pieces)) (read_piece k piece) first here in
        record { piece = piece; behind = first.1; more = more; cut = ap (λ f. piece ∷ f.1) (sym found.2); fits = found_some _ _ found.1; read = then }

-- a keyword that was read is the piece
same_keyword : (keyword : Keyword) (piece : List ℕ) → is_read (part.Keyword keyword) piece ≡ true → piece ≡ text_of keyword
same_keyword keyword piece h = (bytes_eq-Decides piece (text_of keyword)).0 h

-- a piece that both take
common_piece : (first second : Part) (piece : List ℕ) → no_common first second ≡ true → is_read first piece ≡ true → is_read second piece ≡ true → ⊥
common_piece (part.Keyword keyword) second piece apart one two = both_ways _ (not-true _ apart) (ap (is_read second) (sym (same_keyword keyword piece one)) ∙ two)
common_piece (part.Token k) (part.Keyword keyword) piece apart one two = both_ways _ (not-true _ apart) (ap (is_read (part.Token k)) (sym (same_keyword keyword piece two)) ∙ one)
common_piece (part.Token k) (part.Token other) piece apart one two = let wrong : ⊥ = cc in absurd wrong

-- the two ways in which forms go apart
apart_cases : (here later : Bool) (A : Type 0) → (here || later) ≡ true → (here ≡ true → A) → (later ≡ true → A) → A
apart_cases true later A h one two = one refl
apart_cases false later A h one two = two h

-- a part that takes one piece reads nothing from none
none_read : (first : Part) (form : List Part) (tokens : List Token) → takes_one first ≡ true → read_tokens (first ∷ form) [] ≡ Some tokens → ⊥
none_read first form tokens one e = let x = one_read first form [] tokens one e in none_cut x.piece x.behind x.cut
  where
    none_cut : (piece : List ℕ) (behind : List (List ℕ)) → piece ∷ behind ≡ [] → ⊥
    none_cut piece behind e = cc

-- two lists of pieces that are the same have the same first piece, and the same behind it
same_parts : (p q : List ℕ) (ps qs : List (List ℕ)) → p ∷ ps ≡ q ∷ qs → (p ≡ q) × (ps ≡ qs)
same_parts p q ps qs e = (cc, cc)

-- no pieces are read by two forms that are apart
pub apart_read : (form other : List Part) (pieces : List (List ℕ)) (tokens second : List Token) → are_apart form other ≡ true → read_tokens form pieces ≡ Some tokens → read_tokens other pieces ≡ Some second → ⊥
apart_read [] [] pieces tokens second apart r s = let no : ⊥ = cc in no
apart_read [] (part ∷ other) [] tokens second apart r s = none_read part other second apart s
apart_read [] (part ∷ other) (piece ∷ pieces) tokens second apart r s = let no : ⊥ = cc in no
apart_read (part ∷ form) [] [] tokens second apart r s = none_read part form tokens apart r
apart_read (part ∷ form) [] (piece ∷ pieces) tokens second apart r s = let no : ⊥ = cc in no
apart_read (a ∷ form) (b ∷ other) pieces tokens second apart r s =
    let parts : (takes_one a && takes_one b ≡ true) × ((no_common a b || are_apart form other) ≡ true) = and_parts _ _ apart in
    let ones : (takes_one a ≡ true) × (takes_one b ≡ true) = and_parts _ _ parts.0 in
    let x = one_read a form pieces tokens ones.0 r in
    let y = one_read b other pieces second ones.1 s in
    let same = same_parts x.piece y.piece x.behind y.behind (x.cut ∙ sym y.cut) in
    apart_cases (no_common a b) (are_apart form other) ⊥ parts.1
    (λ here. common_piece a b x.piece here x.fits (ap (is_read b) same.0 ∙ y.fits))
    (λ later. apart_read form other x.behind x.more y.more later x.read (ap (read_tokens other) same.1 ∙ y.read))
