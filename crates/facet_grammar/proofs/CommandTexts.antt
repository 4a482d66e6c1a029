-- A line that is a command is a text: UTF-8 without a newline.
use Rattle.std.proofs.Common.{◌≡◌, ℕ, ◌+◌, ◌<◌, true, false, List, [], ◌∷◌, ◌++◌, length, get_or, Some, refl, sym, ap, ◌∙◌, subst, arith, lit<}
use Rattle.std.specs.List.{list_any, AllByRecursion}
use Rattle.std.specs.Str.{IsUtf8}
use Rattle.std.proofs.Math.Seq.{take-append_seam, drop-append-add}
use Rattle.std.proofs.lemmas.Bool.{or_parts, or_from}
use Rattle.std.proofs.lemmas.List.{get_or_at, length-append}
use Rattle.std.proofs.lemmas.List.Folds.{list_any-append}
use Rattle.std.proofs.lemmas.Str.{IsUtf8-append, IsUtf8-drop, IsUtf8-take, IsCharBoundary-after_ascii, IsCharBoundary-before_ascii, IsUtf8-from_ascii}
use Rattle.std.proofs.lemmas.Str.Ascii.{IsAscii-nil, IsAscii-cons}
use Rattle.facet_words.specs.Words.{is_newline}
use Rattle.facet_words.proofs.WordBytes.{IsText, IsWord, text_tested, text_of_word}
use Rattle.facet_grammar.specs.declared.token.Part.{Part}
use Rattle.facet_grammar.specs.declared.token.Part.TheVariants as part
use Rattle.facet_grammar.specs.declared.token.Token.{Token}
use Rattle.facet_grammar.specs.declared.token.Token.TheVariants.{Rest}
use Rattle.facet_grammar.specs.declared.command.Command.{Command}
use Rattle.facet_grammar.specs.Grammar.{command_of}
use Rattle.facet_grammar.specs.Keywords.{text_of}
use Rattle.facet_grammar.specs.Rows.{form_of, row_of, tokens_of}
use Rattle.facet_grammar.specs.Pieces.{pieces_of, joined}
use Rattle.facet_grammar.specs.Tokens.{spell_token, IsToken}
use Rattle.facet_grammar.specs.Forms.{spell_tokens, AreTokens}
use Rattle.facet_grammar.proofs.Keywords.{word_of_keyword}
use Rattle.facet_grammar.proofs.OneToken.{token_words}
use Rattle.facet_grammar.proofs.Pieces.{pieces_some, joined_pieces}
use Rattle.facet_grammar.proofs.Spellings.{begins, row_begins, command_spelled}

-- each piece is a text
abbrev AreTexts : List (List ℕ) → Type 0
AreTexts [] = Unit {0}
AreTexts (piece ∷ pieces) = IsText piece × AreTexts pieces

-- two lists of texts, one behind the other
append_texts : (front behind : List (List ℕ)) → AreTexts front → AreTexts behind → AreTexts (front ++ behind)
append_texts [] behind h r = r
append_texts (piece ∷ front) behind h r = (h.0, append_texts front behind h.1 r)

-- a text behind a text is a text
append_text : (front back : List ℕ) → IsText front → IsText back → IsText (front ++ back)
append_text front back h r = (IsUtf8-append front back h.0 r.0, list_any-append is_newline front back ∙ or_from _ _ h.1 r.1)

-- texts joined by spaces are a text
joined_text : (piece : List ℕ) (pieces : List (List ℕ)) → AreTexts (piece ∷ pieces) → IsText (joined (piece ∷ pieces))
joined_text piece [] h = h.0
joined_text piece (next ∷ pieces) h =
    append_text piece (32 ∷ joined (next ∷ pieces)) h.0 (append_text (32 ∷ []) (joined (next ∷ pieces)) (IsUtf8-from_ascii (32 ∷ []) (IsAscii-cons 32 [] (lit< tt) IsAscii-nil), refl) (joined_text next pieces h.1))

-- the two sides of a space of a text
sides_texts : (front back : List ℕ) → IsText (front ++ (32 ∷ back)) → IsText front × IsText back
sides_texts front back u =
    let bytes = front ++ (32 ∷ back) in
    let space : get_or bytes (length front) 0 ≡ 32 = get_or_at front 32 back 0 (length front) refl in
    let within : length front < length bytes = omega (arith, length-append front (32 ∷ back)) in
    let before = IsCharBoundary-before_ascii bytes (length front) within (omega arith) in
    let after = IsCharBoundary-after_ascii bytes (length front) u.0 within (omega arith) in
    let unbroken : (list_any is_newline front ≡ false) × (list_any is_newline (32 ∷ back) ≡ false) = or_parts _ _ (sym (list_any-append is_newline front (32 ∷ back)) ∙ u.1) in (
      (subst IsUtf8 (take-append_seam front (32 ∷ back)) (IsUtf8-take bytes (length front) u.0 before), unbroken.0),
      (subst IsUtf8 (drop-append-add front (32 ∷ back) 1) (IsUtf8-drop bytes (length front + 1) u.0 after), unbroken.1),
    )

-- and a text that pieces are joined to has texts as its pieces
pieces_texts : (piece : List ℕ) (pieces : List (List ℕ)) → IsText (joined (piece ∷ pieces)) → AreTexts (piece ∷ pieces)
pieces_texts piece [] u = (u, tt)
pieces_texts piece (next ∷ pieces) u =
    let sides = sides_texts piece (joined (next ∷ pieces)) u in
    (sides.0, pieces_texts next pieces sides.1)

-- each piece of a text is a text
text_pieces : (text : List ℕ) → IsText text → AreTexts (pieces_of text)
text_pieces text u =
    let first = pieces_some text in
    subst AreTexts (sym first.1) (pieces_texts first.0.0 first.0.1 (subst IsText (sym (joined_pieces text) ∙ ap joined first.1) u))

-- words are texts
words_texts : (pieces : List (List ℕ)) → AllByRecursion IsWord pieces → AreTexts pieces
words_texts [] h = tt
words_texts (piece ∷ pieces) h = (text_of_word piece h.0, words_texts pieces h.1)

-- a token is written as texts
token_texts : (token : Token) → IsToken token → AreTexts (spell_token token)
token_texts (Rest text) h = text_pieces text (text_tested text h)
token_texts token h = words_texts (spell_token token) (token_words token h)

-- tokens and keywords are written as texts
form_texts : (form : List Part) (tokens : List Token) → AreTokens tokens → AreTexts (spell_tokens form tokens)
form_texts [] tokens h = tt
form_texts (part.Keyword keyword ∷ form) tokens h = (text_of_word _ (word_of_keyword keyword), form_texts form tokens h)
form_texts (part.Token k ∷ form) [] h = tt
form_texts (part.Token k ∷ form) (token ∷ tokens) h = append_texts (spell_token token) (spell_tokens form tokens) (token_texts token h.0) (form_texts form tokens h.1)

-- what begins with a keyword is written as a text
spelled_text : (form : List Part) (tokens : List Token) → begins form ≡ true → AreTokens tokens → IsText (joined (spell_tokens form tokens))
spelled_text [] tokens b h = let no : ⊥ = cc in absurd no
spelled_text (part.Keyword keyword ∷ form) tokens b h = joined_text (text_of keyword) (spell_tokens form tokens) (form_texts (part.Keyword keyword ∷ form) tokens h)
spelled_text (part.Token k ∷ form) tokens b h = let no : ⊥ = cc in absurd no

-- a line that is a command is its spelling, so it is a text
pub command_text : (line : List ℕ) (command : Command) → command_of line ≡ Some command → IsText line
command_text line command e =
    let spelled = command_spelled line command e in
    subst IsText spelled.0 (spelled_text (form_of (row_of command)) (tokens_of command) (row_begins command) spelled.1)
