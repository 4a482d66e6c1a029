-- A line is a command exactly where it is the spelling of one that can be written.
use Rattle.std.proofs.Common.{◌≡◌, ℕ, zero, suc, ◌&&◌, Bool, true, false, List, [], ◌∷◌, Option, None, Some, refl, sym, ap, ◌∙◌, subst}
use Rattle.std.specs.List.{list_any, list_all, slice_get}
use Rattle.std.specs.Option.{option_and_then, option_or}
use Rattle.std.proofs.lemmas.Bool.{and_parts, or_from}
use Rattle.std.proofs.lemmas.List.Folds.{list_any-append}
use Rattle.std.proofs.lemmas.Option.{same_Some, option_and_then_some}
use Rattle.facet_words.specs.Words.{is_space}
use Rattle.facet_grammar.specs.declared.token.Part.{Part}
use Rattle.facet_grammar.specs.declared.token.Part.TheVariants as part
use Rattle.facet_grammar.specs.declared.token.Token.{Token}
use Rattle.facet_grammar.specs.declared.row.Row.{Row}
use Rattle.facet_grammar.specs.declared.command.Command.{Command}
use Rattle.facet_grammar.specs.Keywords.{text_of}
use Rattle.facet_grammar.specs.Grammar.{read_row, read_rows, command_of, spelling, IsWritable}
use Rattle.facet_grammar.specs.Rows.{rows, form_of, command_from, row_of, tokens_of}
use Rattle.facet_grammar.specs.Pieces.{pieces_of, joined, ArePieces}
use Rattle.facet_grammar.specs.Tokens.{spell_token}
use Rattle.facet_grammar.specs.Forms.{read_tokens, spell_tokens, AreTokens, is_form}
use Rattle.facet_grammar.proofs.Apart.{are_apart, apart_read}
use Rattle.facet_grammar.proofs.Inverse.{tokens_spelled, tokens_read}
use Rattle.facet_grammar.proofs.Keywords.{word_of_keyword}
use Rattle.facet_grammar.proofs.OneToken.{token_pieces}
use Rattle.facet_grammar.proofs.Pieces.{joined_pieces, pieces_joined, pieces_whole}
use Rattle.facet_grammar.proofs.Table.{command_has_tokens, is_listed}

-- no line is read by two rows of a table
abbrev all_apart : List Row → Bool
all_apart [] = true
all_apart (row ∷ others) = list_all (λ other. are_apart (form_of row) (form_of other)) others && all_apart others

-- what a test says of all rows it says of the row at an index
pub passes_at : {A : Type 0} (test : A → Bool) (xs : List A) (i : ℕ) (x : A) → list_all test xs ≡ true → slice_get xs i ≡ Some x → test x ≡ true
passes_at test [] zero x h e = let no : ⊥ = cc in absurd no
passes_at test [] (suc i) x h e = let no : ⊥ = cc in absurd no
passes_at test (y ∷ xs) zero x h e = ap test (sym (same_Some y x e)) ∙ (and_parts _ _ h).0
passes_at test (y ∷ xs) (suc i) x h e = passes_at test xs i x (and_parts _ _ h).1 e

-- what a row's reading of pieces says
record IsRead (row : Row) (pieces : List (List ℕ)) (command : Command) : Type 0 where
  tokens : List Token
  read : read_tokens (form_of row) pieces ≡ Some tokens
  command_from_tokens : command_from row tokens ≡ Some command

-- what a row reads, taken apart
row_read : (row : Row) (pieces : List (List ℕ)) (command : Command) → read_row row pieces ≡ Some command → IsRead row pieces command
row_read row pieces command e =
    option_and_then_some (command_from row) (read_tokens (form_of row) pieces) command e
    (λ tokens read from. record { tokens = tokens; read = read; command_from_tokens = from })

-- where the first finds nothing the next decides
or_first : (found next : Option Command) (command : Command) → ((other : Command) → found ≡ Some other → ⊥) → next ≡ Some command → option_or found next ≡ Some command
or_first None next command none e = e
or_first (Some other) next command none e = absurd (none other refl)

-- the row at an index reads what it reads, if the rows are apart
first_read : (table : List Row) (i : ℕ) (row : Row) (pieces : List (List ℕ)) (command : Command)
    → all_apart table ≡ true → slice_get table i ≡ Some row → read_row row pieces ≡ Some command → read_rows table pieces ≡ Some command
first_read [] zero row pieces command apart at e = let no : ⊥ = cc in absurd no
first_read [] (suc i) row pieces command apart at e = let no : ⊥ = cc in absurd no
first_read (first ∷ table) zero row pieces command apart at e =
    ap (λ r. option_or (read_row r pieces) (read_rows table pieces)) (same_Some first row at) ∙ ap (λ found. option_or found (read_rows table pieces)) e
first_read (first ∷ table) (suc i) row pieces command apart at e =
    let parts : (list_all (λ other. are_apart (form_of first) (form_of other)) table ≡ true) × (all_apart table ≡ true) = and_parts _ _ apart in
    let here : are_apart (form_of first) (form_of row) ≡ true = passes_at (λ other. are_apart (form_of first) (form_of other)) table i row parts.0 at in
    let rest = first_read table i row pieces command parts.1 at e in
    let last = row_read row pieces command e in
    or_first (read_row first pieces) _ command (λ other found. let read = row_read first pieces other found in apart_read (form_of first) (form_of row) pieces read.tokens last.tokens here read.read last.read) rest

-- a command that the table reads is read by one of its rows
some_row : (table : List Row) (pieces : List (List ℕ)) (command : Command) → read_rows table pieces ≡ Some command → (row : Row) × IsRead row pieces command
some_row [] pieces command e = let no : ⊥ = cc in absurd no
some_row (row ∷ table) pieces command e =
    let cases : (found : Option Command) → read_row row pieces ≡ found → option_or found (read_rows table pieces) ≡ Some command → (row : Row) × IsRead row pieces command =
    λ found. elim found as (λ found. read_row row pieces ≡ found → option_or found (read_rows table pieces) ≡ Some command → (row : Row) × IsRead row pieces command) [
      | None ↦ λ here h. some_row table pieces command h
      | Some other ↦ λ here h. (row, row_read row pieces command (here ∙ h))
    ] in
    cases (read_row row pieces) refl e

-- a line that is a command is its spelling
pub command_spelled : (line : List ℕ) (command : Command) → command_of line ≡ Some command → (spelling command ≡ line) × IsWritable command
unfolding command_of
command_spelled line command e =
    let pieces = pieces_of line in
    let found = some_row rows pieces command e in
    let read = found.1 in
    let of = command_has_tokens found.0 read.tokens command read.command_from_tokens in
    let spelled = tokens_spelled (form_of found.0) pieces read.tokens (pieces_whole line) read.read in (
      (λ i. joined (spell_tokens (form_of (of.same_row i)) (of.same_tokens i))) ∙ ap joined spelled.1 ∙ joined_pieces line,
      subst AreTokens (sym of.same_tokens) spelled.0.written,
    )

-- no piece of tokens has a space, nor has a keyword
form_pieces : (form : List Part) (tokens : List Token) → AreTokens tokens → ArePieces (spell_tokens form tokens)
form_pieces [] tokens h = refl
form_pieces (part.Keyword keyword ∷ form) tokens h = or_from _ _ (word_of_keyword keyword).unspaced (form_pieces form tokens h)
form_pieces (part.Token k ∷ form) [] h = refl
form_pieces (part.Token k ∷ form) (token ∷ tokens) h = list_any-append (list_any is_space) (spell_token token) (spell_tokens form tokens) ∙ or_from _ _ (token_pieces token h.0) (form_pieces form tokens h.1)

-- a form begins with a keyword
abbrev pub begins : List Part → Bool
begins (part.Keyword keyword ∷ form) = true
begins _ = false

-- so does each row's
pub row_begins : (command : Command) → begins (form_of (row_of command)) ≡ true
row_begins command = let listed = is_listed command in passes_at (λ r. begins (form_of r)) rows listed.index (row_of command) refl listed.listed

-- the pieces of what begins with a keyword are those of their text
spelled_joined : (form : List Part) (tokens : List Token) → begins form ≡ true → AreTokens tokens → pieces_of (joined (spell_tokens form tokens)) ≡ spell_tokens form tokens
spelled_joined [] tokens b h = let no : ⊥ = cc in absurd no
spelled_joined (part.Keyword keyword ∷ form) tokens b h = pieces_joined (text_of keyword) (spell_tokens form tokens) (form_pieces (part.Keyword keyword ∷ form) tokens h)
spelled_joined (part.Token k ∷ form) tokens b h = let no : ⊥ = cc in absurd no

-- the spelling of a command that can be written is read as this command
pub spelling_read : (command : Command) → IsWritable command → command_of (spelling command) ≡ Some command
unfolding command_of
spelling_read command h =
    let listed = is_listed command in
    let row = row_of command in
    let tokens = tokens_of command in
    let pieces = spell_tokens (form_of row) tokens in
    let form : is_form (form_of row) ≡ true = passes_at (λ r. is_form (form_of r)) rows listed.index row refl listed.listed in
    let read : read_row row pieces ≡ Some command = ap (option_and_then (command_from row)) (tokens_read (form_of row) tokens form listed.kinds h) ∙ listed.back in
    ap (read_rows rows) (spelled_joined (form_of row) tokens (row_begins command) h) ∙ first_read rows listed.index row pieces command refl listed.listed read
