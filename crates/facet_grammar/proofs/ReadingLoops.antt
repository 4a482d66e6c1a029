-- What the code's loops find is what the definitions say.
use Rattle.std.proofs.Common.{◌≡◌, ℕ, suc, ◌+◌, ◌∷◌, ◌<◌, ◌≤◌, true, List, [], ◌++◌, take, drop, drop-cons, get_or, length, Option, None, Some, option_map, refl, sym, ap, ◌∙◌, arith}
use Rattle.std.specs.List.{prefix_len}
use Rattle.std.specs.Option.{option_and_then}
use Rattle.std.proofs.lemmas.Bool.{cond-true}
use Rattle.std.proofs.lemmas.List.{append-nil, append_assoc, drop_all}
use Rattle.facet_grammar.specs.declared.command.Command.{Command}
use Rattle.facet_grammar.specs.declared.row.Row.{Row}
use Rattle.facet_grammar.specs.declared.token.Kind.{Kind}
use Rattle.facet_grammar.specs.declared.token.Part.{Part}
use Rattle.facet_grammar.specs.declared.token.Part.TheVariants as part
use Rattle.facet_grammar.specs.declared.token.Token.{Token}
use Rattle.facet_grammar.specs.Grammar.{read_row}
use Rattle.facet_grammar.specs.Rows.{form_of, command_from, row_of, tokens_of}
use Rattle.facet_grammar.specs.Pieces.{pieces_of, pieces_behind}
use Rattle.facet_declaration.specs.Cuts.{read_each}
use Rattle.facet_grammar.specs.Tokens.{takes, taken, left, read_words, read_token}
use Rattle.facet_grammar.specs.Forms.{read_tokens, kinds_are}
use Rattle.facet_grammar.proofs.Inverse.{tokens_spelled}
use Rattle.facet_grammar.proofs.OneToken.{one_more}
use Rattle.facet_grammar.proofs.Pieces.{pieces_some, pieces_whole}
use Rattle.facet_grammar.proofs.Table.{is_listed}

-- behind the last token stands something
pub some_left : (form : List Part) (i : ℕ) (tokens : List Token) (rest : Option (List ℕ)) (text : List ℕ) (all : Option (List Token))
    → length form ≤ i → rest ≡ Some text → option_map (λ more. tokens ++ more) (read_tokens (drop i form) (pieces_behind rest)) ≡ all → None ≡ all
some_left form i tokens rest text all past here e =
    let first = pieces_some text in
    sym (ap (λ kinds. option_map (λ more. tokens ++ more) (read_tokens kinds (pieces_behind rest))) (drop_all i form past)
    ∙ ap (λ r. option_map (λ more. tokens ++ more) (read_tokens [] (pieces_behind r))) here
    ∙ ap (λ pieces. option_map (λ more. tokens ++ more) (read_tokens [] pieces)) first.1)
    ∙ e

-- or nothing
pub none_left : (form : List Part) (i : ℕ) (tokens : List Token) (rest : Option (List ℕ)) (all : Option (List Token))
    → length form ≤ i → rest ≡ None → option_map (λ more. tokens ++ more) (read_tokens (drop i form) (pieces_behind rest)) ≡ all → Some tokens ≡ all
none_left form i tokens rest all past here e =
    sym (ap (λ kinds. option_map (λ more. tokens ++ more) (read_tokens kinds (pieces_behind rest))) (drop_all i form past)
    ∙ ap (λ r. option_map (λ more. tokens ++ more) (read_tokens [] (pieces_behind r))) here
    ∙ ap Some (append-nil tokens))
    ∙ e

-- the part at an index stands before the parts that are left behind it
pub part_left : (form : List Part) (i : ℕ) (d here : Part) → i < length form → get_or form i d ≡ here → drop i form ≡ here ∷ drop (i + 1) form
part_left form i d here within is =
    let next : suc i ≡ i + 1 = omega arith in
    drop-cons form i d within ∙ (λ j. is j ∷ drop (next j) form)

-- a token that was read goes behind those before it
pub token_step : (form behind : List Part) (k : Kind) (tokens pushed : List Token) (rest after : List (List ℕ)) (token : Token) (all : Option (List Token))
    → form ≡ part.Token k ∷ behind → read_token k rest ≡ Some (token, after) → pushed ≡ tokens ++ token ∷ [] → option_map (λ more. tokens ++ more) (read_tokens form rest) ≡ all
    → option_map (λ more. pushed ++ more) (read_tokens behind after) ≡ all
token_step form behind k tokens pushed rest after token all same is longer before =
    ap (λ front. option_map (λ more. front ++ more) (read_tokens behind after)) longer
    ∙ sym (ap (λ f. option_map (λ more. tokens ++ more) (read_tokens f rest)) same
    ∙ ap (λ found. option_map (λ more. tokens ++ more) (option_and_then (λ first. option_map (λ ts. first.0 ∷ ts) (read_tokens behind first.1)) found)) is
    ∙ twice (read_tokens behind after))
    ∙ before
  where
    twice : (more : Option (List Token)) → option_map (λ more. tokens ++ more) (option_map (λ ts. token ∷ ts) more) ≡ option_map (λ more. (tokens ++ token ∷ []) ++ more) more
    twice None = refl
    twice (Some more) = ap Some (sym (append_assoc tokens (token ∷ []) more))

-- tokens that were read from a text are of the form's kinds
pub read_kinds : (form : List Part) (text : List ℕ) (tokens : List Token) → read_tokens form (pieces_of text) ≡ Some tokens → kinds_are form tokens ≡ true
read_kinds form text tokens e = (tokens_spelled form (pieces_of text) tokens (pieces_whole text) e).0.kinds

-- the command that has the tokens read is what the row reads
pub row_made : (row : Row) (pieces : List (List ℕ)) (tokens : List Token) (command : Command)
    → read_tokens (form_of row) pieces ≡ Some tokens → row_of command ≡ row → tokens_of command ≡ tokens → Some command ≡ read_row row pieces
row_made row pieces tokens command read is_row are_tokens =
    let back : command_from row tokens ≡ Some command = (λ i. command_from (sym is_row i) (sym are_tokens i)) ∙ (is_listed command).back in
    sym (ap (option_and_then (command_from row)) read ∙ back)

-- tokens that a call read by a form
pub read_by : {Q : Type 0} (items : Q → List Token) (form given : List Part) (pieces : List (List ℕ)) (found : Option Q) (tokens : Q)
    → given ≡ form → option_map items found ≡ read_tokens given pieces → found ≡ Some tokens → read_tokens form pieces ≡ Some (items tokens)
read_by items form given pieces found tokens same read is = ap (λ f. read_tokens f pieces) (sym same) ∙ sym read ∙ ap (option_map items) is

-- words in a row

-- words and the pieces behind them
abbrev pub put_before : {X : Type 0} → List X → List X × List (List ℕ) → List X × List (List ℕ)
put_before words more = (words ++ more.0, more.1)

-- where the first piece is taken it is the first word, before those behind it
pub next_word : {X : Type 0} (k : Kind) (of : List ℕ → Option X) (piece : List ℕ) (pieces : List (List ℕ)) → takes k piece ≡ true
    → read_words k of (piece ∷ pieces) ≡ option_and_then (λ word. option_map (put_before (word ∷ [])) (read_words k of pieces)) (of piece)
next_word {X} k of piece pieces pass =
    ap (λ n. option_map {U = List X × List (List ℕ)} (λ words. (words, drop n (piece ∷ pieces))) (read_each of (take n (piece ∷ pieces)))) (cond-true (takes k piece) _ _ pass ∙ one_more (prefix_len (takes k) pieces))
    ∙ cases (of piece) (read_each of (taken k pieces))
  where
    cases : (word : Option X) (more : Option (List X)) → option_map {U = List X × List (List ℕ)} (λ words. (words, left k pieces)) (option_and_then (λ w. option_map (λ ws. w ∷ ws) more) word) ≡ option_and_then (λ w. option_map (put_before (w ∷ [])) (option_map {U = List X × List (List ℕ)} (λ words. (words, left k pieces)) more)) word
    cases None more = refl
    cases (Some w) None = refl
    cases (Some w) (Some ws) = refl

-- a word that was read goes behind those before it
pub words_step : {X : Type 0} (k : Kind) (of : List ℕ → Option X) (words pushed : List X) (rest : List (List ℕ)) (piece : List ℕ) (after : List (List ℕ)) (word : X) (all : Option (List X × List (List ℕ)))
    → rest ≡ piece ∷ after → takes k piece ≡ true → of piece ≡ Some word → pushed ≡ words ++ word ∷ [] → option_map (put_before words) (read_words k of rest) ≡ all
    → option_map (put_before pushed) (read_words k of after) ≡ all
words_step {X} k of words pushed rest piece after word all same pass is longer before =
    ap (λ front. option_map (put_before front) (read_words k of after)) longer
    ∙ sym (ap (λ pieces. option_map (put_before words) (read_words k of pieces)) same
    ∙ ap (option_map (put_before words)) (next_word k of piece after pass ∙ ap (option_and_then (λ w. option_map (put_before (w ∷ [])) (read_words k of after))) is)
    ∙ twice (read_words k of after))
    ∙ before
  where
    twice : (more : Option (List X × List (List ℕ))) → option_map (put_before words) (option_map (put_before (word ∷ [])) more) ≡ option_map (put_before (words ++ word ∷ [])) more
    twice None = refl
    twice (Some more) = ap (λ front. Some (front, more.1)) (sym (append_assoc words (word ∷ []) more.0))
