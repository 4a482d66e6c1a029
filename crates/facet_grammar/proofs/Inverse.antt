-- Reading and writing the tokens of a form are inverse, by induction over the form.
use Rattle.std.proofs.Common.{◌≡◌, ℕ, ◌||◌, Bool, true, false, not, List, [], ◌∷◌, ◌++◌, Some, option_map, refl, sym, ap, ◌∙◌, subst}
use Rattle.std.specs.List.{list_any}
use Rattle.std.specs.Option.{option_and_then}
use Rattle.std.proofs.lemmas.Bool.{and_parts, and_from, or_parts, not_from_false}
use Rattle.std.proofs.lemmas.Option.{same_Some, option_and_then_some}
use Rattle.std.proofs.lemmas.List.Folds.{list_any-append}
use Rattle.facet_words.specs.Words.{is_space}
use Rattle.facet_grammar.specs.declared.token.Kind.{Kind}
use Rattle.facet_grammar.specs.declared.token.Kind.TheVariants as kind
use Rattle.facet_grammar.specs.declared.token.Part.{Part}
use Rattle.facet_grammar.specs.declared.token.Part.TheVariants as part
use Rattle.facet_grammar.specs.declared.token.Token.{Token}
use Rattle.facet_grammar.specs.Keywords.{text_of}
use Rattle.facet_grammar.specs.Pieces.{ArePieces, stops}
use Rattle.facet_grammar.specs.Tokens.{is_single, is_dotted, takes, read_token, spell_token, is_of}
use Rattle.facet_grammar.specs.Forms.{behind_keyword, read_tokens, spell_tokens, is_empty, kinds_are, AreTokens, is_undotted, options_end, ends_before, is_form, Fits, AreInverse}
use Rattle.facet_grammar.proofs.Keywords.{keyword_found, keyword_read}
use Rattle.facet_grammar.proofs.OneToken.{token_spelled, token_read, undotted_first}
use Rattle.facet_words.proofs.Numbers.{map_some}

-- the pieces behind are pieces
behind_whole : (front behind : List (List ℕ)) → ArePieces (front ++ behind) → ArePieces behind
behind_whole front behind h = (or_parts _ _ (sym (list_any-append (list_any is_space) front behind) ∙ h)).1

-- tokens fit a form and are written as these pieces
abbrev AreSpelled : List Part → List (List ℕ) → List Token → Type 0
AreSpelled form pieces tokens = Fits form tokens × (spell_tokens form tokens ≡ pieces)

-- tokens that were read are written as the pieces that they were read from
pub tokens_spelled : (form : List Part) (pieces : List (List ℕ)) (tokens : List Token) → ArePieces pieces → read_tokens form pieces ≡ Some tokens → AreSpelled form pieces tokens
tokens_spelled [] [] tokens whole e = subst (AreSpelled [] []) (same_Some _ _ e) (record { kinds = refl; written = tt }, refl)
tokens_spelled [] (piece ∷ pieces) tokens whole e = let no : ⊥ = cc in absurd no
tokens_spelled (part.Keyword keyword ∷ form) pieces tokens whole e =
    option_and_then_some _ (behind_keyword keyword pieces) tokens e
    (λ behind found then.
    let same = keyword_found keyword pieces behind found in
    let rest = tokens_spelled form behind tokens (behind_whole (text_of keyword ∷ []) behind (subst ArePieces (sym same) whole)) then in
    (record { kinds = rest.0.kinds; written = rest.0.written }, ap (λ words. text_of keyword ∷ words) rest.1 ∙ same))
tokens_spelled (part.Token k ∷ form) pieces tokens whole e =
    option_and_then_some _ (read_token k pieces) tokens e
    (λ first found then.
    let token = first.0 in
    let behind = first.1 in
    let more = map_some (λ tokens. token ∷ tokens) (read_tokens form behind) tokens then in
    let taken = token_spelled k pieces token behind whole found in
    let rest = tokens_spelled form behind more.0 (behind_whole (spell_token token) behind (subst ArePieces (sym taken.spelled) whole)) more.1 in
    let fits : Fits (part.Token k ∷ form) (token ∷ more.0) = record { kinds = and_from _ _ taken.kind rest.0.kinds; written = (taken.written, rest.0.written) } in
    subst (AreSpelled (part.Token k ∷ form) pieces) more.2 (fits, ap (λ words. spell_token token ++ words) rest.1 ∙ taken.spelled))

-- behind the last part of a form no token is written
none_behind_last : (form : List Part) (tokens : List Token) → is_empty form ≡ true → spell_tokens form tokens ≡ []
none_behind_last [] tokens e = refl
none_behind_last (first ∷ form) tokens e = let no : ⊥ = cc in absurd no

-- a token of one piece takes no further piece
single_takes : (k : Kind) (piece : List ℕ) → is_single k ≡ true → takes k piece ≡ false
single_takes kind.Options piece one = let no : ⊥ = cc in absurd no
single_takes kind.OpaqueOptions piece one = let no : ⊥ = cc in absurd no
single_takes _ piece one = ap not one

-- so it stops before any
single_stops : (k : Kind) (pieces : List (List ℕ)) → is_single k ≡ true → stops (takes k) pieces ≡ true
single_stops k [] one = refl
single_stops k (piece ∷ pieces) one = not_from_false _ (single_takes k piece one)

-- what may stand behind a token: any piece, nothing, or what begins with no dot
ending : (k : Kind) (form : List Part) (A : Type 0) → ends_before k form ≡ true → (is_single k ≡ true → A) → (is_empty form ≡ true → A) → (options_end k form ≡ true → A) → A
ending k form A h one none undotted = cases (is_single k) (is_empty form) (options_end k form) h one none undotted
  where
    cases : (single empty other : Bool) → (single || empty || other) ≡ true → (single ≡ true → A) → (empty ≡ true → A) → (other ≡ true → A) → A
    cases true _ _ h one none undotted = one refl
    cases false true _ h one none undotted = none refl
    cases false false other h one none undotted = undotted h

-- of the three ends only the second is left
only_empty : (empty : Bool) → (false || empty || false) ≡ true → empty ≡ true
only_empty true h = refl
only_empty false h = h

-- a kind of token that begins with no dot takes all that follows
undotted_last : (k : Kind) (form : List Part) → is_undotted k ≡ true → ends_before k form ≡ true → is_empty form ≡ true
undotted_last kind.Fields form un h = only_empty (is_empty form) h
undotted_last kind.Variants form un h = only_empty (is_empty form) h
undotted_last _ form un h = let no : ⊥ = cc in absurd no

-- a token that begins with no dot stands behind options
undotted_stops : (k : Kind) (form : List Part) (tokens : List Token) → is_undotted k ≡ true → is_form (part.Token k ∷ form) ≡ true → kinds_are (part.Token k ∷ form) tokens ≡ true → AreTokens tokens → stops is_dotted (spell_tokens (part.Token k ∷ form) tokens) ≡ true
undotted_stops k form [] un ok kinds written = let no : ⊥ = cc in absurd no
undotted_stops k form (token ∷ tokens) un ok kinds written =
    let forms : (ends_before k form ≡ true) × (is_form form ≡ true) = and_parts _ _ ok in
    let parts : (is_of k token ≡ true) × (kinds_are form tokens ≡ true) = and_parts _ _ kinds in
    undotted_first k token (spell_tokens form tokens) un parts.0 written.0 (none_behind_last form tokens (undotted_last k form un forms.0))

-- behind options nothing follows that begins with a dot
options_stop : (k : Kind) (form : List Part) (tokens : List Token) → options_end k form ≡ true → is_form form ≡ true → kinds_are form tokens ≡ true → AreTokens tokens → stops (takes k) (spell_tokens form tokens) ≡ true
options_stop kind.Options (part.Token k ∷ form) tokens un ok kinds written = undotted_stops k form tokens un ok kinds written
options_stop kind.OpaqueOptions (part.Token k ∷ form) tokens un ok kinds written = undotted_stops k form tokens un ok kinds written
options_stop _ _ tokens un ok kinds written = let no : ⊥ = cc in absurd no

-- behind a token of a form nothing follows that it would take
form_stops : (k : Kind) (form : List Part) (tokens : List Token) → ends_before k form ≡ true → is_form form ≡ true → kinds_are form tokens ≡ true → AreTokens tokens → stops (takes k) (spell_tokens form tokens) ≡ true
form_stops k form tokens ends ok kinds written =
    ending k form (stops (takes k) (spell_tokens form tokens) ≡ true) ends
    (λ one. single_stops k (spell_tokens form tokens) one)
    (λ none. ap (stops (takes k)) (none_behind_last form tokens none))
    (λ undotted. options_stop k form tokens undotted ok kinds written)

-- what tokens of a form are written as is read as these tokens
pub tokens_read : (form : List Part) (tokens : List Token) → is_form form ≡ true → kinds_are form tokens ≡ true → AreTokens tokens → read_tokens form (spell_tokens form tokens) ≡ Some tokens
tokens_read [] [] ok kinds written = refl
tokens_read [] (token ∷ tokens) ok kinds written = let no : ⊥ = cc in absurd no
tokens_read (part.Keyword keyword ∷ form) tokens ok kinds written =
    ap (option_and_then (λ behind. read_tokens form behind)) (keyword_read keyword (spell_tokens form tokens)) ∙ tokens_read form tokens ok kinds written
tokens_read (part.Token k ∷ form) [] ok kinds written = let no : ⊥ = cc in absurd no
tokens_read (part.Token k ∷ form) (token ∷ tokens) ok kinds written =
    let forms : (ends_before k form ≡ true) × (is_form form ≡ true) = and_parts _ _ ok in
    let parts : (is_of k token ≡ true) × (kinds_are form tokens ≡ true) = and_parts _ _ kinds in
    ap (option_and_then (λ first. option_map (λ tokens. first.0 ∷ tokens) (read_tokens form first.1))) (token_read k token (spell_tokens form tokens) parts.0 written.0 (form_stops k form tokens forms.0 forms.1 parts.1 written.1))
    ∙ ap (option_map (λ tokens. token ∷ tokens)) (tokens_read form tokens forms.1 parts.1 written.1)

-- the law
pub forms_inverse : (form : List Part) → is_form form ≡ true → AreInverse form
forms_inverse form ok pieces tokens whole =
    (λ e. tokens_spelled form pieces tokens whole e, λ h. ap (read_tokens form) (sym h.1) ∙ tokens_read form tokens ok h.0.kinds h.0.written)
