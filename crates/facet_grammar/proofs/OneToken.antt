-- Each kind of token: what is read is what is written, and the other way round.
use Rattle.std.proofs.Common.{◌≡◌, ℕ, suc, ◌+◌, Bool, true, false, cond, List, [], ◌∷◌, ◌++◌, take, drop, length, map, Option, None, Some, option_map, if◌then◌else◌, refl, sym, ap, ◌∙◌, subst, arith}
use Rattle.std.specs.List.{list_all, list_any, prefix_len, AllByRecursion}
use Rattle.std.proofs.Math.Seq.{take-append_seam, drop-append_seam}
use Rattle.std.proofs.lemmas.Bool.{and_parts, and_from, or_parts, cond-true, cond-false, false_from_ne_true, both_ways, not-true, not_from_false}
use Rattle.std.proofs.lemmas.List.{append-nil, take-append-drop, map-id}
use Rattle.std.proofs.lemmas.List.Folds.{list_any-append}
use Rattle.std.specs.Option.{option_and_then}
use Rattle.std.proofs.lemmas.Option.{cond_some, option_and_then_some}
use Rattle.facet_words.specs.Words.{is_newline, is_space, is_text}
use Rattle.facet_words.proofs.WordBytes.{IsText, IsWord, text_tested, test_of_text}
use Rattle.facet_grammar.specs.declared.token.Kind.{Kind}
use Rattle.facet_grammar.specs.declared.token.Kind.TheVariants as kind
use Rattle.facet_grammar.specs.declared.token.Token.{Token}
use Rattle.facet_grammar.specs.declared.token.Token.TheVariants.{Name, Number, Reference, Caps, Repr, Scalar, Rest, Names, References, Options, OpaqueOptions, Fields, Variants}
use Rattle.facet_words.specs.Options.{are_ordered}
use Rattle.facet_declaration.specs.Cuts.{read_each}
use Rattle.facet_declaration.proofs.Each.{each_spelled, each_read}
use Rattle.facet_grammar.specs.Pieces.{pieces_of, joined, ArePieces, stops}
use Rattle.facet_grammar.specs.Tokens.{name_of, is_tuple, are_opaque_options, is_single, is_dotted, takes, taken, left, read_piece, read_list, read_first, read_token, spell_token, is_of, IsToken}
use Rattle.facet_grammar.specs.Forms.{is_undotted}
use Rattle.facet_grammar.proofs.Pieces.{pieces_some, joined_pieces, pieces_joined, pieces_whole}
use Rattle.facet_words.proofs.Numbers.{map_some}
use Rattle.facet_grammar.proofs.Words.{Spells, all_words, words_pieces, name_word, number_word, reference_word, caps_word, repr_word, scalar_word, option_word, field_word, variant_word, options_dotted, field_undotted, variant_undotted}

-- a token is of a kind, can be written, and is written as these pieces
abbrev pub IsWritten : Kind → List (List ℕ) → Token → Type 0
IsWritten k pieces token = (is_of k token ≡ true) × IsToken token × (spell_token token ≡ pieces)

-- a kind of one piece

-- a word's token
word_written : {X : Type 0} (of : List ℕ → Option X) (Is : X → Type 0) (spell : X → List ℕ) → Spells of Is spell → (k : Kind) (make : X → Token) → ((x : X) → Is x → IsWritten k (spell x ∷ []) (make x))
    → (piece : List ℕ) (token : Token) → option_map make (of piece) ≡ Some token → IsWritten k (piece ∷ []) token
word_written of Is spell laws k make made piece token e =
    let found = map_some make (of piece) token e in
    let word = laws.spelled piece found.0 found.1 in
    subst (IsWritten k (piece ∷ [])) found.2 (subst (λ p. IsWritten k (p ∷ []) (make found.0)) word.1 (made found.0 word.0))

-- a token that was read from one piece is written as this piece
piece_spelled : (k : Kind) (piece : List ℕ) (token : Token) → read_piece k piece ≡ Some token → IsWritten k (piece ∷ []) token
piece_spelled kind.Name = word_written _ _ _ name_word kind.Name Name (λ x h. (refl, h, refl))
piece_spelled kind.Number = word_written _ _ _ number_word kind.Number Number (λ x h. (refl, h, refl))
piece_spelled kind.Reference = word_written _ _ _ reference_word kind.Reference Reference (λ x h. (refl, h, refl))
piece_spelled kind.Caps = word_written _ _ _ caps_word kind.Caps Caps (λ x h. (refl, h, refl))
piece_spelled kind.Repr = word_written _ _ _ repr_word kind.Repr Repr (λ x h. (refl, h, refl))
piece_spelled kind.Scalar = word_written _ _ _ scalar_word kind.Scalar Scalar (λ x h. (refl, h, refl))
piece_spelled _ = λ piece token e. let no : ⊥ = cc in absurd no

-- a token is written as one piece that is read as this token
abbrev IsReadBack : Kind → Token → Type 0
IsReadBack k token = (piece : List ℕ) × (spell_token token ≡ piece ∷ []) × (read_piece k piece ≡ Some token)

-- so is each token of a kind of one piece
spelled_piece : (k : Kind) (token : Token) → is_single k ≡ true → is_of k token ≡ true → IsToken token → IsReadBack k token
spelled_piece kind.Name (Name x) one of h = (_, refl, ap (option_map Name) (name_word.read x h))
spelled_piece kind.Number (Number x) one of h = (_, refl, ap (option_map Number) (number_word.read x h))
spelled_piece kind.Reference (Reference x) one of h = (_, refl, ap (option_map Reference) (reference_word.read x h))
spelled_piece kind.Caps (Caps x) one of h = (_, refl, ap (option_map Caps) (caps_word.read x h))
spelled_piece kind.Repr (Repr x) one of h = (_, refl, ap (option_map Repr) (repr_word.read x h))
spelled_piece kind.Scalar (Scalar x) one of h = (_, refl, ap (option_map Scalar) (scalar_word.read x h))
spelled_piece _ _ one of h = let no : ⊥ = cc in absurd no

-- a kind of several pieces

-- joined pieces are read as their text
rest_of : (pieces : List (List ℕ)) (piece : List ℕ) (more : List (List ℕ)) (text : List ℕ) → pieces ≡ piece ∷ more → joined pieces ≡ text
    → read_list kind.Rest pieces ≡ (if is_text text then Some (Rest text) else None)
rest_of [] piece more text e same = let no : ⊥ = cc in absurd no
rest_of (first ∷ pieces) piece more text e same = ap (λ t. if is_text t then Some (Rest t) else None) same

-- the pieces of a text are read as this text, if it is one
rest_read : (text : List ℕ) → read_list kind.Rest (pieces_of text) ≡ (if is_text text then Some (Rest text) else None)
rest_read text =
    let first = pieces_some text in
    rest_of (pieces_of text) first.0.0 first.0.1 text first.1 (joined_pieces text)

-- words in a row that were read are written as these pieces
list_written : {X : Type 0} (of : List ℕ → Option X) (Is : X → Type 0) (spell : X → List ℕ) → Spells of Is spell → (k : Kind) (make : List X → Token) → ((xs : List X) → AllByRecursion Is xs → IsWritten k (map spell xs) (make xs))
    → (pieces : List (List ℕ)) (token : Token) → option_map make (read_each of pieces) ≡ Some token → IsWritten k pieces token
list_written of Is spell laws k make made pieces token e =
    let found = map_some make (read_each of pieces) token e in
    let words = each_spelled of spell Is laws.spelled pieces found.0 found.1 in
    subst (IsWritten k pieces) found.2 (subst (λ p. IsWritten k p (make found.0)) words.1 (made found.0 words.0))

-- the same of words that must pass a test
tested_written : {X : Type 0} (of : List ℕ → Option X) (Is : X → Type 0) (spell : X → List ℕ) → Spells of Is spell → (test : List X → Bool) (k : Kind) (make : List X → Token)
    → ((xs : List X) → test xs ≡ true → AllByRecursion Is xs → IsWritten k (map spell xs) (make xs))
    → (pieces : List (List ℕ)) (token : Token) → option_and_then (λ xs. if test xs then Some (make xs) else None) (read_each of pieces) ≡ Some token → IsWritten k pieces token
tested_written of Is spell laws test k make made pieces token e =
    option_and_then_some _ (read_each of pieces) token e
    (λ xs found passes.
    let passed = cond_some (test xs) (make xs) token passes in
    let words = each_spelled of spell Is laws.spelled pieces xs found in
    subst (IsWritten k pieces) passed.1 (subst (λ p. IsWritten k p (make xs)) words.1 (made xs passed.0 words.0)))

-- words that pass a test are read
tested_read : {X : Type 0} (of : List ℕ → Option X) (Is : X → Type 0) (spell : X → List ℕ) → Spells of Is spell → (test : List X → Bool) (make : List X → Token) (xs : List X)
    → test xs ≡ true → AllByRecursion Is xs → option_and_then (λ xs. if test xs then Some (make xs) else None) (read_each of (map spell xs)) ≡ Some (make xs)
tested_read of Is spell laws test make xs passed h =
    ap (option_and_then (λ xs. if test xs then Some (make xs) else None)) (each_read of spell Is laws.read xs h) ∙ cond-true (test xs) _ _ passed

-- a token that was read from several pieces is written as these pieces
list_spelled : (k : Kind) (pieces : List (List ℕ)) (token : Token) → ArePieces pieces → read_list k pieces ≡ Some token → IsWritten k pieces token
list_spelled kind.Names pieces token whole = list_written _ _ _ name_word kind.Names Names (λ xs h. (refl, h, sym (map-id xs))) pieces token
list_spelled kind.References pieces token whole = tested_written _ _ _ reference_word is_tuple kind.References References (λ xs t h. (refl, (t, h), refl)) pieces token
list_spelled kind.Options pieces token whole = tested_written _ _ _ option_word are_ordered kind.Options Options (λ xs t h. (refl, (t, h), refl)) pieces token
list_spelled kind.OpaqueOptions pieces token whole = tested_written _ _ _ option_word are_opaque_options kind.OpaqueOptions OpaqueOptions (λ xs t h. (refl, (t, h), refl)) pieces token
list_spelled kind.Fields pieces token whole = list_written _ _ _ field_word kind.Fields Fields (λ xs h. (refl, h, refl)) pieces token
list_spelled kind.Variants pieces token whole = list_written _ _ _ variant_word kind.Variants Variants (λ xs h. (refl, h, refl)) pieces token
list_spelled kind.Rest (piece ∷ pieces) token whole = λ e.
    let found = cond_some (is_text (joined (piece ∷ pieces))) (Rest (joined (piece ∷ pieces))) token e in
    subst (IsWritten kind.Rest (piece ∷ pieces)) found.1 (refl, found.0, pieces_joined piece pieces whole)
list_spelled _ pieces token whole = λ e. let no : ⊥ = cc in absurd no

-- a token of such a kind is read from what it is written as
list_read : (k : Kind) (token : Token) → is_single k ≡ false → is_of k token ≡ true → IsToken token → read_list k (spell_token token) ≡ Some token
list_read kind.Names (Names xs) several of h = ap (option_map Names) (ap (read_each name_of) (sym (map-id xs)) ∙ each_read _ _ _ name_word.read xs h)
list_read kind.References (References xs) several of h = tested_read _ _ _ reference_word is_tuple References xs h.0 h.1
list_read kind.Options (Options xs) several of h = tested_read _ _ _ option_word are_ordered Options xs h.0 h.1
list_read kind.OpaqueOptions (OpaqueOptions xs) several of h = tested_read _ _ _ option_word are_opaque_options OpaqueOptions xs h.0 h.1
list_read kind.Fields (Fields xs) several of h = ap (option_map Fields) (each_read _ _ _ field_word.read xs h)
list_read kind.Variants (Variants xs) several of h = ap (option_map Variants) (each_read _ _ _ variant_word.read xs h)
list_read kind.Rest (Rest text) several of h = rest_read text ∙ cond-true _ _ _ h
list_read _ _ several of h = let no : ⊥ = cc in absurd no

-- a test that lets all through
all_taken : (p : List ℕ → Bool) → ((piece : List ℕ) → p piece ≡ true) → (pieces : List (List ℕ)) → list_all p pieces ≡ true
all_taken p h [] = refl
all_taken p h (piece ∷ pieces) = and_from _ _ (h piece) (all_taken p h pieces)

-- it takes all pieces that it is written as
own_taken : (k : Kind) (token : Token) → is_single k ≡ false → is_of k token ≡ true → IsToken token → list_all (takes k) (spell_token token) ≡ true
own_taken kind.Names token several of h = all_taken (takes kind.Names) (λ p. refl) (spell_token token)
own_taken kind.Rest token several of h = all_taken (takes kind.Rest) (λ p. refl) (spell_token token)
own_taken kind.References token several of h = all_taken (takes kind.References) (λ p. refl) (spell_token token)
own_taken kind.Options (Options xs) several of h = options_dotted xs
own_taken kind.OpaqueOptions (OpaqueOptions xs) several of h = options_dotted xs
own_taken kind.Fields token several of h = all_taken (takes kind.Fields) (λ p. refl) (spell_token token)
own_taken kind.Variants token several of h = all_taken (takes kind.Variants) (λ p. refl) (spell_token token)
own_taken _ _ several of h = let no : ⊥ = cc in absurd no

-- a count that rises by one
pub one_more : (n : ℕ) → 1 + n ≡ suc n
one_more n = omega arith

-- pieces that pass, before one that doesn't
passed_length : (p : List ℕ → Bool) (front behind : List (List ℕ)) → list_all p front ≡ true → stops p behind ≡ true → prefix_len p (front ++ behind) ≡ length front
passed_length p [] [] h s = refl
passed_length p [] (piece ∷ behind) h s = cond-false (p piece) _ _ (not-true _ s)
passed_length p (piece ∷ front) behind h s =
    let parts : (p piece ≡ true) × (list_all p front ≡ true) = and_parts _ _ h in
    cond-true (p piece) _ _ parts.0 ∙ one_more (prefix_len p (front ++ behind)) ∙ ap suc (passed_length p front behind parts.1 s)

-- every kind

-- what a first token that was read is
pub record Taken (k : Kind) (pieces : List (List ℕ)) (token : Token) (behind : List (List ℕ)) : Type 0 where
  pub kind : is_of k token ≡ true
  pub written : IsToken token
  pub spelled : spell_token token ++ behind ≡ pieces

-- a token and the pieces behind it
abbrev First : Type 0
First = Token × List (List ℕ)

-- a token written as the front of pieces
taken_front : (k : Kind) (front behind : List (List ℕ)) (token : Token) → IsWritten k front token → Taken k (front ++ behind) token behind
taken_front k front behind token h = record { kind = h.0; written = h.1; spelled = ap (λ words. words ++ behind) h.2 }

-- of a kind of one piece
first_spelled : (k : Kind) (pieces : List (List ℕ)) (token : Token) (behind : List (List ℕ)) → read_first k pieces ≡ Some (token, behind) → Taken k pieces token behind
first_spelled k [] token behind e = let no : ⊥ = cc in absurd no
first_spelled k (piece ∷ pieces) token behind e =
    let found = map_some {B = First} (λ t. (t, pieces)) (read_piece k piece) (token, behind) e in
    let P : First → Type 0 = λ first. Taken k (piece ∷ pieces) first.0 first.1 in
    subst P found.2 (taken_front k (piece ∷ []) pieces found.0 (piece_spelled k piece found.0 found.1))

-- the first pieces are pieces
front_whole : (front behind : List (List ℕ)) → ArePieces (front ++ behind) → ArePieces front
front_whole front behind h = (or_parts _ _ (sym (list_any-append (list_any is_space) front behind) ∙ h)).0

-- of a kind of several pieces
several_spelled : (k : Kind) (pieces : List (List ℕ)) (token : Token) (behind : List (List ℕ)) → ArePieces pieces → option_map {U = First} (λ t. (t, left k pieces)) (read_list k (taken k pieces)) ≡ Some (token, behind) → Taken k pieces token behind
several_spelled k pieces token behind whole e =
    let found = map_some {B = First} (λ t. (t, left k pieces)) (read_list k (taken k pieces)) (token, behind) e in
    let cut : taken k pieces ++ left k pieces ≡ pieces = take-append-drop (prefix_len (takes k) pieces) pieces in
    let front = front_whole (taken k pieces) (left k pieces) (subst ArePieces (sym cut) whole) in
    let here = taken_front k (taken k pieces) (left k pieces) found.0 (list_spelled k (taken k pieces) found.0 front found.1) in
    let P : First → Type 0 = λ first. Taken k pieces first.0 first.1 in
    subst P found.2 (subst (λ all. Taken k all found.0 (left k pieces)) cut here)

-- a first token that was read is of its kind, can be written, and is written as the pieces that it was read from
pub token_spelled : (k : Kind) (pieces : List (List ℕ)) (token : Token) (behind : List (List ℕ)) → ArePieces pieces → read_token k pieces ≡ Some (token, behind) → Taken k pieces token behind
token_spelled k pieces token behind whole e = cases (is_single k) e
  where
    cases : (one : Bool) → cond one (read_first k pieces) (option_map {U = First} (λ t. (t, left k pieces)) (read_list k (taken k pieces))) ≡ Some (token, behind) → Taken k pieces token behind
    cases true e = first_spelled k pieces token behind e
    cases false e = several_spelled k pieces token behind whole e

-- what a token is written as is read as this token, where nothing follows that it would take
pub token_read : (k : Kind) (token : Token) (behind : List (List ℕ)) → is_of k token ≡ true → IsToken token → stops (takes k) behind ≡ true → read_token k (spell_token token ++ behind) ≡ Some (token, behind)
token_read k token behind of h stop = cases (is_single k) refl
  where
    single : is_single k ≡ true → read_first k (spell_token token ++ behind) ≡ Some (token, behind)
    single one =
        let back = spelled_piece k token one of h in
        ap (λ words. read_first k (words ++ behind)) back.1 ∙ ap (option_map {U = First} (λ t. (t, behind))) back.2

    several : is_single k ≡ false → option_map {U = First} (λ t. (t, left k (spell_token token ++ behind))) (read_list k (taken k (spell_token token ++ behind))) ≡ Some (token, behind)
    several more =
        let front = spell_token token in
        let size = passed_length (takes k) front behind (own_taken k token more of h) stop in
        let takes_own : taken k (front ++ behind) ≡ front = ap (λ n. take n (front ++ behind)) size ∙ take-append_seam front behind in
        let leaves : left k (front ++ behind) ≡ behind = ap (λ n. drop n (front ++ behind)) size ∙ drop-append_seam front behind in
        (λ i. option_map {U = First} (λ t. (t, leaves i)) (read_list k (takes_own i))) ∙ ap (option_map {U = First} (λ t. (t, behind))) (list_read k token more of h)

    cases : (one : Bool) → is_single k ≡ one → read_token k (spell_token token ++ behind) ≡ Some (token, behind)
    cases true e = cond-true _ _ _ e ∙ single e
    cases false e = cond-false _ _ _ e ∙ several e

-- the pieces of a token that isn't a text are words
abbrev pub AreWords : Token → Type 0
AreWords (Rest text) = Unit {0}
AreWords token = AllByRecursion IsWord (spell_token token)

-- each token's pieces are
pub token_words : (token : Token) → IsToken token → AreWords token
token_words (Name x) h = (name_word.whole x h, tt)
token_words (Number x) h = (number_word.whole x h, tt)
token_words (Reference x) h = (reference_word.whole x h, tt)
token_words (Caps x) h = (caps_word.whole x h, tt)
token_words (Repr x) h = (repr_word.whole x h, tt)
token_words (Scalar x) h = (scalar_word.whole x h, tt)
token_words (References xs) h = all_words _ _ _ reference_word xs h.1
token_words (Options xs) h = all_words _ _ _ option_word xs h.1
token_words (OpaqueOptions xs) h = all_words _ _ _ option_word xs h.1
token_words (Fields xs) h = all_words _ _ _ field_word xs h
token_words (Variants xs) h = all_words _ _ _ variant_word xs h
token_words (Rest text) h = tt
token_words (Names xs) h = subst (AllByRecursion IsWord) (map-id xs) (all_words _ _ _ name_word xs h)

-- no piece of a token has a space
pub token_pieces : (token : Token) → IsToken token → ArePieces (spell_token token)
token_pieces (Rest text) h = pieces_whole text
token_pieces token h = words_pieces (spell_token token) (token_words token h)

-- the code's reading of a text

-- a text takes all pieces
whole_taken : (pieces : List (List ℕ)) → taken kind.Rest (pieces ++ []) ≡ pieces
whole_taken pieces = ap (λ n. take n (pieces ++ [])) (passed_length (takes kind.Rest) pieces [] (all_taken (takes kind.Rest) (λ p. refl) pieces) refl) ∙ take-append_seam pieces []

-- what has a newline is none
pub rest_none : (text : List ℕ) → list_any is_newline text ≡ true → None ≡ read_token kind.Rest (pieces_of text)
rest_none text h =
    let pieces = pieces_of text in
    let none : read_list kind.Rest pieces ≡ None = rest_read text ∙ cond-false _ _ _ (false_from_ne_true _ (λ t. both_ways _ (text_tested text t).1 h)) in
    sym (ap (read_token kind.Rest) (sym (append-nil pieces)) ∙ ap (option_map {U = First} (λ t. (t, left kind.Rest (pieces ++ [])))) (ap (read_list kind.Rest) (whole_taken pieces) ∙ none))

-- without a newline it is one
pub rest_some : (text : List ℕ) → IsText text → Some (Rest text, []) ≡ read_token kind.Rest (pieces_of text)
rest_some text h = sym (ap (read_token kind.Rest) (sym (append-nil (pieces_of text))) ∙ token_read kind.Rest (Rest text) [] refl (test_of_text text h) refl)

-- a token that begins with no dot
pub undotted_first : (k : Kind) (token : Token) (behind : List (List ℕ)) → is_undotted k ≡ true → is_of k token ≡ true → IsToken token → behind ≡ [] → stops is_dotted (spell_token token ++ behind) ≡ true
undotted_first kind.Fields (Fields []) behind un of h last = ap (stops is_dotted) last
undotted_first kind.Fields (Fields (field ∷ fields)) behind un of h last = not_from_false _ (field_undotted field h.0)
undotted_first kind.Variants (Variants []) behind un of h last = ap (stops is_dotted) last
undotted_first kind.Variants (Variants (variant ∷ variants)) behind un of h last = not_from_false _ (variant_undotted variant h.0)
undotted_first _ _ behind un of h last = let no : ⊥ = cc in absurd no
