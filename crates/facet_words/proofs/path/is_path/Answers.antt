use Rattle.std.proofs.Common.{◌≡◌, ◌≢◌, ◌∙◌, ◌∷◌, ℕ, List, Some, None, true, false, sym, rules, lit<}
use Rattle.std.proofs.lemmas.Str.Pattern.{strip_prefix_char}
use Rattle.facet_words.specs.Words.{is_name}
use Rattle.facet_words.proofs.Paths.{path_ends_early, path_goes_on, path_of_one, path_unnamed}
use Rattle.facet_words.proofs.path.is_path.Goals as goal

pub returns-in_default-strip_prefix : goal.returns-in_default-strip_prefix
returns-in_default-strip_prefix c =
    let behind = c.in-Some.behind.now in
    let single : (rest : List ℕ) → behind ≢ 58 ∷ rest = strip_prefix_char 58 behind None c.in_default-strip_prefix.ensures.cases (lit< tt) in
    path_ends_early c.loop-name.rest.now c.in-Some.name.now behind (c.in-Some.ensures.byte (lit< tt) (λ _ _ h. h)) single ∙ c.loop-name.invariant.1

pub returns-then-not-is_name : goal.returns-then-not-is_name
returns-then-not-is_name c =
    let behind = c.in-Some.behind.now in
    let names = c.in-Some-strip_prefix.names.now in
    let colon : behind ≡ 58 ∷ names = strip_prefix_char 58 behind (Some c.in-Some-strip_prefix.names) c.in-Some-strip_prefix.ensures.cases (lit< tt) in
    let unnamed : is_name c.in-Some.name.now ≡ false = sym c.is_name.ensures ∙ c.if-not-is_name.true in
    path_unnamed c.loop-name.rest.now c.in-Some.name.now behind names (c.in-Some.ensures.byte (lit< tt) (λ _ _ h. h)) colon unnamed ∙ c.loop-name.invariant.1

pub loop-name-preserved : goal.loop-name-preserved
loop-name-preserved c =
    let behind = c.in-Some.behind.now in
    let names = c.in-Some-strip_prefix.names.now in
    let colon : behind ≡ 58 ∷ names = strip_prefix_char 58 behind (Some c.in-Some-strip_prefix.names) c.in-Some-strip_prefix.ensures.cases (lit< tt) in
    let named : is_name c.in-Some.name.now ≡ true = sym c.is_name.ensures ∙ c.if-not-is_name.false in
    (search rules, path_goes_on c.loop-name.rest.now c.in-Some.name.now behind names (c.in-Some.ensures.byte (lit< tt) (λ _ _ h. h)) colon named ∙ c.loop-name.invariant.1)

pub returns : goal.returns
returns c = c.is_name-2.ensures ∙ path_of_one c.loop-name.rest.now (c.in_default.ensures.byte (lit< tt) (λ _ _ h. h)) ∙ c.loop-name.invariant.1
