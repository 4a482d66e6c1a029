use Rattle.std.proofs.Common.{◌≡◌, ◌≢◌, ◌∙◌, ◌∷◌, ℕ, List, [], Some, None, true, codes, sym, ap, get_or, lit<, w64}
use Rattle.std.proofs.lemmas.Bool.{both_ways, eqb-false}
use Rattle.std.proofs.lemmas.Slice.Eq.{bytes_eq-Decides}
use Rattle.std.proofs.lemmas.Str.Pattern.{strip_prefix_char}
use Rattle.facet_base.proofs.Numerals.{signed_in, signed_parsed}
use Rattle.facet_words.specs.Integers.{integer_of}
use Rattle.facet_words.specs.Words.{is_unpadded}
use Rattle.facet_words.proofs.Integers.{minus_read, unsigned_read}
use Rattle.facet_words.proofs.integer.read_integer.Goals as goal

pub returns-else-not-is_unpadded : goal.returns-else-not-is_unpadded
returns-else-not-is_unpadded c =
    let s = c.args.text.now in
    let digits = c.in-Some.digits.now in
    let cut : s ≡ 45 ∷ digits = strip_prefix_char 45 s (Some c.in-Some.digits) c.in-Some.ensures.cases (lit< tt) in
    let other : digits ≢ 48 ∷ [] = λ e. both_ways _ (sym c.eq.ensures ∙ c.if-eq.false) ((bytes_eq-Decides digits (codes "0")).1 e) in
    let unpadded : is_unpadded digits ≡ true = sym c.is_unpadded.ensures ∙ c.if-not-is_unpadded.false in
    c.ok.ensures.value ∙ signed_parsed w64 s c.parse.result c.parse.ensures.value.0 ∙ ap (signed_in 63) cut ∙ minus_read digits other unpadded ∙ ap integer_of (sym cut)

pub returns-else-not-is_unpadded-2 : goal.returns-else-not-is_unpadded-2
returns-else-not-is_unpadded-2 c =
    let s = c.args.text.now in
    let no_minus : (rest : List ℕ) → s ≢ 45 ∷ rest = strip_prefix_char 45 s None c.in-None.ensures.cases (lit< tt) in
    let no_plus : get_or s 0 0 ≢ 43 = eqb-false _ _ (sym (c.starts_with.ensures.byte (lit< tt) (lit< tt) (λ _ _ h. h)) ∙ c.if-starts_with.false) in
    let unpadded : is_unpadded s ≡ true = sym c.is_unpadded-else-starts_with.ensures ∙ c.if-not-is_unpadded-2.false in
    c.ok-in-None.ensures.value ∙ signed_parsed w64 s c.parse-in-None.result c.parse-in-None.ensures.value.0 ∙ unsigned_read s no_minus no_plus unpadded
