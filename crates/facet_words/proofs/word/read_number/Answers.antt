use Rattle.std.proofs.Common.{◌≢◌, ◌∙◌, sym, arith, get_or, lit<}
use Rattle.std.proofs.lemmas.Bool.{eqb-false}
use Rattle.facet_words.proofs.Numbers.{number_parsed}
use Rattle.facet_words.proofs.word.read_number.Goals as goal

pub returns : goal.returns
returns c =
    let s = c.args.text.now in
    let unsigned : get_or s 0 0 ≢ 43 = eqb-false _ _ (sym (c.starts_with.ensures.byte (lit< tt) (lit< tt) (λ _ _ h. h)) ∙ c.if-starts_with.false) in
    c.ok.ensures.value ∙ number_parsed s c.parse.result c.parse.ensures.value.0 (omega arith) (sym c.is_unpadded.ensures ∙ c.if-not-is_unpadded.false) unsigned
