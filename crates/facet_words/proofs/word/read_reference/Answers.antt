use Rattle.std.proofs.Common.{◌∙◌, ◌++◌, sym, ap, lit<}
use Rattle.std.proofs.lemmas.Str.{encode_ascii}
use Rattle.facet_words.proofs.Numbers.{reference_none}
use Rattle.facet_words.proofs.word.read_reference.Goals as goal

pub returns-in-None : goal.returns-in-None
returns-in-None c =
    reference_none c.args.text.now (λ rest e. c.in-None.ensures.cases rest (e ∙ ap (λ front. front ++ rest) (sym (encode_ascii 35 (lit< tt)))))
