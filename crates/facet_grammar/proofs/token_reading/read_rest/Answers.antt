use Rattle.std.proofs.Common.{[], ◌∙◌, Some, ap, sym}
use Rattle.facet_grammar.specs.declared.token.Token.TheVariants.{Rest}
use Rattle.facet_grammar.proofs.OneToken.{rest_none, rest_some}
use Rattle.facet_grammar.proofs.token_reading.read_rest.Goals as goal

pub returns-then-has_newline : goal.returns-then-has_newline
returns-then-has_newline c = rest_none c.args.text.now (sym c.has_newline.ensures ∙ c.if-has_newline.true)

pub returns : goal.returns
returns c = ap (λ t. Some (Rest t, [])) c.in_ok-new.ensures ∙ rest_some c.args.text.now (c.utf8.text, sym c.has_newline.ensures ∙ c.if-has_newline.false)
