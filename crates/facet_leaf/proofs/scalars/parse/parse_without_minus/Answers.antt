use Rattle.std.proofs.Common.{◌∙◌, ap, option_and_then, pos}
use Rattle.facet_leaf.specs.scalars.Scalar.{whole_of}
use Rattle.facet_leaf.proofs.Parsing.{unsigned_read}
use Rattle.facet_leaf.proofs.scalars.parse.parse_without_minus.Goals as goal

pub returns-in_err-number : goal.returns-in_err-number
returns-in_err-number c =
    c.from_residual.ensures ∙ ap (option_and_then (λ n. whole_of c.args.kind (pos n))) c.in_err-number.ensures.value ∙ unsigned_read c.args.kind c.args.text.now _ c.requires c.parse.ensures.value.0

pub returns : goal.returns
returns c =
    c.whole_at_least_zero.ensures ∙ ap (option_and_then (λ n. whole_of c.args.kind (pos n))) c.in_ok-number.ensures.value ∙ unsigned_read c.args.kind c.args.text.now _ c.requires c.parse.ensures.value.0
