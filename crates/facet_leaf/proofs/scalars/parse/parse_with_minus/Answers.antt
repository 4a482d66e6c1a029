use Rattle.std.proofs.Common.{◌∙◌, ap, cond, None, option_and_then}
use Rattle.facet_leaf.specs.scalars.Scalar.{has_negative, whole_of}
use Rattle.facet_leaf.proofs.Parsing.{i128_is_kept, signed_read}
use Rattle.facet_leaf.proofs.scalars.parse.parse_with_minus.Goals as goal

pub returns-in_err-number : goal.returns-in_err-number
returns-in_err-number c =
    c.from_residual.ensures ∙ ap (option_and_then (λ z. cond (has_negative c.args.kind) (whole_of c.args.kind z) None)) c.in_err-number.ensures.value ∙ signed_read c.args.kind c.args.text.now _ c.requires c.parse.ensures.value.0

pub returns : goal.returns
returns c =
    c.signed_whole.ensures
    ∙ ap (λ z. cond (has_negative c.args.kind) (whole_of c.args.kind z) None) (i128_is_kept c.args.text.now _ _ c.in_ok-number.ensures.value c.parse.ensures.value.0)
    ∙ ap (option_and_then (λ z. cond (has_negative c.args.kind) (whole_of c.args.kind z) None)) c.in_ok-number.ensures.value
    ∙ signed_read c.args.kind c.args.text.now _ c.requires c.parse.ensures.value.0
