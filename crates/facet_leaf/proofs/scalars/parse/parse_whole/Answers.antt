use Rattle.std.proofs.Common.{◌∙◌, lit<, sym}
use Rattle.facet_leaf.proofs.Parsing.{minus_first}
use Rattle.facet_leaf.proofs.scalars.parse.parse_whole.Goals as goal

pub parse_with_minus-requires : goal.parse_with_minus-requires
parse_with_minus-requires c =
    sym (minus_first c.args.text.now) ∙ sym (c.starts_with.ensures.byte (lit< tt) (lit< tt) (λ _ _ h. h)) ∙ c.if-starts_with.true

pub parse_without_minus-requires : goal.parse_without_minus-requires
parse_without_minus-requires c =
    sym (minus_first c.args.text.now) ∙ sym (c.starts_with.ensures.byte (lit< tt) (lit< tt) (λ _ _ h. h)) ∙ c.if-starts_with.false
