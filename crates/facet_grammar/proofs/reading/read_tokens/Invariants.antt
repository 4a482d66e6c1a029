use Rattle.std.proofs.Common.{◌≡◌, ◌++◌, drop, option_map}
use Rattle.std.specs.Option.{option_copied}
use Rattle.facet_grammar.specs.Pieces.{pieces_behind}
use Rattle.facet_grammar.specs.Forms.{read_tokens}
use Rattle.facet_grammar.proofs.reading.read_tokens.Given as goal

abbrev pub invariant-loop-part : goal.invariant-loop-part
invariant-loop-part l =
    option_map (λ more. l.tokens.items ++ more) (read_tokens (drop l.part-index l.form) (pieces_behind (option_copied l.rest)))
    ≡ read_tokens l.form (pieces_behind (option_copied l.text))
