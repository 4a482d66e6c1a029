use Rattle.std.proofs.Common.{◌≡◌, drop}
use Rattle.facet_words.specs.Options.{are_ordered}
use Rattle.facet_words.proofs.OptionOrder.{are_ordered_from}
use Rattle.facet_words.proofs.options.are_ordered.Given as goal

abbrev pub invariant-loop-option : goal.invariant-loop-option
invariant-loop-option l = are_ordered_from l.least (drop l.option-index l.options) ≡ are_ordered l.options
