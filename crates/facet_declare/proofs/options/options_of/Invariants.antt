use Rattle.std.proofs.Common.{◌≡◌, drop}
use Rattle.std.specs.Prelude.{fold}
use Rattle.facet_declare.specs.Options.{options_of, with_option}
use Rattle.facet_declare.proofs.options.options_of.Given as goal

-- the options so far, and then those that are left, are all
abbrev pub invariant-loop-option : goal.invariant-loop-option
invariant-loop-option l =
    fold with_option l.all (drop l.option-index l.options) ≡ options_of l.options
