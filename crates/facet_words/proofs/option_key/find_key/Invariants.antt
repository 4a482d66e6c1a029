use Rattle.std.proofs.Common.{◌≡◌, drop}
use Rattle.facet_words.specs.Options.{key_in}
use Rattle.facet_words.proofs.option_key.find_key.Given as goal

abbrev pub invariant-loop-key : goal.invariant-loop-key
invariant-loop-key l = key_in (drop l.key-index l.keys) l.text ≡ key_in l.keys l.text
