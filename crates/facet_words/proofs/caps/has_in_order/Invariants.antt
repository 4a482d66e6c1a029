use Rattle.std.proofs.Common.{◌≡◌, drop}
use Rattle.facet_words.specs.Caps.{has_in_order}
use Rattle.facet_words.proofs.caps.has_in_order.Given as goal

abbrev pub invariant-loop-letter : goal.invariant-loop-letter
invariant-loop-letter l = has_in_order (drop l.letter-index l.letters) l.rest ≡ has_in_order l.letters l.text
