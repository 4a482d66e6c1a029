use Rattle.std.proofs.Common.{◌≡◌, map, drop}
use Rattle.facet_words.specs.FixedWords.{entry_of}
use Rattle.facet_words.proofs.fixed.find_value.Given as goal

abbrev pub invariant-loop-entry : goal.invariant-loop-entry
invariant-loop-entry g l =
    entry_of (map (λ entry. (entry.0.now, entry.1)) (drop l.entry-index l.table)) l.text ≡ entry_of (map (λ entry. (entry.0.now, entry.1)) l.table) l.text
