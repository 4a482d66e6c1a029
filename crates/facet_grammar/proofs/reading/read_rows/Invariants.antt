use Rattle.std.proofs.Common.{◌≡◌, drop}
use Rattle.facet_grammar.specs.Grammar.{read_rows}
use Rattle.facet_grammar.specs.Pieces.{pieces_of}
use Rattle.facet_grammar.proofs.reading.read_rows.Given as goal

abbrev pub invariant-loop-row : goal.invariant-loop-row
invariant-loop-row l = read_rows (drop l.row-index l.table) (pieces_of l.text) ≡ read_rows l.table (pieces_of l.text)
