use Rattle.facet_grammar.specs.Rows.{form_of}
use Rattle.facet_grammar.specs.Pieces.{pieces_of}
use Rattle.facet_grammar.proofs.ReadingLoops.{read_by, read_kinds, row_made}
use Rattle.facet_grammar.proofs.reading.read_row.Goals as goal

pub command_from-requires : goal.command_from-requires
command_from-requires c =
    let read = read_by (λ q. q.items) (form_of c.args.row) c.form.result.now (pieces_of c.args.text.now) _ c.in-Some.tokens c.form.ensures c.in_ok-tokens.ensures c.in-Some.is in
    read_kinds (form_of c.args.row) c.args.text.now c.in-Some.tokens.items read

pub returns-in-Some : goal.returns-in-Some
returns-in-Some c =
    let pieces = pieces_of c.args.text.now in
    let read = read_by (λ q. q.items) (form_of c.args.row) c.form.result.now pieces _ c.in-Some.tokens c.form.ensures c.in_ok-tokens.ensures c.in-Some.is in
    row_made c.args.row pieces c.in-Some.tokens.items c.command_from.result read c.command_from.ensures.row c.command_from.ensures.tokens
