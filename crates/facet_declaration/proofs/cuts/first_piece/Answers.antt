use Rattle.std.proofs.Common.{List, ℕ, option_map, sym, ap, ◌∙◌}
use Rattle.facet_declaration.proofs.Splits.{cut_pieces, uncut_piece}
use Rattle.facet_declaration.proofs.cuts.first_piece.Goals as goal

pub returns-in-Some : goal.returns-in-Some
returns-in-Some c =
    cut_pieces c.args.at c.args.text.now (c.in-Some.piece.now, c.in-Some.after.now) (sym c.cut_at.ensures ∙ ap (option_map {U = List ℕ × List ℕ} (λ parts. (parts.0.now, parts.1.now))) c.in-Some.is)

pub returns-in-None : goal.returns-in-None
returns-in-None c =
    uncut_piece c.args.at c.args.text.now (sym c.cut_at.ensures ∙ ap (option_map {U = List ℕ × List ℕ} (λ parts. (parts.0.now, parts.1.now))) c.in-None.is)
