use Rattle.facet_session.proofs.AnswerLines.{next_whole, last_whole, answers_cut}
use Rattle.facet_session.proofs.laws.answers_are_one_line.Goals as goal

pub returns : goal.returns
returns g c = record { line = next_whole g.L.Leaf.model; end = last_whole g.L.Leaf.model; script = answers_cut g.L.Leaf.model }
