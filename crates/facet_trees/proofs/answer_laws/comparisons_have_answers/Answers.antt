use Rattle.facet_trees.specs.Order.{ordering}
use Rattle.facet_trees.proofs.AnswersAgree.{some_answer}
use Rattle.facet_trees.proofs.OrderLaws.{equality_answers, ordering_answers}
use Rattle.facet_trees.proofs.answer_laws.comparisons_have_answers.Goals as goal

pub returns : goal.returns
returns g c =
    let m = g.L.Leaf.model in
    let laws = g.met.L.Leaf.laws in
    record {
      order = λ shapes which s v w well all fits also. some_answer which (ordering m shapes which s v w) (ordering_answers m laws shapes well which s v w all fits also);
      equality = λ shapes s v w well. equality_answers m laws shapes well s v w;
    }
