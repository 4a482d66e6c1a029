use Rattle.facet_trees.specs.Order.{by_total, ordering}
use Rattle.facet_trees.proofs.AnswerChains.{chain_at_most, chain_less}
use Rattle.facet_trees.proofs.OrderLaws.{ordering_chain}
use Rattle.facet_trees.proofs.laws.total_order_is_transitive.Goals as goal

pub returns : goal.returns
returns g c =
    let m = g.L.Leaf.model in
    let laws = g.met.L.Leaf.laws in
    record {
      less = λ shapes s u v w well f h k.
          chain_less (ordering m shapes by_total s u v) (ordering m shapes by_total s v w) (ordering m shapes by_total s u w) (ordering_chain m laws shapes well s u v w f h k);
      at_most = λ shapes s u v w well f h k.
          chain_at_most (ordering m shapes by_total s u v) (ordering m shapes by_total s v w) (ordering m shapes by_total s u w) (ordering_chain m laws shapes well s u v w f h k);
    }
