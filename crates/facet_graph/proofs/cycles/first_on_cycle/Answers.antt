use Rattle.std.proofs.Common.{◌-◌, subst, arith}
use Rattle.facet_graph.specs.HighNodes.{high_edges}
use Rattle.facet_graph.specs.Least.{IsLeast}
use Rattle.facet_graph.specs.Reach.{ReachesItself}
use Rattle.facet_graph.proofs.Carried.{all_low}
use Rattle.facet_graph.proofs.HighNodes.{high_stays, least_on_cycle, none_on_cycle}
use Rattle.facet_graph.proofs.WayBack.{not_high_not_back}
use Rattle.facet_graph.proofs.cycles.first_on_cycle.Goals as goal

pub returns-in_default : goal.returns-in_default
returns-in_default g c = λ s below. not_high_not_back _ s _ (c.requires.heights s below) (c.in_default.ensures s below)

pub least_on_cycle-requires : goal.least_on_cycle-requires
least_on_cycle-requires g c = record { edges = high_stays (g.G.Graph.edges c.args.graph.now) c.in-Some.start c.args.heights.now (g.G.Graph.count c.args.graph.now) c.requires.edges }

pub returns-in-Some-2 : goal.returns-in-Some-2
returns-in-Some-2 g c =
    let edges = g.G.Graph.edges c.args.graph.now in
    let n = g.G.Graph.count c.args.graph.now in
    let start = c.in-Some.start in
    let heights = c.args.heights.now in
    let low = all_low edges start heights (λ s below. c.requires.heights s (omega (arith, below, c.in-Some.ensures.0))) c.in-Some.ensures.2 in
    least_on_cycle edges start heights n c.requires.heights low c.requires.edges c.in-Some-2.node (subst (IsLeast (ReachesItself (high_edges edges start heights)) (n - start)) c.in-Some-2.is c.in_ok-node.ensures)

pub returns-in-None : goal.returns-in-None
returns-in-None g c =
    let edges = g.G.Graph.edges c.args.graph.now in
    let n = g.G.Graph.count c.args.graph.now in
    let start = c.in-Some.start in
    let heights = c.args.heights.now in
    let low = all_low edges start heights (λ s below. c.requires.heights s (omega (arith, below, c.in-Some.ensures.0))) c.in-Some.ensures.2 in
    none_on_cycle edges start heights n c.requires.heights low c.requires.edges (subst (IsLeast (ReachesItself (high_edges edges start heights)) (n - start)) c.in-None.is c.in_ok-node.ensures)
