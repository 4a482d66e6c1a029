use Rattle.std.proofs.Common.{◌≡◌, ◌+◌, ◌-◌, ◌<◌, ◌↔◌, ◌++◌, IsTrue, get_or, sym, ◌∙◌, ap, subst, arith}
use Rattle.std.proofs.lemmas.List.{append-nil}
use Rattle.std.proofs.lemmas.Result.{IfOk-equal}
use Rattle.facet_graph.specs.HighNodes.{behind}
use Rattle.facet_graph.proofs.HighNodes.{high_with_edges, low_without_edges}
use Rattle.facet_graph.proofs.high_nodes.HighNodesGraph.push_edges.Goals as goal

pub returns-then-is_low : goal.returns-then-is_low
returns-then-is_low g c =
    let edges = g.G.Graph.edges c.args.self.now.graph.now in
    let first = c.args.self.now.first in
    let heights = c.args.self.now.heights.now in
    let old = c.args.to.now.items in
    let same : c.len.result - (c.len-2.result - c.args.node) ≡ first + c.args.node = omega (arith, c.len.ensures, c.len-2.ensures, c.requires) in
    let low = subst (λ t. 0 < get_or heights t 0) same (c.is_low.ensures.0 c.if-is_low.true) in
    sym (append-nil old) ∙ ap (λ nodes. old ++ nodes) (sym (low_without_edges edges first heights c.args.node low))

pub returns : goal.returns
returns g c =
    let edges = g.G.Graph.edges c.args.self.now.graph.now in
    let first = c.args.self.now.first in
    let heights = c.args.self.now.heights.now in
    let old = c.args.to.now.items in
    let at = c.len.result - (c.len-2.result - c.args.node) in
    let same : at ≡ first + c.args.node = omega (arith, c.len.ensures, c.len-2.ensures, c.requires) in
    let told = subst (λ t. IsTrue c.is_low.result ↔ (0 < get_or heights t 0)) same c.is_low.ensures in
    let pushed = c.deref.ensures.value ∙ c.in_ok-push_edges.ensures ∙ ap (λ nodes. nodes ++ edges at) c.new-nodes.ensures.items ∙ ap edges same in
    IfOk-equal c.push_behind.result c.push_behind.new.to.items (old ++ behind first c.deref.result.now) _ c.push_behind.ensures
    (ap (λ nodes. old ++ behind first nodes) pushed ∙ ap (λ nodes. old ++ nodes) (sym (high_with_edges edges first heights c.args.node c.is_low.result told c.if-is_low.false)))
