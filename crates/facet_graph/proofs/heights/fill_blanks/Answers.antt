use Rattle.std.proofs.Common.{◌≡◌, ◌<◌, ◌+◌, ℕ, subst, refl, arith}
use Rattle.std.specs.Bool.{OnFalse}
use Rattle.facet_graph.specs.Passes.{AreFilled}
use Rattle.facet_graph.proofs.Tables.{filled_none, filled_up, heights_done}
use Rattle.facet_graph.proofs.heights.fill_blanks.Goals as goal

pub loop-pass-init : goal.loop-pass-init
loop-pass-init g c = record {
  len = c.requires.len;
  begins = refl;
  known = c.requires.known;
  before = c.requires.before;
  filled = filled_none (g.G.Graph.edges c.args.graph.now) (g.G.Graph.count c.args.graph.now) c.args.heights.now.items;
}

pub returns-then-not-branch-clause-heights : goal.returns-then-not-branch-clause-heights
returns-then-not-branch-clause-heights g c =
    let edges = g.G.Graph.edges c.args.graph.now in
    let n = g.G.Graph.count c.args.graph.now in
    let new = c.fill_once.new.heights.items in
    let same = subst (λ added. OnFalse added (new ≡ c.loop-pass.heights.items)) c.if-not-branch.true c.in_ok-fill_once.ensures.same in
    let step : (k : ℕ) → k < 100 → AreFilled edges n k new → AreFilled edges n (k + 1) new = λ k small filled. c.in_ok-fill_once.ensures.filled k small (subst (AreFilled edges n k) same filled) in
    heights_done edges new c.in_ok-fill_once.ensures.known n c.requires.edges (filled_up edges n 0 100 new (omega arith) (filled_none edges n new) step)

pub returns-clause-heights : goal.returns-clause-heights
returns-clause-heights g c =
    let edges = g.G.Graph.edges c.args.graph.now in
    let n = g.G.Graph.count c.args.graph.now in
    let all : c.loop-pass.pass ≡ 100 = omega arith in
    heights_done edges c.loop-pass.heights.items c.loop-pass.invariant.known n c.requires.edges (subst (λ k. AreFilled edges n k c.loop-pass.heights.items) all c.loop-pass.invariant.filled)
