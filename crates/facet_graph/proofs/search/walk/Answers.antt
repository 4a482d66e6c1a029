use Rattle.std.proofs.Common.{◌≡◌, ◌<◌, Any, length, false, refl, sym, ◌∙◌, arith}
use Rattle.std.proofs.lemmas.List.{get_or_read_under}
use Rattle.std.proofs.lemmas.List.Elements.{All-push}
use Rattle.facet_graph.proofs.Frontier.{expands, finds, last_reached, marked_clean, nothing_left, passes, starts_clean, starts_marked, within_edges, within_front, within_last}
use Rattle.facet_graph.specs.Reach.{Reaches}
use Rattle.facet_graph.proofs.Trails.{trail_grows}
use Rattle.facet_graph.proofs.Work.{work_falls}
use Rattle.facet_graph.proofs.search.walk.Goals as goal

pub loop-node-preserved-then-index : goal.loop-node-preserved-then-index
loop-node-preserved-then-index g c =
    let split = c.in-Some.ensures.items in
    let below = within_last (λ s. s < g.G.Graph.count c.args.graph.now) c.loop-node.left.items c.pop.new.self.items c.in-Some.node split c.loop-node.invariant.within in
    let len : c.loop-node.marks.len ≡ length c.loop-node.marks.items = omega arith in
    let under : c.in-Some.node < c.loop-node.marks.len = omega arith in
    let read = get_or_read_under c.loop-node.marks.items c.in-Some.node c.loop-node.marks.len c.index.result.now false c.index.ensures under len in
    record {
      len = c.loop-node.invariant.len;
      within = within_front (λ s. s < g.G.Graph.count c.args.graph.now) c.loop-node.left.items c.pop.new.self.items c.in-Some.node split c.loop-node.invariant.within;
      frontier = passes _ _ _ _ c.loop-node.marks.items c.loop-node.left.items c.pop.new.self.items c.in-Some.node c.loop-node.invariant.frontier split (sym read ∙ c.if-index.true);
      trail = c.loop-node.invariant.trail;
      trail_reached = c.loop-node.invariant.trail_reached;
      trail_within = c.loop-node.invariant.trail_within;
    }

pub returns-then-is_bad-clause-found : goal.returns-then-is_bad-clause-found
returns-then-is_bad-clause-found g c = (λ _. finds _ _ _ _ c.loop-node.marks.items c.loop-node.left.items c.pop.new.self.items c.in-Some.node c.loop-node.invariant.frontier c.in-Some.ensures.items (sym c.if-is_bad.ensures), λ _. refl)

pub loop-node-smaller : goal.loop-node-smaller
loop-node-smaller g c =
    let split = c.in-Some.ensures.items in
    let below = within_last (λ s. s < g.G.Graph.count c.args.graph.now) c.loop-node.left.items c.pop.new.self.items c.in-Some.node split c.loop-node.invariant.within in
    let len : c.loop-node.marks.len ≡ length c.loop-node.marks.items = omega arith in
    let under : c.in-Some.node < c.loop-node.marks.len = omega arith in
    let read = get_or_read_under c.loop-node.marks.items c.in-Some.node c.loop-node.marks.len c.index.result.now false c.index.ensures under len in
    rw c.in_ok-push_edges.ensures (work_falls (g.G.Graph.edges c.args.graph.now) c.loop-node.marks.items c.loop-node.left.items c.pop.new.self.items c.in-Some.node split (omega arith) (sym read ∙ c.if-index.false))

pub loop-node-preserved : goal.loop-node-preserved
loop-node-preserved g c =
    let split = c.in-Some.ensures.items in
    let below = within_last (λ s. s < g.G.Graph.count c.args.graph.now) c.loop-node.left.items c.pop.new.self.items c.in-Some.node split c.loop-node.invariant.within in
    let len : c.loop-node.marks.len ≡ length c.loop-node.marks.items = omega arith in
    let under : c.in-Some.node < c.loop-node.marks.len = omega arith in
    let read = get_or_read_under c.loop-node.marks.items c.in-Some.node c.loop-node.marks.len c.index.result.now false c.index.ensures under len in
    record {
      len = c.loop-node.invariant.len;
      within = rw c.in_ok-push_edges.ensures (within_edges _ _ c.pop.new.self.items c.in-Some.node c.requires.edges below (within_front (λ s. s < g.G.Graph.count c.args.graph.now) c.loop-node.left.items c.pop.new.self.items c.in-Some.node split c.loop-node.invariant.within));
      frontier = rw c.in_ok-push_edges.ensures (expands _ _ _ _ c.loop-node.marks.items c.loop-node.left.items c.pop.new.self.items c.in-Some.node c.loop-node.invariant.frontier split (omega arith) (sym c.is_bad.ensures ∙ c.if-is_bad.false));
      trail = rw c.in_ok-push.ensures.items (trail_grows c.args.marks.now.items c.loop-node.marks.items c.loop-node.trail.items c.in-Some.node (omega arith) (sym read ∙ c.if-index.false) c.loop-node.invariant.trail);
      trail_reached = rw c.in_ok-push.ensures.items (All-push (λ t. Any (λ s. Reaches (g.G.Graph.edges c.args.graph.now) s t) c.args.starts.items) c.loop-node.trail.items c.in-Some.node c.loop-node.invariant.trail_reached (last_reached _ _ _ _ c.loop-node.marks.items c.loop-node.left.items c.pop.new.self.items c.in-Some.node c.loop-node.invariant.frontier split));
      trail_within = rw c.in_ok-push.ensures.items (All-push (λ s. s < g.G.Graph.count c.args.graph.now) c.loop-node.trail.items c.in-Some.node c.loop-node.invariant.trail_within below);
    }

pub returns-in_err-push-clause-reached : goal.returns-in_err-push-clause-reached
returns-in_err-push-clause-reached g c = rw c.in_err-push.ensures.items c.loop-node.invariant.trail_reached

pub returns-in_err-push_edges-clause-trail : goal.returns-in_err-push_edges-clause-trail
returns-in_err-push_edges-clause-trail g c =
    let split = c.in-Some.ensures.items in
    let below = within_last (λ s. s < g.G.Graph.count c.args.graph.now) c.loop-node.left.items c.pop.new.self.items c.in-Some.node split c.loop-node.invariant.within in
    let len : c.loop-node.marks.len ≡ length c.loop-node.marks.items = omega arith in
    let under : c.in-Some.node < c.loop-node.marks.len = omega arith in
    let read = get_or_read_under c.loop-node.marks.items c.in-Some.node c.loop-node.marks.len c.index.result.now false c.index.ensures under len in
    rw c.in_ok-push.ensures.items (trail_grows c.args.marks.now.items c.loop-node.marks.items c.loop-node.trail.items c.in-Some.node (omega arith) (sym read ∙ c.if-index.false) c.loop-node.invariant.trail)

pub returns-in_err-push_edges-clause-reached : goal.returns-in_err-push_edges-clause-reached
returns-in_err-push_edges-clause-reached g c =
    let split = c.in-Some.ensures.items in
    rw c.in_ok-push.ensures.items (All-push (λ t. Any (λ s. Reaches (g.G.Graph.edges c.args.graph.now) s t) c.args.starts.items) c.loop-node.trail.items c.in-Some.node c.loop-node.invariant.trail_reached (last_reached _ _ _ _ c.loop-node.marks.items c.loop-node.left.items c.pop.new.self.items c.in-Some.node c.loop-node.invariant.frontier split))

pub returns-clause-found : goal.returns-clause-found
returns-clause-found g c =
    let none : length c.loop-node.left.items ≡ 0 = omega (arith, c.in_default.ensures.cases.0) in
    (λ never. cc, λ reached. absurd (starts_clean _ _ _ _ c.loop-node.marks.items c.requires.clean (nothing_left _ _ _ _ _ c.loop-node.left.items none c.loop-node.invariant.frontier) reached))

pub returns-clause-clean : goal.returns-clause-clean
returns-clause-clean g c =
    let none : length c.loop-node.left.items ≡ 0 = omega (arith, c.in_default.ensures.cases.0) in
    marked_clean _ _ _ _ c.loop-node.marks.items c.requires.clean (nothing_left _ _ _ _ _ c.loop-node.left.items none c.loop-node.invariant.frontier)

pub returns-clause-marked : goal.returns-clause-marked
returns-clause-marked g c =
    let none : length c.loop-node.left.items ≡ 0 = omega (arith, c.in_default.ensures.cases.0) in
    starts_marked _ _ _ _ c.loop-node.marks.items c.requires.clean (nothing_left _ _ _ _ _ c.loop-node.left.items none c.loop-node.invariant.frontier)
