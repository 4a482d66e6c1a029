use Rattle.std.proofs.Common.{◌≡◌, ◌<◌, ◌+◌, get_or, sym, ◌∙◌, subst, inl, inr, arith}
use Rattle.std.specs.Bool.{OnFalse}
use Rattle.std.proofs.lemmas.Bool.{cases_lt}
use Rattle.facet_graph.specs.Height.{IsWithin}
use Rattle.facet_graph.proofs.Tables.{filled_kept, still_same}
use Rattle.facet_graph.proofs.heights.fill_once.Goals as goal
use Rattle.facet_graph.proofs.heights.fill_once.Goals.{then-branch, else-branch}

pub loop-s-preserved : goal.loop-s-preserved
loop-s-preserved g c =
    let edges = g.G.Graph.edges c.args.graph.now in
    let n = g.G.Graph.count c.args.graph.now in
    let start = c.args.heights.now.items in
    let old = c.loop-s.heights.items in
    let new = c.fill_entry.new.heights.items in
    record {
      len = omega arith;
      begins = c.in_ok-fill_entry.ensures.begins c.args.first (omega arith) ∙ c.loop-s.invariant.begins;
      known = c.in_ok-fill_entry.ensures.known;
      kept = λ s some. let was = c.loop-s.invariant.kept s some in c.in_ok-fill_entry.ensures.kept s (subst (λ h. 0 < h) (sym was) some) ∙ was;
      same = elim c.if-branch.branch [
        | then-branch w ↦ rw w.added-is tt
        | else-branch w ↦ rw w.added-is (still_same c.loop-s.added start old new c.loop-s.invariant.same (subst (λ added. OnFalse added (new ≡ old)) w.if-branch.false c.in_ok-fill_entry.ensures.same))
      ];
      filled = λ k small filled s below within. elim (cases_lt s c.loop-s.s) [
        | inl before ↦ let some = c.loop-s.invariant.filled k small filled s before within in subst (λ h. 0 < h) (sym (c.in_ok-fill_entry.ensures.kept s some)) some
        | inr last ↦
            let at : c.loop-s.s ≡ s = omega (arith, last, below) in
            subst (λ t. 0 < get_or new t 0) at (c.in_ok-fill_entry.ensures.filled k small (filled_kept edges n k start old c.loop-s.invariant.kept filled) (subst (IsWithin edges (k + 1)) (sym at) within))
      ];
    }
