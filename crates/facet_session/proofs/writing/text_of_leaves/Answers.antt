use Rattle.std.proofs.Common.{◌≡◌, [], ◌∷◌, ◌++◌, ◌+◌, ◌∙◌, ap, sym, subst, drop, append_assoc, arith}
use Rattle.std.proofs.lemmas.List.{append-nil, drop_all, drop_more}
use Rattle.std.specs.Prelude.{codes}
use Rattle.facet_drop.specs.LeavesText.{leaves_text}
use Rattle.facet_session.proofs.writing.text_of_leaves.Goals as goal

pub loop-leaf-preserved : goal.loop-leaf-preserved
loop-leaf-preserved g c =
    let m = g.L.Leaf.model in
    let i = c.loop-leaf.leaf-index in
    let x = c.leaf-item.result in
    let leaves = c.args.leaves.now in
    let before = c.loop-leaf.bytes.items in
    let rest = drop (i + 1) leaves in
    let step : drop i leaves ≡ x ∷ rest = drop_more leaves i x c.loop-leaf-test.true ∙ ap (λ y. y ∷ rest) (sym c.leaf-item.is) in
    let behind = leaves_text m rest in
    record {
      utf8 = c.in_ok-push_leaf.ensures.utf8 c.loop-leaf.invariant.utf8;
      written =
          ap (λ xs. xs ++ behind) c.in_ok-push_leaf.ensures.written
          ∙ append_assoc (before ++ codes ", ") (m.debug x) behind
          ∙ append_assoc before (codes ", ") (m.debug x ++ behind)
          ∙ ap (λ xs. before ++ xs) (sym (append_assoc (codes ", ") (m.debug x) behind))
          ∙ ap (λ ys. before ++ leaves_text m ys) (sym step)
          ∙ c.loop-leaf.invariant.written;
    }

pub returns-clause-written : goal.returns-clause-written
returns-clause-written g c =
    let m = g.L.Leaf.model in
    let leaves = c.args.leaves.now in
    let bytes = c.loop-leaf.bytes.items in
    let none : drop c.loop-leaf.leaf-index leaves ≡ [] = drop_all c.loop-leaf.leaf-index leaves (omega (arith, c.loop-leaf-test.false)) in
    sym (append-nil bytes) ∙ subst (λ ys. bytes ++ leaves_text m ys ≡ leaves_text m leaves) none c.loop-leaf.invariant.written
