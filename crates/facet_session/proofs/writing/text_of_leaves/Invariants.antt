use Rattle.std.proofs.Common.{◌≡◌, ◌++◌, drop}
use Rattle.std.specs.Str.{IsUtf8}
use Rattle.facet_drop.specs.LeavesText.{leaves_text}
use Rattle.facet_session.proofs.writing.text_of_leaves.Given as goal

abbrev pub invariant-loop-leaf : goal.invariant-loop-leaf
invariant-loop-leaf g l =
    let m = g.L.Leaf.model in
    record {
      utf8 : IsUtf8 l.bytes.items;
      written : l.bytes.items ++ leaves_text m (drop l.leaf-index l.leaves) ≡ leaves_text m l.leaves;
    }
