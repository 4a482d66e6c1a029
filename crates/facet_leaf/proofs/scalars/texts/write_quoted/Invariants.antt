use Rattle.std.proofs.Common.{◌≡◌, ℕ, ◌<◌, ◌≤◌, ◌∷◌, [], ◌++◌, drop, get_or}
use Rattle.std.specs.List.{flat_map}
use Rattle.facet_leaf.specs.scalars.ScalarTexts.{escaped, quoted}
use Rattle.facet_leaf.proofs.TextsInParts.{IsLeft}
use Rattle.facet_leaf.proofs.scalars.texts.write_quoted.Given as goal

abbrev pub invariant-loop-end : goal.invariant-loop-end
invariant-loop-end g l = record {
  in_order : l.start ≤ l.end;
  left : IsLeft (g.W.Write.contents l.fn.out) (g.W.Write.contents l.out) (flat_map (escaped l.quote) (drop l.start l.bytes) ++ l.quote ∷ []) (quoted l.quote l.bytes);
  kept : (k : ℕ) → l.start ≤ k → k < l.end → escaped l.quote (get_or l.bytes k 0) ≡ get_or l.bytes k 0 ∷ [];
}
