use Rattle.std.proofs.Common.{arith, sym, ap, subst, true, false, length, Some, Less, Greater, ◌≡◌, ◌<◌, ◌∙◌}
use Rattle.facet_trees.specs.Answered.{is_answered}
use Rattle.facet_walk.specs.Look.{places_of}
use Rattle.facet_walk.proofs.ReadableParts.{levels_positive, parts_seen}
use Rattle.facet_compare.specs.Walks.{which_of}
use Rattle.facet_compare.proofs.AnsweredByKind.{read_back}
use Rattle.facet_compare.proofs.ComparedPlaces.{asked_by, leaves_have, no_ordering, nodes_alike, ordering_end, ordering_longer, ordering_of_seen, ordering_shorter, ordering_step, rank_first, rank_same, ranks_equal}
use Rattle.facet_compare.proofs.order.+order.Goals as goal

pub order_at-returns-then-not-is_answered : goal.order_at-returns-then-not-is_answered
order_at-returns-then-not-is_answered g t c =
    let which = which_of c.args.which in
    sym (no_ordering c.requires.first c.requires.second which (subst (λ k. false ≡ is_answered c.args.shapes.now.sealed k c.args.a.shape.0) c.capability_of.ensures c.if-not-is_answered.ensures))

pub order_at-order_of_leaves-requires : goal.order_at-order_of_leaves-requires
order_at-order_of_leaves-requires g t c =
    let which = which_of c.args.which in
    leaves_have c.requires.first c.requires.second c.requires.well_formed c.in-Leaf-Leaf.ensures c.in-Leaf-Leaf.ensures' (ap (λ id. id.0) c.requires.same) _ (asked_by which)
    (subst (λ k. true ≡ is_answered c.args.shapes.now.sealed k c.args.a.shape.0) c.capability_of.ensures c.if-not-is_answered.ensures)

pub order_at-order_parts-requires : goal.order_at-order_parts-requires
order_at-order_parts-requires g t c κs within =
    let same = ap (λ id. id.0) c.requires.same in
    let ours = read_back c.rank_of-ours.result c.rank_of-ours.type_inv ∙ c.rank_of-ours.ensures in
    let theirs = read_back c.rank_of-theirs.result c.rank_of-theirs.type_inv ∙ c.rank_of-theirs.ensures in (
      omega (arith, c.decreases, levels_positive c.requires.first),
      (
        within,
        (
          c.requires.well_formed,
          (
            parts_seen c.requires.first c.requires.well_formed c.requires.sealed c.in-Node-Node.ensures,
            (
              parts_seen c.requires.second c.requires.well_formed (subst (λ s. s < length c.args.shapes.now.sealed) same c.requires.sealed) c.in-Node-Node.ensures',
              nodes_alike c.requires.first c.requires.second c.requires.well_formed c.in-Node-Node.ensures c.in-Node-Node.ensures' same (ranks_equal _ _ _ _ ours theirs c.in-Equal.ensures),
            ),
          ),
        ),
      ),
    )

pub order_at-returns-in-Leaf-Leaf : goal.order_at-returns-in-Leaf-Leaf
order_at-returns-in-Leaf-Leaf g t c =
    let is = subst (λ k. true ≡ is_answered c.args.shapes.now.sealed k c.args.a.shape.0) c.capability_of.ensures c.if-not-is_answered.ensures in
    rw (ordering_of_seen c.requires.first c.requires.second (which_of c.args.which) c.in-Leaf-Leaf.ensures c.in-Leaf-Leaf.ensures' is) (ap Some c.order_of_leaves.ensures)

pub order_at-returns-in-Leaf-Node : goal.order_at-returns-in-Leaf-Node
order_at-returns-in-Leaf-Node g t c =
    let is = subst (λ k. true ≡ is_answered c.args.shapes.now.sealed k c.args.a.shape.0) c.capability_of.ensures c.if-not-is_answered.ensures in
    rw (ordering_of_seen c.requires.first c.requires.second (which_of c.args.which) c.in-Leaf-Node.ensures c.in-Leaf-Node.ensures' is)

pub order_at-returns-in-Less : goal.order_at-returns-in-Less
order_at-returns-in-Less g t c =
    let ours = read_back c.rank_of-ours.result c.rank_of-ours.type_inv ∙ c.rank_of-ours.ensures in
    let theirs = read_back c.rank_of-theirs.result c.rank_of-theirs.type_inv ∙ c.rank_of-theirs.ensures in
    let is = subst (λ k. true ≡ is_answered c.args.shapes.now.sealed k c.args.a.shape.0) c.capability_of.ensures c.if-not-is_answered.ensures in
    rw (ordering_of_seen c.requires.first c.requires.second (which_of c.args.which) c.in-Node-Node.ensures c.in-Node-Node.ensures' is)
    (rank_first Less _ _ _ _ _ ours theirs c.in-Less.ensures (λ e. cc))

pub order_at-returns-in-Greater : goal.order_at-returns-in-Greater
order_at-returns-in-Greater g t c =
    let ours = read_back c.rank_of-ours.result c.rank_of-ours.type_inv ∙ c.rank_of-ours.ensures in
    let theirs = read_back c.rank_of-theirs.result c.rank_of-theirs.type_inv ∙ c.rank_of-theirs.ensures in
    let is = subst (λ k. true ≡ is_answered c.args.shapes.now.sealed k c.args.a.shape.0) c.capability_of.ensures c.if-not-is_answered.ensures in
    rw (ordering_of_seen c.requires.first c.requires.second (which_of c.args.which) c.in-Node-Node.ensures c.in-Node-Node.ensures' is)
    (rank_first Greater _ _ _ _ _ ours theirs c.in-Greater.ensures (λ e. cc))

pub order_at-returns-in-Equal : goal.order_at-returns-in-Equal
order_at-returns-in-Equal g t c =
    let ours = read_back c.rank_of-ours.result c.rank_of-ours.type_inv ∙ c.rank_of-ours.ensures in
    let theirs = read_back c.rank_of-theirs.result c.rank_of-theirs.type_inv ∙ c.rank_of-theirs.ensures in
    let is = subst (λ k. true ≡ is_answered c.args.shapes.now.sealed k c.args.a.shape.0) c.capability_of.ensures c.if-not-is_answered.ensures in
    rw (ordering_of_seen c.requires.first c.requires.second (which_of c.args.which) c.in-Node-Node.ensures c.in-Node-Node.ensures' is)
    (c.order_parts.ensures ∙ rank_same _ _ _ _ _ ours theirs c.in-Equal.ensures)

pub order_at-returns-in-Node-Leaf : goal.order_at-returns-in-Node-Leaf
order_at-returns-in-Node-Leaf g t c =
    let is = subst (λ k. true ≡ is_answered c.args.shapes.now.sealed k c.args.a.shape.0) c.capability_of.ensures c.if-not-is_answered.ensures in
    rw (ordering_of_seen c.requires.first c.requires.second (which_of c.args.which) c.in-Node-Leaf.ensures c.in-Node-Leaf.ensures' is)

pub order_parts-returns-then-others-i : goal.order_parts-returns-then-others-i
order_parts-returns-then-others-i g t c =
    sym (ordering_longer g.L.Leaf.model c.args.shapes.now.sealed (which_of c.args.which) c.args.levels (places_of c.args.a) (places_of c.args.b) c.loop-i.i (omega arith) (omega arith))
    ∙ c.loop-i.invariant

pub order_parts-returns-in-Some-Some-Less : goal.order_parts-returns-in-Some-Some-Less
order_parts-returns-in-Some-Some-Less g t c =
    let e = ordering_step g.L.Leaf.model c.args.shapes.now.sealed (which_of c.args.which) c.args.levels (places_of c.args.a) (places_of c.args.b) c.loop-i.i c.part.ensures c.part-in-loop-i.ensures in
    rw (← c.loop-i.invariant, e, ← c.in-Some-Some-Less.ensures, c.in-Some-Some-Less.field-0-is, c.in-Some-Some-Less.field-0-0-is)

pub order_parts-returns-in-Some-Some-Greater : goal.order_parts-returns-in-Some-Some-Greater
order_parts-returns-in-Some-Some-Greater g t c =
    let e = ordering_step g.L.Leaf.model c.args.shapes.now.sealed (which_of c.args.which) c.args.levels (places_of c.args.a) (places_of c.args.b) c.loop-i.i c.part.ensures c.part-in-loop-i.ensures in
    rw (← c.loop-i.invariant, e, ← c.in-Some-Some-Greater.ensures, c.in-Some-Some-Greater.field-0-is, c.in-Some-Some-Greater.field-0-0-is)

pub order_parts-returns-in-Some-None : goal.order_parts-returns-in-Some-None
order_parts-returns-in-Some-None g t c =
    let e = ordering_step g.L.Leaf.model c.args.shapes.now.sealed (which_of c.args.which) c.args.levels (places_of c.args.a) (places_of c.args.b) c.loop-i.i c.part.ensures c.part-in-loop-i.ensures in
    rw (← c.loop-i.invariant, e, ← c.in-Some-None.ensures, c.in-Some-None.field-0-is)

pub order_parts-returns-in-None : goal.order_parts-returns-in-None
order_parts-returns-in-None g t c =
    let e = ordering_step g.L.Leaf.model c.args.shapes.now.sealed (which_of c.args.which) c.args.levels (places_of c.args.a) (places_of c.args.b) c.loop-i.i c.part.ensures c.part-in-loop-i.ensures in
    rw (← c.loop-i.invariant, e, ← c.in-None.ensures)

pub order_parts-loop-i-preserved : goal.order_parts-loop-i-preserved
order_parts-loop-i-preserved g t c =
    let e = ordering_step g.L.Leaf.model c.args.shapes.now.sealed (which_of c.args.which) c.args.levels (places_of c.args.a) (places_of c.args.b) c.loop-i.i c.part.ensures c.part-in-loop-i.ensures in
    let h = rw (← c.in-Some-Some-Equal.ensures, c.in-Some-Some-Equal.field-0-is, c.in-Some-Some-Equal.field-0-0-is) at e in
    sym h ∙ c.loop-i.invariant

pub order_parts-returns-then-len-others : goal.order_parts-returns-then-len-others
order_parts-returns-then-len-others g t c =
    sym (ordering_shorter g.L.Leaf.model c.args.shapes.now.sealed (which_of c.args.which) c.args.levels (places_of c.args.a) (places_of c.args.b) c.loop-i.i (omega arith) (omega arith))
    ∙ c.loop-i.invariant

pub order_parts-returns : goal.order_parts-returns
order_parts-returns g t c =
    sym (ordering_end g.L.Leaf.model c.args.shapes.now.sealed (which_of c.args.which) c.args.levels (places_of c.args.a) (places_of c.args.b) c.loop-i.i (omega arith) (omega arith))
    ∙ c.loop-i.invariant
