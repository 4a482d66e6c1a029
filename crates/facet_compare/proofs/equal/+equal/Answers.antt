use Rattle.std.proofs.Common.{arith, sym, subst, ap, length, Some, ◌<◌, ◌∙◌}
use Rattle.facet_base.specs.declared.characteristic.Characteristic.TheVariants as trait
use Rattle.facet_walk.specs.Look.{places_of}
use Rattle.facet_walk.proofs.ReadableParts.{levels_positive, parts_seen}
use Rattle.facet_compare.proofs.AnsweredByKind.{same_number}
use Rattle.facet_compare.proofs.ComparedPlaces.{equal_counts, equality_end, equality_of_seen, equality_step, leaves_have, no_equality, nodes_alike, other_counts, other_ranks}
use Rattle.facet_compare.proofs.equal.+equal.Goals as goal

pub equal_at-returns-then-not-is_answered : goal.equal_at-returns-then-not-is_answered
equal_at-returns-then-not-is_answered g t c = sym (no_equality c.requires.first c.requires.second c.if-not-is_answered.ensures)

pub equal_at-same-requires-clause-can : goal.equal_at-same-requires-clause-can
equal_at-same-requires-clause-can g t c =
    let have = leaves_have c.requires.first c.requires.second c.requires.well_formed c.in-Leaf-Leaf.ensures c.in-Leaf-Leaf.ensures' (ap (λ id. id.0) c.requires.same) trait.PartialEq tt c.if-not-is_answered.ensures in
    have.can

pub equal_at-same-requires-clause-one_kind : goal.equal_at-same-requires-clause-one_kind
equal_at-same-requires-clause-one_kind g t c =
    let have = leaves_have c.requires.first c.requires.second c.requires.well_formed c.in-Leaf-Leaf.ensures c.in-Leaf-Leaf.ensures' (ap (λ id. id.0) c.requires.same) trait.PartialEq tt c.if-not-is_answered.ensures in
    have.one_kind

pub equal_at-returns-then-ours-theirs : goal.equal_at-returns-then-ours-theirs
equal_at-returns-then-ours-theirs g t c =
    rw (equality_of_seen c.requires.first c.requires.second c.in-Node-Node.ensures c.in-Node-Node.ensures' c.if-not-is_answered.ensures)
    (other_ranks _ _ c.rank_of-ours.result c.rank_of-theirs.result _ _ c.rank_of-ours.ensures c.rank_of-theirs.ensures c.if-ours-theirs.true)

pub equal_at-returns-then-len : goal.equal_at-returns-then-len
equal_at-returns-then-len g t c =
    rw (equality_of_seen c.requires.first c.requires.second c.in-Node-Node.ensures c.in-Node-Node.ensures' c.if-not-is_answered.ensures)
    (other_counts _ _ c.len.result c.len-in-Node-Node.result _ _ c.len.ensures c.len-in-Node-Node.ensures c.if-len.true)

pub equal_at-equal_parts-requires : goal.equal_at-equal_parts-requires
equal_at-equal_parts-requires g t c κs within =
    let same = ap (λ id. id.0) c.requires.same in
    let ranks = same_number c.rank_of-ours.result c.rank_of-theirs.result c.rank_of-ours.type_inv c.rank_of-theirs.type_inv c.if-ours-theirs.false in (
      omega (arith, c.decreases, levels_positive c.requires.first),
      (
        within,
        (
          c.requires.well_formed,
          (
            parts_seen c.requires.first c.requires.well_formed c.requires.sealed c.in-Node-Node.ensures,
            (
              parts_seen c.requires.second c.requires.well_formed (subst (λ s. s < length c.args.shapes.now.sealed) same c.requires.sealed) c.in-Node-Node.ensures',
              (
                nodes_alike c.requires.first c.requires.second c.requires.well_formed c.in-Node-Node.ensures c.in-Node-Node.ensures' same (sym c.rank_of-ours.ensures ∙ ranks ∙ c.rank_of-theirs.ensures),
                sym c.len.ensures ∙ c.if-len.false ∙ c.len-in-Node-Node.ensures,
              ),
            ),
          ),
        ),
      ),
    )

pub equal_at-returns-in-Leaf-Leaf : goal.equal_at-returns-in-Leaf-Leaf
equal_at-returns-in-Leaf-Leaf g t c =
    rw (equality_of_seen c.requires.first c.requires.second c.in-Leaf-Leaf.ensures c.in-Leaf-Leaf.ensures' c.if-not-is_answered.ensures) (ap Some c.same.ensures)

pub equal_at-returns-in-Leaf-Node : goal.equal_at-returns-in-Leaf-Node
equal_at-returns-in-Leaf-Node g t c = rw (equality_of_seen c.requires.first c.requires.second c.in-Leaf-Node.ensures c.in-Leaf-Node.ensures' c.if-not-is_answered.ensures)

pub equal_at-returns-else-len : goal.equal_at-returns-else-len
equal_at-returns-else-len g t c =
    rw (equality_of_seen c.requires.first c.requires.second c.in-Node-Node.ensures c.in-Node-Node.ensures' c.if-not-is_answered.ensures)
    (c.equal_parts.ensures ∙ equal_counts _ _ c.rank_of-ours.result c.rank_of-theirs.result _ _ c.len.result c.len-in-Node-Node.result _ c.rank_of-ours.ensures c.rank_of-theirs.ensures
    (same_number c.rank_of-ours.result c.rank_of-theirs.result c.rank_of-ours.type_inv c.rank_of-theirs.type_inv c.if-ours-theirs.false) c.len.ensures c.len-in-Node-Node.ensures c.if-len.false)

pub equal_at-returns-in-Node-Leaf : goal.equal_at-returns-in-Node-Leaf
equal_at-returns-in-Node-Leaf g t c = rw (equality_of_seen c.requires.first c.requires.second c.in-Node-Leaf.ensures c.in-Node-Leaf.ensures' c.if-not-is_answered.ensures)

pub equal_parts-returns-in-Some-false : goal.equal_parts-returns-in-Some-false
equal_parts-returns-in-Some-false g t c =
    let e = equality_step g.L.Leaf.model c.args.shapes.now.sealed c.args.levels (places_of c.args.a) (places_of c.args.b) c.loop-i.i c.part.ensures c.part-in-loop-i.ensures in
    rw (← c.loop-i.invariant, e, ← c.in-Some-false.ensures, c.in-Some-false.field-0-test)

pub equal_parts-returns-in-None : goal.equal_parts-returns-in-None
equal_parts-returns-in-None g t c =
    let e = equality_step g.L.Leaf.model c.args.shapes.now.sealed c.args.levels (places_of c.args.a) (places_of c.args.b) c.loop-i.i c.part.ensures c.part-in-loop-i.ensures in
    rw (← c.loop-i.invariant, e, ← c.in-None.ensures)

pub equal_parts-loop-i-preserved : goal.equal_parts-loop-i-preserved
equal_parts-loop-i-preserved g t c =
    let e = equality_step g.L.Leaf.model c.args.shapes.now.sealed c.args.levels (places_of c.args.a) (places_of c.args.b) c.loop-i.i c.part.ensures c.part-in-loop-i.ensures in
    let h = rw (← c.in-Some-true.ensures, c.in-Some-true.field-0-test) at e in
    sym h ∙ c.loop-i.invariant

pub equal_parts-returns : goal.equal_parts-returns
equal_parts-returns g t c =
    sym (equality_end g.L.Leaf.model c.args.shapes.now.sealed c.args.levels (places_of c.args.a) (places_of c.args.b) c.loop-i.i (omega arith))
    ∙ c.loop-i.invariant
