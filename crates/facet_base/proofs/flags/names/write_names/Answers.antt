use Rattle.std.proofs.Common.{refl, sym, true}
use Rattle.facet_base.proofs.FlagNames.{one_more_written, one_more_is_some, row_of_item, contained_row_adds_its_name, missing_row_adds_none}
use Rattle.facet_base.proofs.flags.names.write_names.Goals as goal
use Rattle.facet_base.proofs.flags.names.write_names.Goals.{then-contains+in_ok-write_name, else-contains}

pub loop-flag-preserved : goal.loop-flag-preserved
loop-flag-preserved g c =
    let at = row_of_item (λ flag. (flag.name.now, g.F.Flags.set_of flag.value)) c.flags-flags.result.now g.F.Flags.table c.loop-flag.flag-index c.flag-item.result
    (c.flags-flags.ensures c.requires) c.loop-flag-test.true c.flag-item.is in
    let contains = c.contains.ensures c.requires in
    let before = c.loop-flag.invariant in
    elim c.if-contains.branch [
      | then-contains+in_ok-write_name w ↦
          let more = contained_row_adds_its_name g.F.Flags.table (g.F.Flags.set_of c.args.set.now) c.loop-flag.flag-index _ at.0 at.1 _ contains w.if-contains.true in
          rw (more, w.is_empty-is, w.f-is) (
            sym (one_more_is_some _ _),
            λ plain. one_more_written _ _ _ _ _ _ _ before.0 (before.1 plain) (w.in_ok-write_name.ensures (before.1 plain).plain (refl {a = true})),
          )
      | else-contains w ↦
          let same = missing_row_adds_none g.F.Flags.table (g.F.Flags.set_of c.args.set.now) c.loop-flag.flag-index _ at.0 at.1 _ contains w.if-contains.false in
          rw (same, w.is_empty-is, w.f-is) before
    ]
