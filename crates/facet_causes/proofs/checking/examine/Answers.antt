use Rattle.std.proofs.Common.{arith}
use Rattle.facet_causes.specs.Tables.{AreTables}
use Rattle.facet_causes.specs.declared.cause.SealCause.TheVariants as cause
use Rattle.facet_causes.proofs.Found.{always}
use Rattle.facet_causes.proofs.FrontTables.{before_low, inline_low}
use Rattle.facet_causes.proofs.checking.examine.Goals as goal

pub refuse_large-requires-clause-sealed : goal.refuse_large-requires-clause-sealed
refuse_large-requires-clause-sealed g c = λ met s below. c.requires.sealed met s (omega (arith, below, c.requires.tables.heights_len))

pub returns-clause-tables : goal.returns-clause-tables
returns-clause-tables g c =
    let model = g.L.Leaf.model in
    let shapes = c.args.shapes.now in
    always c.refuse_draft.result (AreTables shapes (record { inline_heights = c.refuse_cycle.new.heights; heights = c.refuse_large.new.heights; part_counts = c.refuse_large.new.part_counts; name_lengths = c.refuse_large.new.name_lengths; ordered = c.refuse_key.new.ordered })) record {
      inline_heights_len = c.in_ok-refuse_cycle.ensures.len;
      inline_heights = inline_low model shapes (λ s below. c.in_ok-refuse_large.ensures.ok cause.TooLarge s (omega arith) below) c.refuse_cycle.new.heights.items c.in_ok-refuse_cycle.ensures.heights;
      heights_len = c.in_ok-refuse_large.ensures.heights_len;
      heights = before_low model shapes (λ s below. c.in_ok-refuse_large.ensures.ok cause.TooLarge s (omega arith) below) c.refuse_large.new.heights.items c.in_ok-refuse_large.ensures.heights;
      part_counts_len = c.in_ok-refuse_large.ensures.part_counts_len;
      part_counts = c.in_ok-refuse_large.ensures.part_counts;
      name_lengths_len = c.in_ok-refuse_large.ensures.name_lengths_len;
      name_lengths = c.in_ok-refuse_large.ensures.name_lengths;
      ordered_len = c.in_ok-refuse_key.ensures.len;
      ordered = c.in_ok-refuse_key.ensures.clean;
    }
