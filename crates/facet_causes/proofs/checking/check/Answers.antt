use Rattle.std.proofs.Common.{◌≡◌, ℕ, ◌<◌, ◌≤◌, List, length, take, slice_get, sym, ap, ◌∙◌, subst, arith, length-take}
use Rattle.facet_causes.specs.First.{NoneOfFirst}
use Rattle.facet_causes.specs.Tables.{AreTablesOfFirst}
use Rattle.facet_causes.specs.declared.cause.SealCause.TheVariants as cause
use Rattle.facet_causes.proofs.FrontTables.{tables_back, tables_front}
use Rattle.facet_causes.proofs.Fronts.{slice_get_take}
use Rattle.facet_causes.proofs.Ranks.{none_at_all}
use Rattle.facet_causes.proofs.Sealed.{front_meets_none, known_by}
use Rattle.facet_shape.specs.declared.shape.Shape.{Shape}
use Rattle.facet_causes.proofs.checking.check.Goals as goal

-- the sealed shapes are the front of all
front_length : (n : ℕ) (ys : List Shape) → n ≤ length ys → length (take n ys) ≡ n
front_length n ys within = omega (arith, length-take n ys, within)

front_shorter : (n : ℕ) (ys : List Shape) → n ≤ length ys → length (take n ys) ≤ length ys
front_shorter n ys within = omega (arith, front_length n ys within, within)

front_same : (n : ℕ) (ys : List Shape) → n ≤ length ys → (s : ℕ) → s < length (take n ys) → slice_get ys s ≡ slice_get (take n ys) s
front_same n ys within s below = sym (slice_get_take n ys s (omega (arith, below, front_length n ys within)))

pub examine-requires-clause-sealed : goal.examine-requires-clause-sealed
examine-requires-clause-sealed g c =
    let n = c.args.sealed in
    let ys = c.args.shapes.now in
    let within = c.requires.within in
    subst (NoneOfFirst g.L.Leaf.model ys) (front_length n ys within) (front_meets_none g.L.Leaf.model (take n ys) ys (front_shorter n ys within) (front_same n ys within) c.requires.well_formed)

pub examine-requires-clause-tables : goal.examine-requires-clause-tables
examine-requires-clause-tables g c =
    let n = c.args.sealed in
    let ys = c.args.shapes.now in
    let within = c.requires.within in
    subst (λ k. AreTablesOfFirst ys k c.args.tables.now) (front_length n ys within)
    (tables_front (take n ys) ys (front_shorter n ys within) (front_same n ys within) (known_by g.L.Leaf.model (take n ys) (c.requires.well_formed cause.UnknownShape)) c.args.tables.now c.requires.tables)

pub returns-in-Ok-clause-ok : goal.returns-in-Ok-clause-ok
returns-in-Ok-clause-ok g c = none_at_all g.L.Leaf.model c.args.shapes.now c.in-Ok.ensures.ok

pub returns-in-Err-clause-err : goal.returns-in-Err-clause-err
returns-in-Err-clause-err g c =
    let n = c.args.sealed in
    let ys = c.args.shapes.now in
    let within = c.requires.within in
    let new = c.examine.new.tables in
    let len = sym (front_length n ys within) in
    tables_back (take n ys) ys (front_shorter n ys within) (front_same n ys within) (known_by g.L.Leaf.model (take n ys) (c.requires.well_formed cause.UnknownShape)) c.args.tables.now new c.cut.new.self c.requires.tables c.in-Err.ensures.begins
    (c.cut.ensures.inline_heights ∙ ap (λ k. take k new.inline_heights.items) len)
    (c.cut.ensures.heights ∙ ap (λ k. take k new.heights.items) len)
    (c.cut.ensures.part_counts ∙ ap (λ k. take k new.part_counts.items) len)
    (c.cut.ensures.name_lengths ∙ ap (λ k. take k new.name_lengths.items) len)
    (c.cut.ensures.ordered ∙ ap (λ k. take k new.ordered.items) len)
