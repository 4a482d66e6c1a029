use Rattle.std.proofs.Common.{◌<◌, refl, sym, ◌∙◌, inl, inr, arith}
use Rattle.facet_causes.proofs.LargeShapes.{bytes_alone, long_name, many_parts}
use Rattle.facet_causes.proofs.large.is_large.Goals as goal

pub returns-then-entries-gt-MAX_COST : goal.returns-then-entries-gt-MAX_COST
returns-then-entries-gt-MAX_COST c =
    let e = c.args.entries in
    let some : 0 < e.inline_height = omega (arith, c.if-entries-eq0.false) in
    let many = (many_parts c.args.shapes.now c.args.s e.inline_height e.height c.requires.inline_height some e.part_count c.requires.part_count).0 c.if-entries-gt-MAX_COST.true in
    ((λ _. inr (inl many)), (λ _. refl))

pub returns-then-entries-gt-MAX_COST-2 : goal.returns-then-entries-gt-MAX_COST-2
returns-then-entries-gt-MAX_COST-2 c =
    let e = c.args.entries in
    let inline_some : 0 < e.inline_height = omega (arith, c.if-entries-eq0.false) in
    let some : 0 < e.height = omega (arith, c.if-entries-eq0-2.false) in
    let long = (long_name c.args.shapes.now c.args.s c.requires.lower e.inline_height e.height e.part_count e.name_length c.requires.inline_height c.requires.height c.requires.part_count c.requires.name_length inline_some some).0 c.if-entries-gt-MAX_COST-2.true in
    ((λ _. inr (inr (inl long))), (λ _. refl))

pub returns : goal.returns
returns c =
    let e = c.args.entries in
    let inline_some : 0 < e.inline_height = omega (arith, c.if-entries-eq0.false) in
    let some : 0 < e.height = omega (arith, c.if-entries-eq0-2.false) in
    let bytes = bytes_alone c.args.shapes.now c.args.s c.requires.lower e.inline_height e.height e.part_count e.name_length c.requires.inline_height c.requires.height c.requires.part_count c.requires.name_length inline_some some c.if-entries-gt-MAX_COST.false c.if-entries-gt-MAX_COST-2.false c.args.shape.now in
    ((λ is. inl (sym c.is_too_large.ensures ∙ is)), (λ large. c.is_too_large.ensures ∙ bytes large))
