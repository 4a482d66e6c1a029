use Rattle.std.proofs.Common.{arith, rules, w64, ◌^◌, ◌≡◌, ℕ, ◌+◌, ◌<◌, List, [], ◌∷◌, ◌++◌, length, get_or, drop, sym, ap, ◌∙◌, ℤ, pos, unwrap_or}
use Rattle.std.proofs.lemmas.Int.{to_z_pos}
use Rattle.std.proofs.lemmas.List.{append-nil, append_assoc, drop_all, drop_more}
use Rattle.facet_desc.specs.declared.variant.Variant.{Variant}
use Rattle.facet_outline.specs.Discriminant.{discriminants_from}
use Rattle.facet_outline.proofs.discriminants.push_discriminants.Goals as goal

-- with one discriminant more, those of the other variants are left
one_more : (before now all : List ℤ) (variants : List Variant) (i : ℕ) (v : Variant) (z : ℤ) → i < length variants
    → before ++ discriminants_from i (drop i variants) ≡ all → v ≡ get_or variants i v → z ≡ unwrap_or v.discriminant (pos i) → now ≡ before ++ z ∷ []
    → now ++ discriminants_from (i + 1) (drop (i + 1) variants) ≡ all
unfolding discriminants_from
one_more before now all variants i v z below rest here is pushed =
    let left = discriminants_from (i + 1) (drop (i + 1) variants) in
    let value : z ≡ unwrap_or (get_or variants i v).discriminant (pos i) = is ∙ ap (λ w. unwrap_or w.discriminant (pos i)) here in
    ap (λ xs. xs ++ left) pushed
    ∙ append_assoc before (z ∷ []) left
    ∙ ap (λ y. before ++ y ∷ left) value
    ∙ sym (ap (λ vs. before ++ discriminants_from i vs) (drop_more variants i v below))
    ∙ rest

pub loop-i-preserved : goal.loop-i-preserved
loop-i-preserved c =
    let l = c.loop-i in
    let v = c.index-variants-i in
    let small : l.i < 2 ^ 63 = omega (arith, c.loop-i-test.true) in
    let value : c.unwrap_or.result ≡ unwrap_or v.result.discriminant (pos l.i) = c.unwrap_or.ensures ∙ ap (unwrap_or v.result.discriminant) (to_z_pos w64 l.i small) in
    let pushed : c.push.new.self.items ≡ l.to.items ++ c.unwrap_or.result ∷ [] = search rules in
    one_more l.to.items c.push.new.self.items _ c.args.variants.now l.i v.result c.unwrap_or.result c.loop-i-test.true l.invariant v.is value pushed

pub returns : goal.returns
unfolding discriminants_from
returns c =
    let l = c.loop-i in
    sym (append-nil l.to.items) ∙ sym (ap (λ vs. l.to.items ++ discriminants_from l.i vs) (drop_all l.i c.args.variants.now c.loop-i-test.false)) ∙ l.invariant
