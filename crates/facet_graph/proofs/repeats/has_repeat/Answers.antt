use Rattle.std.proofs.Common.{◌≤◌, ◌+◌, ◌||◌, get_or, take, refl, sym, ◌∙◌, ap, subst, inl, inr, arith}
use Rattle.std.specs.List.{count_by}
use Rattle.std.specs.Ordering.{int_eq}
use Rattle.std.specs.Prelude.{pos}
use Rattle.std.proofs.lemmas.Bool.{cases_Bool}
use Rattle.std.proofs.lemmas.Bool.Decides.{Decides-int_eq}
use Rattle.std.proofs.lemmas.List.{take_all}
use Rattle.std.proofs.lemmas.List.Folds.{list_any_more}
use Rattle.std.proofs.lemmas.List.Sums.{count_by_more_no, count_by_more_yes}
use Rattle.facet_graph.proofs.Tallies.{any_counts, cond_or, count_take, from_not, none_counts, to_not}
use Rattle.facet_graph.proofs.repeats.has_repeat.Goals as goal

pub returns-then-not-branch : goal.returns-then-not-branch
returns-then-not-branch c =
    let xs = c.args.values.now in
    let i = c.loop-value.value-index in
    let y = get_or xs i (pos 0) in
    let had = from_not _ (sym c.if-not-branch.true ∙ c.in_ok-add.ensures.added) in
    let some = any_counts (λ v. int_eq v y) (take i xs) (sym (c.loop-value.invariant.seen y) ∙ had) in
    let more = count_by_more_yes (λ v. int_eq v y) xs i (pos 0) c.loop-value-test.true ((Decides-int_eq y y).1 refl) in
    let upto = count_take (λ v. int_eq v y) xs (i + 1) in
    (λ _. record { value = y; twice = omega (arith, some, more, upto) }, λ _. refl)

pub loop-value-preserved : goal.loop-value-preserved
loop-value-preserved c =
    let xs = c.args.values.now in
    let i = c.loop-value.value-index in
    let y = get_or xs i (pos 0) in
    let had = to_not _ (sym c.if-not-branch.false ∙ c.in_ok-add.ensures.added) in
    record {
      seen = λ q. c.in_ok-add.ensures.seen q ∙ cond_or (int_eq y q) _ ∙ ap (λ b. b || int_eq y q) (c.loop-value.invariant.seen q) ∙ sym (list_any_more (λ x. int_eq x q) xs i (pos 0) c.loop-value-test.true);
      once = λ q. elim (cases_Bool (int_eq y q)) [
        | inl same ↦
            let was = ap (λ z. count_by (λ v. int_eq v z) (take i xs)) (sym ((Decides-int_eq y q).0 same)) in
            let none = none_counts (λ v. int_eq v y) (take i xs) (sym (c.loop-value.invariant.seen y) ∙ had) in
            let more = count_by_more_yes (λ v. int_eq v q) xs i (pos 0) c.loop-value-test.true same in
            omega (arith, was, none, more)
        | inr other ↦
            let more = count_by_more_no (λ v. int_eq v q) xs i (pos 0) c.loop-value-test.true other in
            let upto = c.loop-value.invariant.once q in
            omega (arith, more, upto)
      ];
    }

pub returns : goal.returns
returns c = (
  λ never. cc,
  λ repeat. absurd (
      let all = take_all c.loop-value.value-index c.args.values.now (omega arith) in
      let upto = subst (λ ys. count_by (λ v. int_eq v repeat.value) ys ≤ 1) all (c.loop-value.invariant.once repeat.value) in
      omega (arith, upto, repeat.twice)
      ),
)
