use Rattle.std.proofs.Common.{◌+◌, ◌<◌, ◌≤◌, List, subst, ◌∙◌, sym, ap, refl, length, drop, Some, arith}
use Rattle.std.proofs.lemmas.List.{take-set-le, drop-set-add, get_or-drop}
use Rattle.std.proofs.lemmas.Option.{slice_get-get_or}
use Rattle.facet_block.proofs.split.Split.back_mut.Goals as goal

pub returns : goal.returns
returns g c =
    let xs = c.self.inside.items.items in
    let n = c.self.inside.front in
    let j = c.args.j in
    let lent = c.index_mut.result.now in
    let P : List g.row.T.Denot × List g.row.T.Denot → Type 0 = λ parts. j < length parts.1 in
    let in_back : j < length (drop n xs) = subst P (sym c.self.view_is) c.requires in
    let past : n ≤ n + j = omega arith in (
      (refl, λ w. rw (← c.self.view_is) (λ k. (take-set-le n xs (n + j) w past k, drop-set-add n xs j w k))),
      record {
        lends = tt;
        value = rw (← c.self.view_is) (slice_get-get_or (drop n xs) j lent in_back ∙ ap (λ x. Some x) (get_or-drop n xs j lent ∙ sym c.index_mut.ensures.value));
      },
    )
