use Rattle.std.proofs.Common.{◌<◌, List, subst, ◌∙◌, sym, ap, refl, length, take, Some, arith, length-take}
use Rattle.std.proofs.Math.Seq.{take-set-lt}
use Rattle.std.proofs.lemmas.List.{drop-set-lt, get_or-take}
use Rattle.std.proofs.lemmas.Option.{slice_get-get_or}
use Rattle.facet_block.proofs.split.Split.front_mut.Goals as goal

pub returns : goal.returns
returns g c =
    let xs = c.self.inside.items.items in
    let n = c.self.inside.front in
    let i = c.args.i in
    let lent = c.index_mut.result.now in
    let P : List g.row.T.Denot × List g.row.T.Denot → Type 0 = λ parts. i < length parts.0 in
    let in_front : i < length (take n xs) = subst P (sym c.self.view_is) c.requires in
    let below : i < n = omega (arith, length-take n xs) in (
      (refl, λ w. rw (← c.self.view_is) (λ k. (take-set-lt n xs i w below k, drop-set-lt n xs i w below k))),
      record {
        lends = tt;
        value = rw (← c.self.view_is) (slice_get-get_or (take n xs) i lent in_front ∙ ap (λ x. Some x) (get_or-take n xs i lent below ∙ sym c.index_mut.ensures.value));
      },
    )
