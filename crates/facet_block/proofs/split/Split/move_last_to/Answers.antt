use Rattle.std.proofs.Common.{◌≡◌, ◌<◌, ◌≤◌, ◌-◌, List, subst, ◌∙◌, sym, ap, length, take, drop, arith, length-take}
use Rattle.std.specs.List.{slice_rotate_right}
use Rattle.std.proofs.lemmas.List.{with_items_is}
use borrow.Rule.Slice.PartMut.{put_mid, mid_of, same_len_mid}
use Rattle.facet_block.specs.Seq.{last_moved_to}
use Rattle.facet_block.proofs.SplitEdits.{take_moved, drop_moved}
use Rattle.facet_block.proofs.split.Split.move_last_to.Goals as goal

pub returns : goal.returns
returns g c =
    let xs = c.self.inside.items.items in
    let n = c.self.inside.front in
    let i = c.args.i in
    let ys = c.rotate_right.new.self in
    let same : c.deref_mut.result.now ≡ xs = c.deref_mut.ensures.value in
    let P : List g.row.T.Denot × List g.row.T.Denot → Type 0 = λ parts. i < length parts.0 in
    let in_front : i < length (take n xs) = subst P (sym c.self.view_is) c.requires in
    let below : i < n = omega (arith, length-take n xs) in
    let inside : n ≤ length xs = c.self.invariant in
    let is : ys ≡ slice_rotate_right (mid_of i (n - i) xs) 1 = c.rotate_right.ensures.after ∙ ap (λ zs. slice_rotate_right (mid_of i (n - i) zs) 1) same in
    let len : length ys ≡ n - i = omega (arith, c.rotate_right.ensures.len) in
    let parts : List g.row.T.Denot → List g.row.T.Denot × List g.row.T.Denot = λ zs. (take n (put_mid i (n - i) zs ys), drop n (put_mid i (n - i) zs ys)) in
    let turned : parts xs ≡ (last_moved_to i (take n xs), drop n xs) = λ k. (take_moved n i xs ys below inside len is k, drop_moved n i xs ys below inside len k) in
    let ws : List g.row.T.Denot = put_mid i (n - i) c.deref_mut.result.now ys in
    let full = same_len_mid i (n - i) c.deref_mut.result.now ys c.rotate_right.ensures.len ∙ c.deref_mut.ensures.len in
    let stored = with_items_is c.self.inside.items ws full in
    let cut : List g.row.T.Denot → List g.row.T.Denot × List g.row.T.Denot = λ zs. (take n zs, drop n zs) in
    rw (← c.self.view_is) (ap cut stored ∙ (ap parts same ∙ turned))
