use Rattle.std.proofs.Common.{◌≡◌, ◌<◌, ◌≤◌, List, subst, sym, length, take, swap, arith, length-take}
use Rattle.facet_block.proofs.SplitEdits.{take_swap, drop_swap}
use Rattle.facet_block.proofs.split.Split.swap_front.Goals as goal

pub returns : goal.returns
returns g c =
    let xs = c.self.inside.items.items in
    let n = c.self.inside.front in
    let i = c.args.i in
    let j = c.args.j in
    let P : List g.row.T.Denot × List g.row.T.Denot → Type 0 = λ parts. (i < length parts.0) × (j < length parts.0) in
    let in_front : (i < length (take n xs)) × (j < length (take n xs)) = subst P (sym c.self.view_is) (c.requires.first, c.requires.second) in
    let inside : n ≤ length xs = c.self.invariant in
    let first : i < n = omega (arith, in_front.0, length-take n xs) in
    let second : j < n = omega (arith, in_front.1, length-take n xs) in
    let same : c.swap.new.self.items ≡ swap xs i j = c.swap.ensures.items in
    rw (← c.self.view_is, same) (λ k. (take_swap n xs i j inside first second k, drop_swap n xs i j inside first second k))
