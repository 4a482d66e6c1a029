use Rattle.std.proofs.Common.{◌≡◌, ℕ, ◌∙◌, ◌+◌, ◌<◌, sym, arith, length}
use Rattle.facet_block.specs.declared.block.Seq.{roll-Seq, roll-out-Seq}
use Rattle.facet_block.specs.Seq.{spare_of, element_size_of, with_new_spare}
use Rattle.facet_block.proofs.Sequences.{with_new_spare_0, on_err}
use Rattle.facet_block.proofs.block.Seq.reserve.Goals as goal

pub returns-in_err-reserve-clause-err : goal.returns-in_err-reserve-clause-err
returns-in_err-reserve-clause-err g c =
    let s = c.args.self.now in
    let asked : 0 < c.saturating_sub-missing.result = c.in_err-reserve.ensures.err in
    let fewer : 0 + length (spare_of s) < c.args.n = omega (arith, asked, c.saturating_sub-missing.ensures, c.spare.ensures) in
    let none : roll-Seq g.row.L.Denot (record { element_size = element_size_of s; blocks = c.reserve.new.self }) ≡ with_new_spare s 0 =
    rw (c.reserve.ensures.same) (roll-out-Seq g.row.L.Denot s ∙ sym (with_new_spare_0 s)) in
    let few : (made : ℕ)
    × (made + length (spare_of s) < c.args.n)
    × (roll-Seq g.row.L.Denot (record { element_size = element_size_of s; blocks = c.reserve.new.self }) ≡ with_new_spare s made) = (0, fewer, none) in
    on_err _ few
