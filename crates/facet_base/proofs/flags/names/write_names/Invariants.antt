use Rattle.std.proofs.Common.{◌≡◌, take}
use Rattle.std.specs.Fmt.{HasWritten, IsPlainFormatter}
use Rattle.facet_base.specs.Flags.{contained_names}
use Rattle.facet_base.proofs.FlagNames.{begun, is_nil}
use Rattle.facet_base.proofs.flags.names.write_names.Given as goal

-- the names of the flags so far are written
abbrev pub invariant-loop-flag : goal.invariant-loop-flag
invariant-loop-flag g l =
    let names = contained_names (take l.flag-index g.F.Flags.table) (g.F.Flags.set_of l.set) in
    (l.is_empty ≡ is_nil names) × (IsPlainFormatter l.initial.f → HasWritten g.W.Write.write_str_gives l.initial.f (begun names) l.f)
