use Rattle.std.proofs.Common.{sym, subst}
use Rattle.std.specs.Str.{IsUtf8}
use Rattle.std.proofs.lemmas.Str.{IsUtf8-append}
use Rattle.facet_session.proofs.writing.push_leaf.Goals as goal

pub returns-clause-utf8 : goal.returns-clause-utf8
returns-clause-utf8 g c old =
    let label = subst IsUtf8 (sym c.in_ok-extend_from_slice.ensures.items) (IsUtf8-append _ _ old c.as_bytes.ensures.utf8) in
    subst IsUtf8 (sym c.in_ok-write_debug.ensures.written) (IsUtf8-append _ _ label c.write_debug.ensures.utf8)
