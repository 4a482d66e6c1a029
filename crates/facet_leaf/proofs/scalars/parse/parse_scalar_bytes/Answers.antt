use Rattle.std.proofs.Common.{refl}
use Rattle.std.specs.Str.{is_utf8}
use Rattle.std.proofs.lemmas.Bool.{false_from_ne_true}
use Rattle.std.proofs.lemmas.Str.{is_utf8-from_IsUtf8, IsUtf8-from_is_utf8}
use Rattle.facet_leaf.proofs.scalars.parse.parse_scalar_bytes.Goals as goal

pub returns-in_ok-new-in-Ok-clause-parsed : goal.returns-in_ok-new-in-Ok-clause-parsed
returns-in_ok-new-in-Ok-clause-parsed c =
    rw (c.in-String.is, is_utf8-from_IsUtf8 c.args.bytes.now c.in-Ok.ensures.cases.1, c.in_ok-new-in-Ok.ensures, c.in-Ok.ensures.cases.0) refl

pub returns-in-Err-clause-parsed : goal.returns-in-Err-clause-parsed
returns-in-Err-clause-parsed c =
    rw (c.in-String.is, false_from_ne_true (is_utf8 c.args.bytes.now) (λ e. c.in-Err.ensures.cases.0 (IsUtf8-from_is_utf8 c.args.bytes.now e))) refl
