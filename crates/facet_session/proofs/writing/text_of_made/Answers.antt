use Rattle.std.proofs.Common.{subst, sym}
use Rattle.std.specs.Str.{IsUtf8}
use Rattle.std.proofs.lemmas.Str.{IsUtf8-append, IsUtf8-nil}
use Rattle.facet_session.proofs.AnswerTexts.{bracket_utf8}
use Rattle.facet_session.proofs.writing.text_of_made.Goals as goal

pub from_utf8-requires : goal.from_utf8-requires
from_utf8-requires g c =
    let front = c.in_ok-push_leaf.ensures.utf8 (subst IsUtf8 (sym c.new-bytes.ensures.items) IsUtf8-nil) in
    subst IsUtf8 (sym c.in_ok-push.ensures.items) (IsUtf8-append _ _ front bracket_utf8)
