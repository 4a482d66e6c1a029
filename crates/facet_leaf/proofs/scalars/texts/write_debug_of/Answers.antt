use Rattle.std.proofs.Common.{arith}
use Rattle.facet_leaf.proofs.Utf8Texts.{quoted_is_utf8}
use Rattle.facet_leaf.proofs.scalars.texts.write_debug_of.Goals as goal

pub returns-in-Char-clause-utf8 : goal.returns-in-Char-clause-utf8
returns-in-Char-clause-utf8 g c = rw c.in-Char.is (rw (← c.encode_utf8-text.ensures.value) (quoted_is_utf8 39 c.encode_utf8-text.result.now (omega arith) c.encode_utf8-text.utf8))

pub returns-in-String-clause-utf8 : goal.returns-in-String-clause-utf8
returns-in-String-clause-utf8 g c = rw c.in-String.is (rw (← c.as_str.ensures) (quoted_is_utf8 34 c.as_str.result.now (omega arith) c.as_str.utf8))
