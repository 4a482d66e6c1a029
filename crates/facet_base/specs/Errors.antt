-- What errors print.
use Rattle.std.specs.Prelude.{ℕ, List, ◌++◌, codes}
use Rattle.facet_base.specs.ScalarType.{identifier_of}
use Rattle.facet_base.specs.declared.errors.ParseError.{ParseError}
use Rattle.facet_base.specs.declared.errors.TryIntoInnerError.{TryIntoInnerError}
use Rattle.facet_base.specs.declared.errors.TryIntoInnerError.TheVariants as into_inner
use Rattle.facet_base.specs.declared.errors.TryBorrowInnerError.{TryBorrowInnerError}
use Rattle.facet_base.specs.declared.errors.TryBorrowInnerError.TheVariants as borrow_inner

-- what a refused parse prints
abbrev pub parse_error_text : ParseError → List ℕ
parse_error_text error = codes "failed to parse " ++ identifier_of error.kind

-- that the type has no such conversion, or the text that the error holds
abbrev pub into_inner_text : TryIntoInnerError → List ℕ
into_inner_text into_inner.NotSupported = codes "try_into_inner not supported"
into_inner_text (into_inner.Generic text) = text

-- that the type has no such borrow, or the text that the error holds
abbrev pub borrow_inner_text : TryBorrowInnerError → List ℕ
borrow_inner_text borrow_inner.NotSupported = codes "try_borrow_inner not supported"
borrow_inner_text (borrow_inner.Generic text) = text
