-- Numbers that are listed twice, and bytes that lie in two spans.
use Rattle.std.specs.Prelude.{ℕ, ℤ, ◌+◌, ◌<◌, Bool, ◌&&◌, List, nat_le, nat_lt}
use Rattle.std.specs.List.{count_by}
use Rattle.std.specs.Ordering.{int_eq}
use Rattle.facet_graph.specs.declared.overlap.Span.{Span}

-- some number is listed more than once
pub record HasRepeat (values : List ℤ) : Type 0 where
  pub value : ℤ
  pub twice : 1 < count_by (λ v. int_eq v value) values

-- the byte lies in the span
abbrev pub has_byte : ℕ → Span → Bool
has_byte byte span = nat_le span.offset byte && nat_lt byte (span.offset + span.size)

-- some byte lies in more than one of the spans
pub record HaveOverlap (spans : List Span) : Type 0 where
  pub byte : ℕ
  pub twice : 1 < count_by (has_byte byte) spans
