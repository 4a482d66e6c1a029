-- A source and a sink in memory, as contracts see them, and what a call makes of them.
use Rattle.std.specs.Prelude.{ℕ, ◌-◌, ◌<◌, ◌≤◌, min, List, ◌++◌, length, drop, Contains}
use Rattle.facet_stream.specs.Causes.{raised}

-- a source: the bytes left, the numbers of the calls that fail, the most that a call takes, and how many
-- calls, faults and bytes taken there were
pub record Supply : Type 0 where
  pub left : List ℕ
  pub fail : List ℕ
  pub most : ℕ
  pub calls : ℕ
  pub faults : ℕ
  pub taken : ℕ

-- a sink: the bytes held, how many it has room for in all, the numbers of the calls that fail, the most
-- that a call takes, and how many calls and faults there were
pub record Store : Type 0 where
  pub bytes : List ℕ
  pub room : ℕ
  pub fail : List ℕ
  pub most : ℕ
  pub calls : ℕ
  pub faults : ℕ

-- the call after so many is one of those that fail
abbrev pub IsListed : List ℕ → ℕ → Type 0
IsListed fail calls = Contains fail (raised calls 1)

-- the sink holds all that it has room for, and the piece isn't empty
abbrev pub IsPastRoom : Store → List ℕ → Type 0
IsPastRoom sink piece = (sink.room ≤ length sink.bytes) × (0 < length piece)

-- how many bytes a read of up to n takes: the least of the three
abbrev pub read_count : Supply → ℕ → ℕ
read_count source n = min (min source.most n) (length source.left)

-- how many bytes a write of n takes: the least of the three
abbrev pub write_count : Store → ℕ → ℕ
write_count sink n = min (min sink.most n) (sink.room - length sink.bytes)

-- the source after a read that took n bytes
abbrev pub after_read : Supply → ℕ → Supply
after_read source n = record source {
  left = drop n source.left;
  calls = raised source.calls 1;
  taken = raised source.taken n;
}

-- the source after a read that failed
abbrev pub after_failed_read : Supply → Supply
after_failed_read source = record source {
  calls = raised source.calls 1;
  faults = raised source.faults 1;
}

-- the sink after a write that took these bytes
abbrev pub after_write : Store → List ℕ → Store
after_write sink taken = record sink { bytes = sink.bytes ++ taken; calls = raised sink.calls 1 }

-- the sink after a write that failed
abbrev pub after_failed_write : Store → Store
after_failed_write sink = record sink {
  calls = raised sink.calls 1;
  faults = raised sink.faults 1;
}
