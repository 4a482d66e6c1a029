-- What contracts see of a `Recorder`.
use Rattle.std.specs.Prelude.{ℕ, ◌+◌, ◌-◌, ◌^◌, List, ◌++◌, length, take, min}

-- the bytes that it kept, how many it keeps at most, and how many were written
pub record Recording : Type 0 where
  pub kept : List ℕ
  pub room : ℕ
  pub count : ℕ

-- some bytes more: they are kept as far as there is room, and counted up to the maximum of a u64
unfoldable pub recorded : Recording → List ℕ → Recording
recorded r bytes = record { kept = r.kept ++ take (r.room - length r.kept) bytes; room = r.room; count = min (r.count + length bytes) (2 ^ 64 - 1) }
