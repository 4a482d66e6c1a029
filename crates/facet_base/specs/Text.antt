-- A number by which most unequal texts differ.
use Rattle.std.specs.Prelude.{ℕ, ◌+◌, ◌-◌, ◌*◌, ◌%◌, ◌^◌, List, drop, fold, length}

-- the last eight bytes as one number, all of them where there are fewer
abbrev pub tail_of : List ℕ → ℕ
tail_of bytes = fold (λ n b. (n * 256 % 2 ^ 64 + b) % 2 ^ 64) 0 (drop (length bytes - 8) bytes)
