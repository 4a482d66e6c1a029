-- The 128-bit FNV-1a hash.
use Rattle.std.specs.Prelude.{ℕ, ◌*◌, ◌%◌, ◌^◌, List, fold, bit_xor}

-- the hash of no bytes
abbrev pub fnv_start : ℕ
fnv_start = 144066263297769815596495629667062367629

-- one byte more: it is xored into the lowest byte, and the whole is multiplied by the prime, modulo 2^128
abbrev pub fnv_byte : ℕ → ℕ → ℕ
fnv_byte hash byte = (bit_xor hash byte * 309485009821345068724781371) % 2 ^ 128

-- some bytes more, in order
unfoldable pub fnv : ℕ → List ℕ → ℕ
fnv hash bytes = fold fnv_byte hash bytes
