-- The typed writes that a hash sink is fed with, and their bytes.
use Rattle.std.specs.Prelude.{ℕ, ℤ, List, [], ◌∷◌}
use mir.Syntax.{Width}
use Rattle.std.specs.Int.{w8, w16, w32, w64, w128, to_le_bytes, cast_unsigned}
use Rattle.facet_base.specs.declared.scalar_type.ScalarType.{ScalarType}
use Rattle.facet_base.specs.declared.scalar_type.ScalarType.TheVariants as kind

-- some bytes, or a whole number as one of the type of a kind
pub data HashWrite : Type 0 where
  bytes : List ℕ → HashWrite
  number : ScalarType → ℤ → HashWrite

-- the state after some writes, in order
abbrev pub fed_all : {S : Type 0} → (S → HashWrite → S) → S → List HashWrite → S
fed_all fed state [] = state
fed_all fed state (w ∷ ws) = fed_all fed (fed state w) ws

-- how many bits the whole numbers of a kind have, and 8 where it has none
abbrev pub width_of : ScalarType → Width
width_of kind.U8 = w8
width_of kind.U16 = w16
width_of kind.U32 = w32
width_of kind.U64 = w64
width_of kind.U128 = w128
width_of kind.USize = w64
width_of kind.I8 = w8
width_of kind.I16 = w16
width_of kind.I32 = w32
width_of kind.I64 = w64
width_of kind.I128 = w128
width_of kind.ISize = w64
width_of k = w8

-- the bytes of a write: a whole number's are as many as its type has, the lowest first, a negative number's in two's complement
abbrev pub bytes_written : HashWrite → List ℕ
bytes_written (bytes b) = b
bytes_written (number k z) = to_le_bytes (width_of k) (cast_unsigned (width_of k) z)
