-- The kinds of scalars in words.
use Rattle.std.specs.Prelude.{ℕ, List, codes}
use Rattle.facet_base.specs.declared.scalar_type.ScalarType.{ScalarType}
use Rattle.facet_base.specs.declared.scalar_type.ScalarType.TheVariants as scalar

-- the identifier of the type whose values are of the kind
abbrev pub identifier_of : ScalarType → List ℕ
identifier_of scalar.Unit = codes "()"
identifier_of scalar.Bool = codes "bool"
identifier_of scalar.Char = codes "char"
identifier_of scalar.Str = codes "str"
identifier_of scalar.String = codes "String"
identifier_of scalar.U8 = codes "u8"
identifier_of scalar.U16 = codes "u16"
identifier_of scalar.U32 = codes "u32"
identifier_of scalar.U64 = codes "u64"
identifier_of scalar.U128 = codes "u128"
identifier_of scalar.USize = codes "usize"
identifier_of scalar.I8 = codes "i8"
identifier_of scalar.I16 = codes "i16"
identifier_of scalar.I32 = codes "i32"
identifier_of scalar.I64 = codes "i64"
identifier_of scalar.I128 = codes "i128"
identifier_of scalar.ISize = codes "isize"

-- how many kinds are declared before this one
abbrev pub rank_of : ScalarType → ℕ
rank_of scalar.Unit = 0
rank_of scalar.Bool = 1
rank_of scalar.Char = 2
rank_of scalar.Str = 3
rank_of scalar.String = 4
rank_of scalar.U8 = 5
rank_of scalar.U16 = 6
rank_of scalar.U32 = 7
rank_of scalar.U64 = 8
rank_of scalar.U128 = 9
rank_of scalar.USize = 10
rank_of scalar.I8 = 11
rank_of scalar.I16 = 12
rank_of scalar.I32 = 13
rank_of scalar.I64 = 14
rank_of scalar.I128 = 15
rank_of scalar.ISize = 16
