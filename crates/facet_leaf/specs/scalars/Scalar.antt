-- What the methods of `Scalar` return, apart from its texts.
use Rattle.std.specs.Prelude.{ℕ, ℤ, pos, negsuc, ◌^◌, ◌&&◌, Bool, true, false, not, cond, List, [], ◌∷◌, Option, None, Some, is_some, option_map, bytes_eq, if◌then◌else◌, ◌==◌, length, nat_lt}
use Rattle.std.specs.Cmp.Lexicographic.{slice_cmp}
use Rattle.std.specs.Ordering.{nat_cmp, int_cmp, int_eq, ordering_then}
use Rattle.std.specs.declared.cmp.Ordering.{Ordering}
use Rattle.facet_base.specs.ScalarType.{rank_of}
use Rattle.facet_base.specs.declared.characteristic.Characteristic.{Characteristic}
use Rattle.facet_base.specs.declared.characteristic.Characteristic.TheVariants as characteristic
use Rattle.facet_base.specs.declared.scalar_type.ScalarType.{ScalarType}
use Rattle.facet_base.specs.declared.scalar_type.ScalarType.TheVariants as kind
use Rattle.facet_leaf.specs.declared.conversion.Conversion.{Conversion}
use Rattle.facet_leaf.specs.declared.conversion.Conversion.TheVariants.{Converted, Unsupported, Failed}
use Rattle.facet_leaf.specs.declared.hook.LeafHook.{LeafHook}
use Rattle.facet_leaf.specs.declared.hook.LeafHook.TheVariants as hook
use Rattle.facet_leaf.specs.declared.scalars.scalar.Scalar.{Scalar}
use Rattle.facet_leaf.specs.declared.scalars.scalar.Scalar.TheVariants as scalar
use Rattle.facet_leaf.specs.hashing.HashWrite.{HashWrite, bytes, number}

-- every kind can Debug, and a kind that is stored has all capabilities
abbrev pub scalar_can : ScalarType → Characteristic → Bool
scalar_can k characteristic.Debug = true
scalar_can kind.Unit c = false
scalar_can kind.Str c = false
scalar_can k c = true

-- the kinds of whole numbers
abbrev pub is_whole : ScalarType → Bool
is_whole kind.Unit = false
is_whole kind.Bool = false
is_whole kind.Char = false
is_whole kind.Str = false
is_whole kind.String = false
is_whole k = true

-- bytes are parsed as a String alone, whole numbers are converted into, and every stored kind has a truth value
abbrev pub scalar_hook : ScalarType → LeafHook → Bool
scalar_hook kind.String hook.ParseBytes = true
scalar_hook k hook.ParseBytes = false
scalar_hook k hook.TryFrom = is_whole k
scalar_hook k hook.Invariants = false
scalar_hook kind.Unit hook.Truthy = false
scalar_hook kind.Str hook.Truthy = false
scalar_hook k hook.Truthy = true

-- the kind of each variant
abbrev pub scalar_kind : Scalar → ScalarType
scalar_kind (scalar.Bool _) = kind.Bool
scalar_kind (scalar.Char _) = kind.Char
scalar_kind (scalar.String _) = kind.String
scalar_kind (scalar.U8 _) = kind.U8
scalar_kind (scalar.U16 _) = kind.U16
scalar_kind (scalar.U32 _) = kind.U32
scalar_kind (scalar.U64 _) = kind.U64
scalar_kind (scalar.U128 _) = kind.U128
scalar_kind (scalar.USize _) = kind.USize
scalar_kind (scalar.I8 _) = kind.I8
scalar_kind (scalar.I16 _) = kind.I16
scalar_kind (scalar.I32 _) = kind.I32
scalar_kind (scalar.I64 _) = kind.I64
scalar_kind (scalar.I128 _) = kind.I128
scalar_kind (scalar.ISize _) = kind.ISize

-- the number that a scalar is: of a truth value 0 or 1, of a character its code point, of a String 0
abbrev pub number_of : Scalar → ℤ
number_of (scalar.Bool b) = pos (cond b 1 0)
number_of (scalar.Char c) = pos c
number_of (scalar.String text) = pos 0
number_of (scalar.U8 n) = pos n
number_of (scalar.U16 n) = pos n
number_of (scalar.U32 n) = pos n
number_of (scalar.U64 n) = pos n
number_of (scalar.U128 n) = pos n
number_of (scalar.USize n) = pos n
number_of (scalar.I8 z) = z
number_of (scalar.I16 z) = z
number_of (scalar.I32 z) = z
number_of (scalar.I64 z) = z
number_of (scalar.I128 z) = z
number_of (scalar.ISize z) = z

-- the bytes that a scalar is, of all but a String none
abbrev pub bytes_of : Scalar → List ℕ
bytes_of (scalar.String text) = text
bytes_of x = []

-- of two scalars of one kind: numbers are compared by value, truth values with false first, characters by code point, and Strings by bytes
abbrev pub scalar_order : Scalar → Scalar → Ordering
scalar_order x y = ordering_then (int_cmp (number_of x) (number_of y)) (slice_cmp nat_cmp (bytes_of x) (bytes_of y))

-- of two scalars of one kind: the same value
abbrev pub same_value : Scalar → Scalar → Bool
same_value x y = int_eq (number_of x) (number_of y) && bytes_eq (bytes_of x) (bytes_of y)

-- the same kind, by its rank, and the same value
abbrev pub scalar_same : Scalar → Scalar → Bool
scalar_same x y = rank_of (scalar_kind x) == rank_of (scalar_kind y) && same_value x y

-- the writes of the scalar of a kind with a number and bytes: a truth value is written as a byte, a character as four bytes, a String as its bytes and the byte 255, and a whole number as one of its type
abbrev pub writes_of : ScalarType → ℤ → List ℕ → List HashWrite
writes_of kind.Bool z text = number kind.U8 z ∷ []
writes_of kind.Char z text = number kind.U32 z ∷ []
writes_of kind.String z text = bytes text ∷ number kind.U8 (pos 255) ∷ []
writes_of k z text = number k z ∷ []

-- the writes of a scalar
abbrev pub scalar_writes : Scalar → List HashWrite
scalar_writes x = writes_of (scalar_kind x) (number_of x) (bytes_of x)

-- true, not 0, not the character 0, not empty
abbrev pub scalar_truthy : Scalar → Bool
scalar_truthy (scalar.String text) = nat_lt 0 (length text)
scalar_truthy x = not (int_eq (number_of x) (pos 0))

-- a number as one of an unsigned type of so many bits
abbrev pub unsigned_of : ℕ → ℤ → Option ℕ
unsigned_of bits (pos n) = if nat_lt n (2 ^ bits) then Some n else None
unsigned_of bits (negsuc n) = None

-- a number as one of a signed type with so many bits beside the sign
abbrev pub signed_of : ℕ → ℤ → Option ℤ
signed_of bits (pos n) = if nat_lt n (2 ^ bits) then Some (pos n) else None
signed_of bits (negsuc n) = if nat_lt n (2 ^ bits) then Some (negsuc n) else None

-- the whole number of a kind with this value, where there is one
abbrev pub whole_of : ScalarType → ℤ → Option Scalar
whole_of kind.U8 z = option_map scalar.U8 (unsigned_of 8 z)
whole_of kind.U16 z = option_map scalar.U16 (unsigned_of 16 z)
whole_of kind.U32 z = option_map scalar.U32 (unsigned_of 32 z)
whole_of kind.U64 z = option_map scalar.U64 (unsigned_of 64 z)
whole_of kind.U128 z = option_map scalar.U128 (unsigned_of 128 z)
whole_of kind.USize z = option_map scalar.USize (unsigned_of 64 z)
whole_of kind.I8 z = option_map scalar.I8 (signed_of 7 z)
whole_of kind.I16 z = option_map scalar.I16 (signed_of 15 z)
whole_of kind.I32 z = option_map scalar.I32 (signed_of 31 z)
whole_of kind.I64 z = option_map scalar.I64 (signed_of 63 z)
whole_of kind.I128 z = option_map scalar.I128 (signed_of 127 z)
whole_of kind.ISize z = option_map scalar.ISize (signed_of 63 z)
whole_of k z = None

-- false, the character 0, the empty text, and 0
abbrev pub scalar_default : ScalarType → Option Scalar
scalar_default kind.Bool = Some (scalar.Bool false)
scalar_default kind.Char = Some (scalar.Char 0)
scalar_default kind.String = Some (scalar.String [])
scalar_default k = whole_of k (pos 0)

-- the kinds that have numbers below zero
abbrev pub has_negative : ScalarType → Bool
has_negative k = is_some (whole_of k (negsuc 0))

-- the value in the kind, or the scalar that was given
abbrev pub conversion_of : Scalar → Option Scalar → Conversion Scalar
conversion_of x None = Failed x
conversion_of x (Some y) = Converted y

-- a whole number keeps its value, and fails where the kind hasn't it; nothing else is converted
abbrev pub scalar_converted : ScalarType → Scalar → Conversion Scalar
scalar_converted k x = if is_whole (scalar_kind x) then conversion_of x (whole_of k (number_of x)) else Unsupported x
