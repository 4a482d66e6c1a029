-- Words that stand for one value each: of representations, of kinds of scalars and of variances.
use Rattle.std.specs.Prelude.{◌≡◌, ℕ, Bool, true, false, List, [], ◌∷◌, map, Option, None, Some, bytes_eq, codes, if◌then◌else◌}
use Rattle.facet_base.specs.declared.scalar_type.ScalarType.{ScalarType}
use Rattle.facet_base.specs.declared.scalar_type.ScalarType.TheVariants as kind
use Rattle.facet_base.specs.declared.variance.Variance.{Variance}
use Rattle.facet_base.specs.declared.variance.Variance.TheVariants as variance
use Rattle.facet_desc.specs.declared.repr.BaseRepr.{BaseRepr}
use Rattle.facet_desc.specs.declared.repr.BaseRepr.TheVariants as base
use Rattle.facet_desc.specs.declared.repr.EnumRepr.{EnumRepr}
use Rattle.facet_desc.specs.declared.repr.EnumRepr.TheVariants as repr

-- the value beside a word in a table, the first of equal ones
abbrev pub entry_of : {X : Type 0} → List (List ℕ × X) → List ℕ → Option X
entry_of [] word = None
entry_of (entry ∷ table) word = if bytes_eq word entry.0 then Some entry.1 else entry_of table word

-- the first of some values whose word it is
abbrev pub value_of : {X : Type 0} → (X → List ℕ) → List X → List ℕ → Option X
value_of spell values word = entry_of (map (λ x. (spell x, x)) values) word

-- the word of an enum's representation
abbrev pub spell_repr : EnumRepr → List ℕ
spell_repr repr.Rust = codes "rust"
spell_repr repr.U8 = codes "u8"
spell_repr repr.U16 = codes "u16"
spell_repr repr.U32 = codes "u32"
spell_repr repr.U64 = codes "u64"
spell_repr repr.USize = codes "usize"
spell_repr repr.I8 = codes "i8"
spell_repr repr.I16 = codes "i16"
spell_repr repr.I32 = codes "i32"
spell_repr repr.I64 = codes "i64"
spell_repr repr.ISize = codes "isize"
spell_repr repr.RustNPO = []

-- each has a word but `RustNPO`
abbrev pub is_repr : EnumRepr → Bool
is_repr repr.RustNPO = false
is_repr _ = true

-- the representations that have a word
abbrev pub reprs : List EnumRepr
reprs = repr.Rust ∷ repr.U8 ∷ repr.U16 ∷ repr.U32 ∷ repr.U64 ∷ repr.USize ∷ repr.I8 ∷ repr.I16 ∷ repr.I32 ∷ repr.I64 ∷ repr.ISize ∷ []

-- the representation that a word is
abbrev pub repr_of : List ℕ → Option EnumRepr
repr_of word = value_of spell_repr reprs word

-- a representation can be written
abbrev pub IsRepr : EnumRepr → Type 0
IsRepr r = is_repr r ≡ true

-- the word of a kind of scalars
abbrev pub spell_kind : ScalarType → List ℕ
spell_kind kind.Unit = codes "unit"
spell_kind kind.Bool = codes "bool"
spell_kind kind.Char = codes "char"
spell_kind kind.String = codes "String"
spell_kind kind.U8 = codes "u8"
spell_kind kind.U16 = codes "u16"
spell_kind kind.U32 = codes "u32"
spell_kind kind.U64 = codes "u64"
spell_kind kind.U128 = codes "u128"
spell_kind kind.USize = codes "usize"
spell_kind kind.I8 = codes "i8"
spell_kind kind.I16 = codes "i16"
spell_kind kind.I32 = codes "i32"
spell_kind kind.I64 = codes "i64"
spell_kind kind.I128 = codes "i128"
spell_kind kind.ISize = codes "isize"
spell_kind kind.Str = []

-- each has a word but `Str`
abbrev pub is_kind : ScalarType → Bool
is_kind kind.Str = false
is_kind _ = true

-- the kinds that have a word
abbrev pub kinds : List ScalarType
kinds = kind.Unit ∷ kind.Bool ∷ kind.Char ∷ kind.String ∷ kind.U8 ∷ kind.U16 ∷ kind.U32 ∷ kind.U64 ∷ kind.U128 ∷ kind.USize
    ∷ kind.I8 ∷ kind.I16 ∷ kind.I32 ∷ kind.I64 ∷ kind.I128 ∷ kind.ISize ∷ []

-- the kind of scalars that a word is
abbrev pub kind_of : List ℕ → Option ScalarType
kind_of word = value_of spell_kind kinds word

-- a kind can be written
abbrev pub IsKind : ScalarType → Type 0
IsKind k = is_kind k ≡ true

-- the word of a struct's representation
abbrev pub spell_base : BaseRepr → List ℕ
spell_base base.C = codes "c"
spell_base base.Rust = codes "rust"
spell_base base.Transparent = codes "transparent"

-- all of them
abbrev pub bases : List BaseRepr
bases = base.C ∷ base.Rust ∷ base.Transparent ∷ []

-- the representation of a struct that a word is
abbrev pub base_of : List ℕ → Option BaseRepr
base_of word = value_of spell_base bases word

-- the letter of a variance
abbrev pub spell_variance : Variance → List ℕ
spell_variance variance.Bivariant = codes "b"
spell_variance variance.Covariant = codes "c"
spell_variance variance.Contravariant = codes "v"
spell_variance variance.Invariant = codes "i"

-- all of them
abbrev pub variances : List Variance
variances = variance.Bivariant ∷ variance.Covariant ∷ variance.Contravariant ∷ variance.Invariant ∷ []

-- the variance that a word is
abbrev pub variance_of : List ℕ → Option Variance
variance_of word = value_of spell_variance variances word

-- a shape without a size is declared by this word
abbrev pub is_unsized : List ℕ → Bool
is_unsized word = bytes_eq word (codes "unsized")
