-- The fixed words of the grammar.
use Rattle.std.specs.Prelude.{ℕ, List, codes}
use Rattle.facet_grammar.specs.declared.keyword.Keyword.{Keyword}
use Rattle.facet_grammar.specs.declared.keyword.Keyword.TheVariants as keyword

-- the bytes of a keyword
abbrev pub text_of : Keyword → List ℕ
text_of keyword.Put = codes "put"
text_of keyword.Default = codes "default"
text_of keyword.Seal = codes "seal"
text_of keyword.Shape = codes "shape"
text_of keyword.Option = codes "option"
text_of keyword.List = codes "list"
text_of keyword.Set = codes "set"
text_of keyword.Slice = codes "slice"
text_of keyword.Box = codes "box"
text_of keyword.BoxedSlice = codes "boxed_slice"
text_of keyword.Array = codes "array"
text_of keyword.Map = codes "map"
text_of keyword.Result = codes "result"
text_of keyword.Tuple = codes "tuple"
text_of keyword.Struct = codes "struct"
text_of keyword.TupleStruct = codes "tuple_struct"
text_of keyword.Enum = codes "enum"
text_of keyword.Opaque = codes "opaque"
text_of keyword.Unsized = codes "unsized"
text_of keyword.Scalar = codes "scalar"
