-- The words for kinds of types.
use Rattle.std.specs.Prelude.{ℕ, List, codes}
use Rattle.facet_desc.specs.declared.pointer.PointerType.TheVariants as pointer
use Rattle.facet_desc.specs.declared.sequence.SequenceType.TheVariants as sequence
use Rattle.facet_desc.specs.declared.ty.Ty.{Ty}
use Rattle.facet_desc.specs.declared.ty.Ty.TheVariants as ty
use Rattle.facet_desc.specs.declared.ty.UserType.TheVariants as user

-- the word for a type's kind
abbrev pub kind_text : Ty → List ℕ
kind_text ty.Undefined = codes "undefined"
kind_text (ty.Primitive p) = codes "primitive"
kind_text (ty.Sequence (sequence.Array a)) = codes "array"
kind_text (ty.Sequence (sequence.Slice s)) = codes "slice"
kind_text (ty.User (user.Struct s)) = codes "struct"
kind_text (ty.User (user.Enum e)) = codes "enum"
kind_text (ty.User user.Opaque) = codes "opaque"
kind_text (ty.Pointer (pointer.Reference p)) = codes "ref"
kind_text (ty.Pointer (pointer.Raw p)) = codes "ptr"
kind_text (ty.Pointer (pointer.Function f)) = codes "fn"
