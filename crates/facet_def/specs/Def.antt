-- What a definition is taken apart into, and the type that follows from it.
use Rattle.std.specs.Prelude.{◌≡◌, ◌↔◌, Result, Ok, IfErr}
use Rattle.facet_def.specs.declared.def.Def.{Def}
use Rattle.facet_def.specs.declared.def.Def.TheVariants as def
use Rattle.facet_desc.specs.declared.sequence.SequenceType.TheVariants as sequence
use Rattle.facet_desc.specs.declared.ty.Ty.{Ty}
use Rattle.facet_desc.specs.declared.ty.Ty.TheVariants as ty
use Rattle.facet_desc.specs.declared.ty.UserType.TheVariants as user

-- a definition of that case returns its record, and any other comes back as it was
pub record IsRecordOrBack {R : Type 0} (case : R → Def) (definition : Def) (result : Result R Def) : Type 0 where
  pub taken : (its_record : R) → (result ≡ Ok its_record) ↔ (definition ≡ case its_record)
  pub back : IfErr result (λ other. other ≡ definition)

-- the type that follows from a definition alone: of an array or a slice the sequence of its elements, else opaque
abbrev pub type_of : Def → Ty
type_of (def.Array a) = ty.Sequence (sequence.Array (record { t = a.t; n = a.n }))
type_of (def.Slice s) = ty.Sequence (sequence.Slice (record { t = s.t }))
type_of _ = ty.User user.Opaque
