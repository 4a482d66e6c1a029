-- What a definition is.
use Rattle.std.specs.Prelude.{Bool, false, is_some}
use Rattle.facet_def.specs.declared.def.Def.{Def}
use Rattle.facet_def.specs.declared.def.Def.TheVariants as def

-- it is a pointer that a slice builder makes
abbrev pub is_slice_builder : Def → Bool
is_slice_builder (def.Pointer p) = is_some p.vtable.slice_builder_vtable
is_slice_builder _ = false
