-- Which pointers can be made of the value that they point to.
use Rattle.std.specs.Prelude.{Bool, ◌||◌, false, true}
use Rattle.std.specs.Option.{option_map_or}
use Rattle.facet_base.specs.declared.known_pointer.KnownPointer.{KnownPointer}
use Rattle.facet_base.specs.declared.known_pointer.KnownPointer.TheVariants as known
use Rattle.facet_def.specs.declared.pointer_def.PointerDef.{PointerDef}

-- a box or a strong counted pointer
abbrev pub is_owning : KnownPointer → Bool
is_owning known.Box = true
is_owning known.Rc = true
is_owning known.Arc = true
is_owning _ = false

-- it has the operation for that, or it is known to be a box or a strong counted pointer
abbrev pub is_made_of_pointee : PointerDef → Bool
is_made_of_pointee pointer = pointer.vtable.new_into_fn || option_map_or is_owning pointer.known false
