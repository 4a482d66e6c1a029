-- The flags of each set, with their bits, in order.
use Rattle.std.specs.Prelude.{List, [], ◌∷◌, codes}
use Rattle.bitflags.specs.Sets.{Row}

-- the marker traits of a type
abbrev pub marker_traits : List Row
marker_traits =
    (codes "COPY", 1) ∷ (codes "SEND", 2) ∷ (codes "SYNC", 4) ∷ (codes "EQ", 8) ∷ (codes "UNPIN", 16) ∷ (codes "UNWIND_SAFE", 32) ∷ (codes "REF_UNWIND_SAFE", 64) ∷ []

-- the properties of a shape
abbrev pub shape_flags : List Row
shape_flags =
    (codes "UNTAGGED", 1) ∷ (codes "NUMERIC", 2) ∷ (codes "POD", 4) ∷ (codes "METADATA_CONTAINER", 8) ∷ []

-- the properties of a field
abbrev pub field_flags : List Row
field_flags =
    (codes "SENSITIVE", 1) ∷ (codes "FLATTEN", 2) ∷ (codes "SKIP", 4) ∷ (codes "SKIP_SERIALIZING", 8) ∷ (codes "SKIP_DESERIALIZING", 16) ∷ (codes "CHILD", 32) ∷ (codes "RECURSIVE_TYPE", 64) ∷ []

-- the properties of a smart pointer
abbrev pub pointer_flags : List Row
pointer_flags =
    (codes "EMPTY", 0) ∷ (codes "WEAK", 1) ∷ (codes "ATOMIC", 2) ∷ (codes "LOCK", 4) ∷ []
