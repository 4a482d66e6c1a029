-- A record while it is built.
use Rattle.std.specs.Prelude.{ℕ, Bool, List, Option, Some, None, Result, Ok, Err, not, position}
use Rattle.facet_base.specs.declared.errors.MissingField.{MissingField}

-- the members so far, and for each required one, in order, whether it was given
pub record PartialRecord (R : Type 0) : Type 0 where
  -- a member that was not given is false, 0 or without operations
  pub members : R
  pub given : List Bool

-- the record, unless the required member at an index is missing
abbrev pub unless_missing : {R : Type 0} → Option ℕ → R → Result R MissingField
unless_missing None members = Ok members
unless_missing (Some index) members = Err (record { 0 = index })

-- what is built: the members, or the index of the first required one that was not given
abbrev pub built : {R : Type 0} → PartialRecord R → Result R MissingField
built partial = unless_missing (position not partial.given) partial.members
