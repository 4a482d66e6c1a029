use Rattle.std.proofs.Common.{◌≡◌, ◌++◌, drop, map}
use Rattle.facet_declare.specs.Parts.{declared_field}
use Rattle.facet_desc.specs.WithoutSpare.{field_without_spare}
use Rattle.facet_declare.proofs.parts.declared_fields.Given as goal

-- the fields so far, and then those that are left, are all
abbrev pub invariant-loop-field : goal.invariant-loop-field
invariant-loop-field l =
    map field_without_spare l.made.items ++ map declared_field (drop l.field-index l.fields) ≡ map declared_field l.fields
