use Rattle.std.proofs.Common.{◌≡◌, ◌++◌, length, option_map}
use Rattle.std.specs.Option.{option_copied}
use Rattle.facet_declaration.specs.Cuts.{pieces_behind, read_each}
use Rattle.facet_declaration.specs.Fields.{field_of, fields_of}
use Rattle.facet_declaration.proofs.fields.read_fields.Given as goal

abbrev pub invariant-loop-rest : goal.invariant-loop-rest
invariant-loop-rest l =
    option_map (λ more. l.fields ++ more) (read_each field_of (pieces_behind 44 (option_copied l.rest))) ≡ fields_of l.text

abbrev pub decreases-loop-rest : goal.decreases-loop-rest
decreases-loop-rest l = length (pieces_behind 44 (option_copied l.rest))
