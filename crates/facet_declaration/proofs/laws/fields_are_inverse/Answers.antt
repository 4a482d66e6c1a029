use Rattle.std.proofs.Common.{sym, ap, ◌∙◌}
use Rattle.facet_declaration.specs.Fields.{field_of}
use Rattle.facet_declaration.proofs.FieldWords.{field_spelled, field_read}
use Rattle.facet_declaration.proofs.laws.fields_are_inverse.Goals as goal

pub returns : goal.returns
returns c text field = (field_spelled text field, λ h. ap field_of (sym h.1) ∙ field_read field h.0)
