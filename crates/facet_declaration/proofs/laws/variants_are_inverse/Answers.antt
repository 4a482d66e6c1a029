use Rattle.std.proofs.Common.{sym, ap, ◌∙◌}
use Rattle.facet_declaration.specs.Variants.{variant_of}
use Rattle.facet_declaration.proofs.VariantWords.{variant_spelled, variant_read}
use Rattle.facet_declaration.proofs.laws.variants_are_inverse.Goals as goal

pub returns : goal.returns
returns c text variant = (variant_spelled text variant, λ h. ap variant_of (sym h.1) ∙ variant_read variant h.0)
