use Rattle.std.proofs.Common.{pos, ap, ◌∙◌}
use Rattle.facet_desc.specs.Variant.{fresh_variant}
use Rattle.facet_desc.specs.StructType.{unit_struct}
use Rattle.facet_desc.specs.WithoutSpare.{variant_without_spare}
use Rattle.facet_makers.proofs.Variants.{numbered}
use Rattle.facet_makers.proofs.types.none_variant.Goals as goal

pub returns : goal.returns
returns c =
    ap variant_without_spare (c.build.ensures ∙ c.discriminant.ensures)
    ∙ numbered (pos 0) c.unit.result _ (c.unit.ensures ∙ ap (λ name. fresh_variant name unit_struct) c.in_ok-name.ensures)
