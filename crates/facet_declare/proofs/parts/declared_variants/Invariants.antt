use Rattle.std.proofs.Common.{◌≡◌, ◌++◌, drop, map}
use Rattle.facet_declare.specs.Parts.{declared_variant}
use Rattle.facet_desc.specs.WithoutSpare.{variant_without_spare}
use Rattle.facet_declare.proofs.parts.declared_variants.Given as goal

-- the variants so far, and then those that are left, are all
abbrev pub invariant-loop-variant : goal.invariant-loop-variant
invariant-loop-variant l =
    map variant_without_spare l.made.items ++ map declared_variant (drop l.variant-index l.variants) ≡ map declared_variant l.variants
