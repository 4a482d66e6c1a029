use Rattle.std.proofs.Common.{◌∙◌, ap}
use Rattle.facet_drop.proofs.HeldValues.{made_up}
use Rattle.facet_drop.specs.Makeup.{makeup_of_kind}
use Rattle.facet_drop.proofs.makeup.makeup_of.Goals as goal

pub returns : goal.returns
returns g c = c.makeup_of_kind.ensures ∙ ap makeup_of_kind (c.kind_of.ensures.sealed c.requires) ∙ made_up c.args.shapes.now.sealed c.args.id.0
