use Rattle.std.proofs.Common.{[], ◌∙◌, ap, sym}
use Rattle.std.specs.Option.{option_map_or}
use Rattle.facet_causes.specs.Arrangement.{single}
use Rattle.facet_walk.specs.Look.{seen_in_blocks}
use Rattle.facet_walk.proofs.SeenKinds.{nothing_in_blocks}
use Rattle.facet_walk.proofs.sequences.see_elements.Goals as goal

pub returns-in-Some-None : goal.returns-in-Some-None
returns-in-Some-None g c =
    nothing_in_blocks c.args.form c.args.at c.in-Some-None.field-0-0.now c.in-Some-None.ensures
    ∙ sym (ap (λ e. seen_in_blocks c.args.form (option_map_or (λ id. single id 0) e []) c.args.at) c.in-Some-None.is-1)
