use Rattle.std.proofs.Common.{sym}
use Rattle.facet_walk.specs.Look.{pointed}
use Rattle.facet_contain.proofs.ContainerParts.{behind_inside, behind_leads, behind_points, option_holds}
use Rattle.facet_contain.proofs.options.get_value.Goals as goal

pub behind_tag-requires-clause-inside : goal.behind_tag-requires-clause-inside
behind_tag-requires-clause-inside g c = behind_inside (option_holds g.L.Leaf.model c.args.shapes.now.sealed (pointed c.args.s c.args.p) c.requires.kind) c.requires.readable (λ v reads. sym (c.if-is_some.ensures v reads))

pub returns-then-is_some-clause-part : goal.returns-then-is_some-clause-part
returns-then-is_some-clause-part g c =
    behind_points (option_holds g.L.Leaf.model c.args.shapes.now.sealed (pointed c.args.s c.args.p) c.requires.kind) c.requires.readable (λ v reads. sym (c.if-is_some.ensures v reads))
    c.behind_tag.result c.behind_tag.ensures.block c.behind_tag.ensures.offset

pub returns-then-is_some-clause-readable : goal.returns-then-is_some-clause-readable
returns-then-is_some-clause-readable g c =
    behind_leads (option_holds g.L.Leaf.model c.args.shapes.now.sealed (pointed c.args.s c.args.p) c.requires.kind) c.requires.readable (λ v reads. sym (c.if-is_some.ensures v reads))
    c.behind_tag.result c.behind_tag.ensures.block c.behind_tag.ensures.offset c.sealed-sealed.ensures.registry.well_formed c.requires.sealed
