use Rattle.std.proofs.Common.{sym}
use Rattle.facet_walk.specs.Look.{pointed}
use Rattle.facet_contain.proofs.ContainerParts.{behind_inside, behind_leads, behind_points, ok_holds}
use Rattle.facet_contain.proofs.results.get_ok.Goals as goal

pub behind_tag-requires-clause-inside : goal.behind_tag-requires-clause-inside
behind_tag-requires-clause-inside g c = behind_inside (ok_holds g.L.Leaf.model c.args.shapes.now.sealed (pointed c.args.s c.args.p) c.requires.kind) c.requires.readable (λ v reads. sym (c.if-is_ok.ensures v reads))

pub returns-then-is_ok-clause-part : goal.returns-then-is_ok-clause-part
returns-then-is_ok-clause-part g c =
    behind_points (ok_holds g.L.Leaf.model c.args.shapes.now.sealed (pointed c.args.s c.args.p) c.requires.kind) c.requires.readable (λ v reads. sym (c.if-is_ok.ensures v reads))
    c.behind_tag.result c.behind_tag.ensures.block c.behind_tag.ensures.offset

pub returns-then-is_ok-clause-readable : goal.returns-then-is_ok-clause-readable
returns-then-is_ok-clause-readable g c =
    behind_leads (ok_holds g.L.Leaf.model c.args.shapes.now.sealed (pointed c.args.s c.args.p) c.requires.kind) c.requires.readable (λ v reads. sym (c.if-is_ok.ensures v reads))
    c.behind_tag.result c.behind_tag.ensures.block c.behind_tag.ensures.offset c.sealed-sealed.ensures.registry.well_formed c.requires.sealed
