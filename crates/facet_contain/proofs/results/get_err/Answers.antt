use Rattle.std.proofs.Common.{sym, ◌∙◌, ap, not}
use Rattle.facet_walk.specs.Look.{pointed}
use Rattle.facet_contain.proofs.ContainerParts.{behind_inside, behind_leads, behind_points, err_unless_ok, err_holds}
use Rattle.facet_contain.proofs.results.get_err.Goals as goal

pub behind_tag-requires-clause-inside : goal.behind_tag-requires-clause-inside
behind_tag-requires-clause-inside g c = behind_inside (err_holds g.L.Leaf.model c.args.shapes.now.sealed (pointed c.args.s c.args.p) c.requires.kind) c.requires.readable (λ v reads. err_unless_ok c.requires.readable c.requires.kind v reads ∙ ap not (sym (c.if-is_ok.ensures v reads)))

pub returns-clause-part : goal.returns-clause-part
returns-clause-part g c =
    behind_points (err_holds g.L.Leaf.model c.args.shapes.now.sealed (pointed c.args.s c.args.p) c.requires.kind) c.requires.readable (λ v reads. err_unless_ok c.requires.readable c.requires.kind v reads ∙ ap not (sym (c.if-is_ok.ensures v reads)))
    c.behind_tag.result c.behind_tag.ensures.block c.behind_tag.ensures.offset

pub returns-clause-readable : goal.returns-clause-readable
returns-clause-readable g c =
    behind_leads (err_holds g.L.Leaf.model c.args.shapes.now.sealed (pointed c.args.s c.args.p) c.requires.kind) c.requires.readable (λ v reads. err_unless_ok c.requires.readable c.requires.kind v reads ∙ ap not (sym (c.if-is_ok.ensures v reads)))
    c.behind_tag.result c.behind_tag.ensures.block c.behind_tag.ensures.offset c.sealed-sealed.ensures.registry.well_formed c.requires.sealed
