use Rattle.std.proofs.Common.{◌∙◌, ap, pos, slice_get, sym, unwrap_or}
use Rattle.facet_outline.specs.Discriminant.{discriminants_of_kind}
use Rattle.facet_compare.proofs.AnsweredByKind.{rank_found, read_back}
use Rattle.facet_compare.proofs.ranks.rank_of.Goals as goal

pub returns : goal.returns
returns g c =
    let shape = c.sealed_shape.result.now in
    let k = c.kind_of.result in
    read_back c.rank_by_kind.result c.rank_by_kind.type_inv
    ∙ c.rank_by_kind.ensures
    ∙ ap (λ n. unwrap_or (slice_get (discriminants_of_kind k shape.ty) n) (pos n)) c.tag_of.ensures
    ∙ sym (rank_found c.args.shapes.now.sealed c.args.id.0 shape k (record { here = c.sealed_shape.ensures; kind = sym (c.kind_of.ensures.sealed c.requires) }) c.args.form)
