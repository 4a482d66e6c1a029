use Rattle.std.proofs.Common.{◌≡◌, ℕ, List, Some, ap, sym, ◌∙◌}
use Rattle.facet_base.specs.DeclId.{extern_text}
use Rattle.facet_base.specs.Fnv.{fnv, fnv_start}
use Rattle.facet_base.specs.declared.decl_id.DeclId.{DeclId}
use Rattle.facet_desc.specs.Ty.{kind_text}
use Rattle.facet_desc.specs.WithoutSpare.{ty_without_spare}
use Rattle.facet_shape.specs.ShapeBuilder.{fresh_shape}
use Rattle.facet_shape.specs.WithoutSpare.{shape_without_spare}
use Rattle.facet_shape.specs.declared.shape.Shape.{Shape}
use Rattle.facet_makers.specs.Generic.{in_module}
use Rattle.facet_makers.proofs.KindTexts.{kind_by_items}
use Rattle.facet_makers.proofs.generic.in_module.Goals as goal

pub returns : goal.returns
unfolding in_module
returns c =
    let t = ty_without_spare c.args.ty in
    let hash = λ (kind : List ℕ). fnv fnv_start (extern_text c.args.path.now kind c.args.identifier.now) in
    let d : c.new-2.result ≡ record { 0 = hash (kind_text t) } =
    ap (λ n. record { 0 = n }) (c.new-2.ensures ∙ c.decl_id_hash_extern-hash.ensures ∙ ap hash (c.kind_str.ensures ∙ sym (kind_by_items c.args.ty))) in
    ap shape_without_spare c.with_type.ensures
    ∙ ap (λ (s : Shape). record s { module_path = Some c.in_ok-module_path.module_path; ty = t }) c.in_ok-shape.ensures
    ∙ ap (λ (path : List ℕ). record (fresh_shape c.args.identifier.now c.args.layout) { decl_id = c.new-2.result; module_path = Some path; ty = t }) c.in_ok-module_path.ensures
    ∙ ap (λ (n : DeclId). record (fresh_shape c.args.identifier.now c.args.layout) { decl_id = n; module_path = Some c.args.path.now; ty = t }) d
