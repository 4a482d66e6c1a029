use Rattle.std.proofs.Common.{◌≡◌, ◌∙◌, Some, ap, refl, sym}
use Rattle.facet_base.specs.declared.layout.ShapeLayout.TheVariants.{Unsized}
use Rattle.facet_base.specs.declared.variance_desc.VarianceDesc.{VarianceDesc}
use Rattle.facet_declare.specs.Options.{Options, with_options}
use Rattle.facet_shape.specs.ShapeBuilder.{fresh_shape}
use Rattle.facet_shape.specs.WithoutSpare.{shape_without_spare}
use Rattle.facet_shape.specs.declared.shape.Shape.{Shape}
use Rattle.facet_declare.proofs.Begun.{begun, begun_in_module, begun_without_path, said}
use Rattle.facet_declare.proofs.options.begin.Goals as goal

pub returns-in-None : goal.returns-in-None
returns-in-None c =
    let i = c.options.inside in
    let s = c.for_unsized.result in
    let name = c.args.name.now in
    let l = c.args.layout in
    let is : shape_without_spare s ≡ fresh_shape name Unsized = c.for_unsized.ensures ∙ ap (λ n. fresh_shape n Unsized) c.in_ok-try_clone.ensures in
    let made : c.variance-builder.result ≡ begun i.repr i.decl_id i.type_params i.base i.deps l s =
    c.variance-builder.ensures
    ∙ ap (λ (t : Shape). record t { variance = c.new-2.result }) (c.type_params.ensures ∙ ap (λ (t : Shape). record t { type_params = i.type_params }) (c.decl_id.ensures ∙ ap (λ (t : Shape). record t { decl_id = c.new.result }) c.layout.ensures))
    ∙ ap (λ (v : VarianceDesc). record s { layout = l; decl_id = c.new.result; type_params = i.type_params; variance = v }) c.new-2.ensures
    ∙ ap (λ n. record s { layout = l; decl_id = record { 0 = n }; type_params = i.type_params; variance = record { base = i.base; deps = i.deps } }) c.new.ensures in
    ap shape_without_spare made
    ∙ begun_without_path i.repr i.decl_id i.type_params i.base i.deps name l s is
    ∙ ap (λ path. with_options (said i.repr i.decl_id i.type_params i.base i.deps path) (fresh_shape name l)) (sym c.in-None.is)
    ∙ ap (λ (o : Options). with_options o (fresh_shape name l)) c.options.view_is

pub returns-in-Some : goal.returns-in-Some
returns-in-Some c =
    let i = c.options.inside in
    let s = c.for_unsized.result in
    let name = c.args.name.now in
    let l = c.args.layout in
    let is : shape_without_spare s ≡ fresh_shape name Unsized = c.for_unsized.ensures ∙ ap (λ n. fresh_shape n Unsized) c.in_ok-try_clone.ensures in
    let made : c.variance-builder.result ≡ begun i.repr i.decl_id i.type_params i.base i.deps l s =
    c.variance-builder.ensures
    ∙ ap (λ (t : Shape). record t { variance = c.new-2.result }) (c.type_params.ensures ∙ ap (λ (t : Shape). record t { type_params = i.type_params }) (c.decl_id.ensures ∙ ap (λ (t : Shape). record t { decl_id = c.new.result }) c.layout.ensures))
    ∙ ap (λ (v : VarianceDesc). record s { layout = l; decl_id = c.new.result; type_params = i.type_params; variance = v }) c.new-2.ensures
    ∙ ap (λ n. record s { layout = l; decl_id = record { 0 = n }; type_params = i.type_params; variance = record { base = i.base; deps = i.deps } }) c.new.ensures in
    let b : Shape = c.variance-builder.result in
    let in_path : c.module_path.result ≡ record b { module_path = Some c.in-Some.path } = rw (c.module_path.ensures, c.in-Some.is) refl in
    ap shape_without_spare (in_path ∙ ap (λ (t : Shape). record t { module_path = Some c.in-Some.path }) made)
    ∙ begun_in_module i.repr i.decl_id i.type_params i.base i.deps name l s is c.in-Some.path
    ∙ ap (λ path. with_options (said i.repr i.decl_id i.type_params i.base i.deps path) (fresh_shape name l)) (sym c.in-Some.is)
    ∙ ap (λ (o : Options). with_options o (fresh_shape name l)) c.options.view_is
