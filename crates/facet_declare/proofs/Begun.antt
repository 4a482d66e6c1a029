-- A shape of which the options of a declaration are said, as its builder has it.
use Rattle.std.proofs.Common.{◌≡◌, ℕ, List, Option, None, Some, ap}
use Rattle.facet_base.specs.Many.{ManyValue, of_items}
use Rattle.facet_base.specs.declared.layout.ShapeLayout.{ShapeLayout}
use Rattle.facet_base.specs.declared.layout.ShapeLayout.TheVariants.{Unsized}
use Rattle.facet_base.specs.declared.variance.Variance.{Variance}
use Rattle.facet_base.specs.declared.variance_desc.VarianceDep.{VarianceDep}
use Rattle.facet_declare.specs.Options.{Options, with_options}
use Rattle.facet_desc.specs.declared.parameter.TypeParam.{TypeParam}
use Rattle.facet_desc.specs.declared.repr.Repr.{Repr}
use Rattle.facet_shape.specs.ShapeBuilder.{fresh_shape}
use Rattle.facet_shape.specs.WithoutSpare.{shape_without_spare}
use Rattle.facet_shape.specs.declared.shape.Shape.{Shape}

module _ (r : Repr) (n : ℕ) (params : ManyValue TypeParam) (b : Variance) (deps : ManyValue VarianceDep) where
  -- what the options say, with a module path or none
  abbrev pub said : Option (List ℕ) → Options
  said path = record { repr = r; decl_id = n; module_path = path; type_params = params.items; base = b; deps = deps.items }

  -- the builder's shape
  abbrev pub begun : ShapeLayout → Shape → Shape
  begun l s = record s { layout = l; decl_id = record { 0 = n }; type_params = params; variance = record { base = b; deps = deps } }

  module _ (identifier : List ℕ) (l : ShapeLayout) (s : Shape) (is : shape_without_spare s ≡ fresh_shape identifier Unsized) where
    pub begun_without_path : shape_without_spare (begun l s) ≡ with_options (said None) (fresh_shape identifier l)
    unfolding fresh_shape with_options
    begun_without_path = ap (λ (t : Shape). record t { layout = l; decl_id = record { 0 = n }; type_params = of_items params.items; variance = record { base = b; deps = of_items deps.items } }) is

    pub begun_in_module : (path : List ℕ) → shape_without_spare (record (begun l s) { module_path = Some path }) ≡ with_options (said (Some path)) (fresh_shape identifier l)
    unfolding fresh_shape with_options
    begun_in_module path = ap (λ (t : Shape). record t { layout = l; decl_id = record { 0 = n }; type_params = of_items params.items; variance = record { base = b; deps = of_items deps.items }; module_path = Some path }) is
