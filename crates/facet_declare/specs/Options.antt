-- What the options of a declaration say.
use Rattle.std.specs.Prelude.{ℕ, true, false, List, [], ◌∷◌, ◌++◌, Option, None, Some, fold}
use Rattle.facet_base.specs.Many.{of_items}
use Rattle.facet_base.specs.declared.variance.Variance.{Variance}
use Rattle.facet_base.specs.declared.variance.Variance.TheVariants as variance
use Rattle.facet_base.specs.declared.variance_desc.VarianceDep.{VarianceDep}
use Rattle.facet_desc.specs.declared.parameter.TypeParam.{TypeParam}
use Rattle.facet_desc.specs.declared.repr.BaseRepr.TheVariants as base
use Rattle.facet_desc.specs.declared.repr.Repr.{Repr}
use Rattle.facet_shape.specs.declared.shape.Shape.{Shape}
use Rattle.facet_words.specs.declared.options.Opt.{Opt}
use Rattle.facet_words.specs.declared.options.Opt.TheVariants as opt

-- what a declaration says of a type beside its layout, its capabilities and its parts
pub record Options : Type 0 where
  pub repr : Repr
  pub decl_id : ℕ
  pub module_path : Option (List ℕ)
  pub type_params : List TypeParam
  pub base : Variance
  pub deps : List VarianceDep

-- without an option the representation is C's, and the variance Bivariant
abbrev pub no_options : Options
no_options =
    record {
      repr = record { base = base.C; packed = false };
      decl_id = 0;
      module_path = None;
      type_params = [];
      base = variance.Bivariant;
      deps = [];
    }

-- one option more
abbrev pub with_option : Options → Opt → Options
with_option o (opt.Repr b) = record o { repr = record (o.repr) { base = b } }
with_option o opt.Packed = record o { repr = record (o.repr) { packed = true } }
with_option o (opt.Id n) = record o { decl_id = n }
with_option o (opt.Mod path) = record o { module_path = Some path }
with_option o (opt.Param name t) = record o { type_params = o.type_params ++ record { name = name; shape = t } ∷ [] }
with_option o (opt.Base v) = record o { base = v }
with_option o (opt.Dep p t) = record o { deps = o.deps ++ record { position = p; shape = t } ∷ [] }

-- all options, in order
abbrev pub options_of : List Opt → Options
options_of options = fold with_option no_options options

-- the shape of which the options say that
unfoldable pub with_options : Options → Shape → Shape
with_options o s =
    record s {
      decl_id = record { 0 = o.decl_id };
      module_path = o.module_path;
      type_params = of_items o.type_params;
      variance = record { base = o.base; deps = of_items o.deps };
    }
