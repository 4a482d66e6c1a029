-- What the shapes of generic types have in common.
use Rattle.std.specs.Prelude.{ℕ, ◌++◌, List, [], ◌∷◌, Some, codes}
use Rattle.facet_base.specs.DeclId.{extern_text}
use Rattle.facet_base.specs.Fnv.{fnv, fnv_start}
use Rattle.facet_base.specs.Many.{of_items}
use Rattle.facet_base.specs.declared.layout.ShapeId.{ShapeId}
use Rattle.facet_base.specs.declared.layout.ShapeLayout.{ShapeLayout}
use Rattle.facet_base.specs.declared.variance_desc.VarianceDep.{VarianceDep}
use Rattle.facet_base.specs.declared.variance_desc.VariancePosition.TheVariants as position
use Rattle.facet_desc.specs.Ty.{kind_text}
use Rattle.facet_desc.specs.declared.parameter.ConstParam.{ConstParam}
use Rattle.facet_desc.specs.declared.parameter.ConstParamKind.TheVariants as const
use Rattle.facet_desc.specs.declared.parameter.TypeParam.{TypeParam}
use Rattle.facet_desc.specs.declared.ty.Ty.{Ty}
use Rattle.facet_shape.specs.ShapeBuilder.{fresh_shape}
use Rattle.facet_shape.specs.declared.shape.Shape.{Shape}

-- the shape of a type that a module declares, numbered by its path, its kind and its identifier
unfoldable pub in_module : List ℕ → List ℕ → Ty → ShapeLayout → Shape
in_module identifier path ty layout =
    record (fresh_shape identifier layout) {
      decl_id = record { 0 = fnv fnv_start (extern_text path (kind_text ty) identifier) };
      module_path = Some path;
      ty = ty;
    }

-- the shape of a type of the language, numbered by a text of its own
unfoldable pub built_in : List ℕ → List ℕ → Ty → ShapeLayout → Shape
built_in identifier declaration ty layout =
    record (fresh_shape identifier layout) { decl_id = record { 0 = fnv fnv_start declaration }; ty = ty }

-- a type parameter and the type that stands for it
abbrev pub parameter : List ℕ → ShapeId → TypeParam
parameter name t = record { name = name; shape = t }

-- a shape in covariant position
abbrev pub covariant : ShapeId → VarianceDep
covariant t = record { position = position.Covariant; shape = t }

-- the shape with one type parameter more, in which it is covariant
unfoldable pub with_parameter : List ℕ → ShapeId → Shape → Shape
with_parameter name t s =
    record s {
      type_params = of_items (s.type_params.items ++ parameter name t ∷ []);
      variance = record (s.variance) { deps = of_items (s.variance.deps.items ++ covariant t ∷ []) };
    }

-- the const parameter `N` of an array of n elements
abbrev pub length_parameter : ℕ → ConstParam
length_parameter n = record { name = codes "N"; value = n; kind = const.Usize }

-- the shape with that parameter
unfoldable pub with_length : ℕ → Shape → Shape
with_length n s = record s { const_params = of_items (s.const_params.items ++ length_parameter n ∷ []) }
