-- The shape of a scalar, as it is built.
use Rattle.std.proofs.Common.{◌≡◌, ℕ, List, [], Option, None, Some, option_map, refl, ap, ◌∙◌}
use Rattle.std.specs.Option.{option_or}
use Rattle.facet_base.specs.Fnv.{fnv, fnv_start}
use Rattle.facet_base.specs.ScalarType.{identifier_of}
use Rattle.facet_base.specs.declared.layout.ShapeLayout.TheVariants as layout
use Rattle.facet_base.specs.declared.scalar_type.ScalarType.{ScalarType}
use Rattle.facet_base.specs.declared.scalar_type.ScalarType.TheVariants as scalar
use Rattle.facet_def.specs.declared.def.Def.TheVariants as def
use Rattle.facet_desc.specs.WithoutSpare.{ty_without_spare}
use Rattle.facet_leaf.specs.LeafModel.{LeafModel}
use Rattle.facet_shape.specs.ShapeBuilder.{type_or_default, declared_id, with_declared_id, built, fresh_shape}
use Rattle.facet_shape.specs.WithoutSpare.{shape_without_spare}
use Rattle.facet_shape.specs.declared.shape.Shape.{Shape}
use Rattle.facet_registry.specs.Prelude.{scalar_ty, scalar_module, with_scalar, scalar_shape}

or_none : {A : Type 0} (o : Option A) → option_or o None ≡ o
or_none None = refl
or_none (Some x) = refl

-- the type of a scalar is never undefined, and has no list
scalar_type_stays : (k : ScalarType) → (type_or_default (scalar_ty k) def.Scalar ≡ scalar_ty k) × (ty_without_spare (scalar_ty k) ≡ scalar_ty k)
scalar_type_stays scalar.Unit = (refl, refl)
scalar_type_stays scalar.String = (refl, refl)
scalar_type_stays scalar.Bool = (refl, refl)
scalar_type_stays scalar.Char = (refl, refl)
scalar_type_stays scalar.Str = (refl, refl)
scalar_type_stays scalar.I8 = (refl, refl)
scalar_type_stays scalar.I16 = (refl, refl)
scalar_type_stays scalar.I32 = (refl, refl)
scalar_type_stays scalar.I64 = (refl, refl)
scalar_type_stays scalar.I128 = (refl, refl)
scalar_type_stays scalar.ISize = (refl, refl)
scalar_type_stays _ = (refl, refl)

-- what a builder begins with that has the identifier of a kind
pub is_fresh : (k : ScalarType) (s : Shape) (identifier : List ℕ) → shape_without_spare s ≡ fresh_shape identifier layout.Unsized → identifier ≡ identifier_of k
    → shape_without_spare s ≡ fresh_shape (identifier_of k) layout.Unsized
is_fresh k s identifier begun same = begun ∙ ap (λ i. fresh_shape i layout.Unsized) same

module _ {L : Type 0} (m : LeafModel L) (k : ScalarType) where
  abbrev finished : Shape → Shape
  finished s = record (with_scalar m k s) { decl_id = record { 0 = fnv fnv_start (identifier_of k) } }

  module _ (s : Shape) (is : shape_without_spare s ≡ fresh_shape (identifier_of k) layout.Unsized) where
    declared : declared_id (with_scalar m k s) ≡ Some (fnv fnv_start (identifier_of k))
    unfolding fresh_shape
    declared =
        let id : s.decl_id.0 ≡ 0 = ap (λ t. t.decl_id.0) is in
        let types : s.type_params.items ≡ [] = ap (λ t. t.type_params.items) is in
        let consts : s.const_params.items ≡ [] = ap (λ t. t.const_params.items) is in
        let identifier : s.type_identifier ≡ identifier_of k = ap (λ t. t.type_identifier) is in
        rw (id, types, consts, identifier) refl

    built_is : built (with_scalar m k s) ≡ Some (finished s)
    built_is =
        ap with_declared_id (ap (λ t. record (with_scalar m k s) { ty = t }) (scalar_type_stays k).0)
        ∙ ap (option_map (λ n. record (with_scalar m k s) { decl_id = record { 0 = n } })) declared

    finished_is : (n : ℕ) → shape_without_spare (record (finished s) { id = record { 0 = n } }) ≡ scalar_shape m n k
    unfolding scalar_shape fresh_shape
    finished_is n =
        ap (λ t. record (finished (shape_without_spare s)) { ty = t; id = record { 0 = n } }) (scalar_type_stays k).1
        ∙ ap (λ t. record (finished t) { id = record { 0 = n } }) is
        ∙ ap (λ path. record (finished (fresh_shape (identifier_of k) layout.Unsized)) { module_path = path; id = record { 0 = n } }) (or_none (scalar_module k))

    -- the shape that is built is the scalar's, under the id that it gets
    pub scalar_built : (builder shape : Shape) → builder ≡ with_scalar m k s → Some shape ≡ built builder → (n : ℕ) → shape_without_spare (record shape { id = record { 0 = n } }) ≡ scalar_shape m n k
    scalar_built builder shape given so n =
        let e = built_is in
        let f = ap built given in
        let same : shape ≡ finished s = cc in
        ap (λ t. shape_without_spare (record t { id = record { 0 = n } })) same ∙ finished_is n

    -- it is never refused
    pub scalar_is_built : (builder : Shape) → builder ≡ with_scalar m k s → None ≡ built builder → ⊥
    scalar_is_built builder given none =
        let e = built_is in
        let f = ap built given in
        cc
