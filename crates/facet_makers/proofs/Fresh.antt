-- The shape with which a maker begins, as it is built.
use Rattle.std.proofs.Common.{◌≡◌, ℕ, List, [], None, Some, option_map, refl, ap, ◌∙◌}
use Rattle.facet_base.specs.Fnv.{fnv, fnv_start}
use Rattle.facet_base.specs.declared.decl_id.DeclId.{DeclId}
use Rattle.facet_base.specs.declared.layout.ShapeLayout.{ShapeLayout}
use Rattle.facet_base.specs.declared.layout.ShapeLayout.TheVariants as layout
use Rattle.facet_shape.specs.ShapeBuilder.{built, declared_id, fresh_shape}
use Rattle.facet_shape.specs.WithoutSpare.{shape_without_spare}
use Rattle.facet_shape.specs.declared.shape.Shape.{Shape}
use Rattle.facet_makers.specs.Types.{opaque}

module _ (identifier : List ℕ) (l : ShapeLayout) (s : Shape) (is : shape_without_spare s ≡ fresh_shape identifier layout.Unsized) where
  abbrev laid_out : Shape
  laid_out = record s { layout = l; ty = opaque }

  hashed : declared_id laid_out ≡ Some (fnv fnv_start identifier)
  unfolding fresh_shape
  hashed =
      let id : s.decl_id.0 ≡ 0 = ap (λ t. t.decl_id.0) is in
      let types : s.type_params.items ≡ [] = ap (λ t. t.type_params.items) is in
      let consts : s.const_params.items ≡ [] = ap (λ t. t.const_params.items) is in
      let text : s.type_identifier ≡ identifier = ap (λ t. t.type_identifier) is in
      rw (id, types, consts, text) refl

  built_is : built laid_out ≡ Some (record laid_out { decl_id = record { 0 = fnv fnv_start identifier } })
  built_is = ap (option_map (λ n. record laid_out { decl_id = record { 0 = n } })) hashed

  -- it is never refused
  pub fresh_is_built : (builder : Shape) → builder ≡ laid_out → None ≡ built builder → ⊥
  fresh_is_built builder given none =
      let e = built_is in
      let f = ap built given in
      cc

  -- whatever number it then gets, it is the fresh shape with that number
  pub fresh_built : (builder shape : Shape) → builder ≡ laid_out → Some shape ≡ built builder → (d : DeclId) → shape_without_spare (record shape { decl_id = d }) ≡ record (fresh_shape identifier l) { decl_id = d; ty = opaque }
  unfolding fresh_shape
  fresh_built builder shape given so d =
      let e = built_is in
      let f = ap built given in
      let same : shape ≡ record laid_out { decl_id = record { 0 = fnv fnv_start identifier } } = cc in
      ap (λ (t : Shape). shape_without_spare (record t { decl_id = d })) same ∙ ap (λ (t : Shape). record t { layout = l; decl_id = d; ty = opaque }) is
