-- What is built follows from the items of a shape's lists.
use Rattle.std.proofs.Common.{◌≡◌, ℕ, ◌==◌, Option, None, Some, if◌then◌else◌, option_map, refl, ap, ◌∙◌}
use Rattle.facet_base.specs.DeclId.{extern_text}
use Rattle.facet_base.specs.Fnv.{fnv, fnv_start}
use Rattle.facet_def.specs.Def.{type_of}
use Rattle.facet_def.specs.declared.def.Def.{Def}
use Rattle.facet_def.specs.declared.def.Def.TheVariants as def
use Rattle.facet_desc.specs.WithoutSpare.{ty_without_spare}
use Rattle.facet_desc.specs.declared.ty.Ty.{Ty}
use Rattle.facet_desc.specs.declared.ty.Ty.TheVariants as ty
use Rattle.facet_makers.proofs.KindTexts.{kind_by_items}
use Rattle.facet_shape.specs.ShapeBuilder.{built, declared_id, has_parameters, type_or_default, with_declared_id, with_resolved_type}
use Rattle.facet_shape.specs.WithoutSpare.{shape_without_spare}
use Rattle.facet_shape.specs.declared.shape.Shape.{Shape}

default_by_items : (d : Def) → type_of d ≡ ty_without_spare (type_of d)
default_by_items (def.Array a) = refl
default_by_items (def.Slice s) = refl
default_by_items _ = refl

type_by_items : (t : Ty) (d : Def) → type_or_default (ty_without_spare t) d ≡ ty_without_spare (type_or_default t d)
type_by_items ty.Undefined d = default_by_items d
type_by_items (ty.Primitive p) d = refl
type_by_items (ty.Sequence s) d = refl
type_by_items (ty.User u) d = refl
type_by_items (ty.Pointer p) d = refl

id_by_items : (s : Shape) → declared_id (shape_without_spare s) ≡ declared_id s
id_by_items s =
    ap (λ word. if s.decl_id.0 == 0 then (if has_parameters s then option_map (λ path. fnv fnv_start (extern_text path word s.type_identifier)) s.module_path else Some (fnv fnv_start s.type_identifier)) else Some s.decl_id.0)
    (kind_by_items s.ty)

numbered : (s : Shape) (found : Option ℕ) → option_map (λ n. record (shape_without_spare s) { decl_id = record { 0 = n } }) found ≡ option_map shape_without_spare (option_map (λ n. record s { decl_id = record { 0 = n } }) found)
numbered s None = refl
numbered s (Some n) = refl

pub built_by_items : (s : Shape) → built (shape_without_spare s) ≡ option_map shape_without_spare (built s)
built_by_items s =
    let r = with_resolved_type s in
    ap (λ t. with_declared_id (record (shape_without_spare s) { ty = t })) (type_by_items s.ty s.def)
    ∙ ap (option_map (λ n. record (shape_without_spare r) { decl_id = record { 0 = n } })) (id_by_items r)
    ∙ numbered r (declared_id r)
