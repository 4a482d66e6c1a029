-- Members without a list, set behind those with one.
use Rattle.std.proofs.Common.{◌≡◌, Option, Some, ap, ◌∙◌}
use Rattle.facet_base.specs.declared.layout.ShapeId.{ShapeId}
use Rattle.facet_base.specs.declared.type_name.NameForm.{NameForm}
use Rattle.facet_caps.specs.declared.type_ops.TypeOpsDirect.{TypeOpsDirect}
use Rattle.facet_caps.specs.declared.vtable.VTableDirect.{VTableDirect}
use Rattle.facet_def.specs.declared.def.Def.{Def}
use Rattle.facet_makers.specs.Offering.{with_record}
use Rattle.facet_shape.specs.WithoutSpare.{shape_without_spare}
use Rattle.facet_shape.specs.declared.shape.Shape.{Shape}

-- the definition and the form of the name
abbrev defined : Def → Option NameForm → Shape → Shape
defined d n s = record s { def = d; type_name = n }

-- the form of the name alone
abbrev named : Option NameForm → Shape → Shape
named n s = record s { type_name = n }

-- the definition and the form of a shape that wraps another
abbrev wrapping : Def → Option ShapeId → Option NameForm → Shape → Shape
wrapping d i n s = record s { def = d; inner = i; type_name = n }

-- it may be set before or after the lists are told by their items
pub filled_name : (v : VTableDirect) (o : TypeOpsDirect) (n : Option NameForm) (s offered row : Shape) → offered ≡ with_record v o s → shape_without_spare s ≡ row → shape_without_spare (record offered { type_name = n }) ≡ record (with_record v o row) { type_name = n }
unfolding with_record
filled_name v o n s offered row offers is =
    ap (λ (t : Shape). shape_without_spare (named n t)) offers
    ∙ ap (λ (t : Shape). named n (with_record v o t)) is

module _ (v : VTableDirect) (o : TypeOpsDirect) (n : Option NameForm) (s offered row : Shape) (d known : Def) where
  -- the same of them
  pub filled : offered ≡ with_record v o s → shape_without_spare s ≡ row → d ≡ known → shape_without_spare (record offered { def = d; type_name = n }) ≡ record (with_record v o row) { def = known; type_name = n }
  unfolding with_record
  filled offers is same =
      ap (λ (t : Shape). shape_without_spare (defined d n t)) offers
      ∙ ap (λ (t : Shape). defined d n (with_record v o t)) is
      ∙ ap (λ (e : Def). defined e n (with_record v o row)) same

  -- the same of those of a shape that wraps another
  pub filled_round : (i : ShapeId) → offered ≡ with_record v o s → shape_without_spare s ≡ row → d ≡ known → shape_without_spare (record offered { def = d; inner = Some i; type_name = n }) ≡ record (with_record v o row) { def = known; inner = Some i; type_name = n }
  unfolding with_record
  filled_round i offers is same =
      ap (λ (t : Shape). shape_without_spare (wrapping d (Some i) n t)) offers
      ∙ ap (λ (t : Shape). wrapping d (Some i) n (with_record v o t)) is
      ∙ ap (λ (e : Def). wrapping e (Some i) n (with_record v o row)) same
