use Rattle.std.proofs.Common.{suc, ◌∙◌, ap, unwrap_or, slice_get}
use Rattle.facet_trees.specs.Structure.{part_shapes}
use Rattle.facet_trees.specs.declared.form.Form.TheVariants as form
use Rattle.facet_values.proofs.KindRows.{box_structure, boxed_slice_structure, list_structure, option_structure, result_structure}
use Rattle.facet_contain.proofs.HeldParts.{turn_of_one}
use Rattle.facet_contain.proofs.laws.part_shapes_are_in_definitions.Goals as goal

pub returns-clause-option : goal.returns-clause-option
returns-clause-option c = λ shapes s shape d found of is. ap (λ st. unwrap_or (slice_get (part_shapes st form.Present 1) 0) 0) (option_structure shapes s shape found d of is)

pub returns-clause-ok : goal.returns-clause-ok
returns-clause-ok c = λ shapes s shape d found of is. ap (λ st. unwrap_or (slice_get (part_shapes st form.Ok 1) 0) 0) (result_structure shapes s shape found d of is)

pub returns-clause-err : goal.returns-clause-err
returns-clause-err c = λ shapes s shape d found of is. ap (λ st. unwrap_or (slice_get (part_shapes st form.Err 1) 0) 0) (result_structure shapes s shape found d of is)

pub returns-clause-list : goal.returns-clause-list
returns-clause-list c = λ shapes s i shape d found of is.
    ap (λ st. unwrap_or (slice_get (part_shapes st form.List (suc i)) i) 0) (list_structure shapes s shape found d of is) ∙ ap (λ o. unwrap_or o 0) (turn_of_one d.t.0 i)

pub returns-clause-boxed_slice : goal.returns-clause-boxed_slice
returns-clause-boxed_slice c = λ shapes s i shape element found of is.
    ap (λ st. unwrap_or (slice_get (part_shapes st form.BoxedSlice (suc i)) i) 0) (boxed_slice_structure shapes s shape found element of is) ∙ ap (λ o. unwrap_or o 0) (turn_of_one element.0 i)

pub returns-clause-content : goal.returns-clause-content
returns-clause-content c = λ shapes s shape d content found of is points.
    ap (λ st. unwrap_or (slice_get (part_shapes st form.Box 1) 0) 0) (box_structure shapes s shape found d content of is points)
