use Rattle.std.proofs.Common.{[], ◌++◌, ap, sym, ◌∙◌}
use Rattle.std.proofs.lemmas.List.{append-nil}
use Rattle.std.proofs.lemmas.Result.{IfOk-equal}
use Rattle.std.specs.Option.{option_map_or, option_to_list}
use Rattle.facet_outline.specs.Part.{key_of_kind}
use Rattle.facet_causes.specs.KeyNotOrd.{keys_of}
use Rattle.facet_causes.specs.Reading.{indices}
use Rattle.facet_causes.proofs.KeysOfShape.{keys_found}
use Rattle.facet_causes.proofs.Readings.{found, missing}
use Rattle.facet_causes.proofs.keys.push_keys.Goals as goal

pub returns-in-Some : goal.returns-in-Some
returns-in-Some c =
    let shapes = c.args.shapes.now in
    let shape = c.in-Some.shape.now in
    let old = c.args.to.now.items in
    let there = keys_found shapes c.args.s shape (found shapes c.args.s c.get.result c.in-Some.shape c.get.ensures c.in-Some.is) in
    let key = c.key_of_kind.ensures ∙ ap (λ k. key_of_kind k shape.def) c.kind_in.ensures in
    IfOk-equal c.push_key.result c.push_key.new.to.items (old ++ indices (option_to_list c.key_of_kind.result)) _ c.push_key.ensures
    (ap (λ o. old ++ indices (option_to_list o)) key ∙ ap (λ ids. old ++ indices ids) there)

pub returns-in-None : goal.returns-in-None
returns-in-None c =
    let shapes = c.args.shapes.now in
    let old = c.args.to.now.items in
    let none = missing shapes c.args.s c.get.result c.get.ensures c.in-None.is in
    sym (append-nil old) ∙ ap (λ o. old ++ indices (option_map_or (keys_of shapes) o [])) (sym none)
