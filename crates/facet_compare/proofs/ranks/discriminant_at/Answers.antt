use Rattle.std.proofs.Common.{ℤ, pos, w64, Some, ◌∙◌, ap, sym, arith, option_map, unwrap_or}
use Rattle.std.proofs.lemmas.Int.{to_z_pos}
use Rattle.std.proofs.lemmas.Option.{slice_get-get_or, slice_get_past}
use Rattle.facet_desc.specs.declared.variant.Variant.{Variant}
use Rattle.facet_compare.proofs.AnsweredByKind.{discriminant_there, read_back}
use Rattle.facet_compare.proofs.ranks.discriminant_at.Goals as goal

pub returns-in-Some : goal.returns-in-Some
returns-in-Some c =
    let variants = c.args.variants.now in
    let index = c.args.index in
    let variant = c.in-Some.variant.now in
    let lookup = c.in-Some.ensures.lookup in
    let is = slice_get-get_or variants index variant lookup.3.0 ∙ ap Some (sym lookup.1) in
    let one : Variant → ℤ = λ v. unwrap_or v.discriminant (pos index) in
    read_back c.unwrap_or.result c.unwrap_or.type_inv
    ∙ c.unwrap_or.ensures
    ∙ ap (unwrap_or variant.discriminant) (to_z_pos w64 index (omega arith))
    ∙ sym (ap (λ o. unwrap_or o (pos index)) (discriminant_there variants index ∙ ap (option_map one) is))

pub returns-in-None : goal.returns-in-None
returns-in-None c =
    let variants = c.args.variants.now in
    let index = c.args.index in
    let one : Variant → ℤ = λ v. unwrap_or v.discriminant (pos index) in
    to_z_pos w64 index (omega arith)
    ∙ sym (ap (λ o. unwrap_or o (pos index)) (discriminant_there variants index ∙ ap (option_map one) (slice_get_past variants index c.in-None.ensures.lookup.3)))
