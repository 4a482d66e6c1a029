use Rattle.std.proofs.Common.{◌<◌, ◌++◌, All, Any, [], length, slice_get, ap, subst, sym, ◌∙◌, arith}
use Rattle.std.specs.Option.{option_map_or}
use Rattle.facet_causes.specs.KeyNotOrd.{HasKeyWithoutOrder, keys_of}
use Rattle.facet_causes.specs.Reading.{OfShape, indices, lacks_order, parts_at}
use Rattle.facet_causes.specs.declared.cause.SealCause.TheVariants as cause
use Rattle.facet_causes.proofs.Found.{answer_alike, answer_as}
use Rattle.facet_causes.proofs.Inside.{parts_inside, starts_inside}
use Rattle.facet_causes.proofs.KeysOfShape.{keys_meet, meet_keys}
use Rattle.facet_graph.specs.Reach.{ReachesBad}
use Rattle.facet_causes.proofs.keys.has_key_without_order.Goals as goal

pub reaches_bad-requires-clause-edges : goal.reaches_bad-requires-clause-edges
reaches_bad-requires-clause-edges g c = parts_inside g.L.Leaf.model c.args.shapes.now (λ s below. c.requires.none_before cause.UnknownShape s (omega arith) below)

pub reaches_bad-requires-clause-starts : goal.reaches_bad-requires-clause-starts
reaches_bad-requires-clause-starts g c =
    let shapes = c.args.shapes.now in
    let keys = indices (option_map_or (keys_of shapes) (slice_get shapes c.args.s) []) in
    let pushed = c.in_ok-push_keys.ensures ∙ ap (λ xs. xs ++ keys) c.new-starts.ensures.items in
    subst (All (λ u. u < length shapes)) (sym pushed) (starts_inside g.L.Leaf.model shapes (λ s below. c.requires.none_before cause.UnknownShape s (omega arith) below) c.args.s)

pub returns-clause-met : goal.returns-clause-met
returns-clause-met g c =
    let shapes = c.args.shapes.now in
    let keys = indices (option_map_or (keys_of shapes) (slice_get shapes c.args.s) []) in
    let pushed = c.in_ok-push_keys.ensures ∙ ap (λ xs. xs ++ keys) c.new-starts.ensures.items in
    let of_keys = answer_as c.reaches_bad.result _ _ (ap (Any (ReachesBad (parts_at shapes) (lacks_order shapes))) pushed) c.reaches_bad.ensures.found in
    answer_alike c.reaches_bad.result (Any (ReachesBad (parts_at shapes) (lacks_order shapes)) keys) (OfShape (HasKeyWithoutOrder shapes) (slice_get shapes c.args.s)) (keys_meet shapes (slice_get shapes c.args.s)) (meet_keys shapes (slice_get shapes c.args.s)) of_keys
