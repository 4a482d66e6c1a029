use Rattle.std.proofs.Common.{◌≡◌, ◌+◌, ◌-◌, ◌*◌, length, map, sym, ◌∙◌, arith}
use Rattle.std.proofs.lemmas.List.{length-map}
use Rattle.facet_type_name.proofs.NamePieces.{own_of_one, own_of_others}
use Rattle.facet_type_name.proofs.length.bracketed_bytes.Goals as goal

pub returns-then-count-eq1 : goal.returns-then-count-eq1
returns-then-count-eq1 c =
    let fields = c.args.fields.now in
    let ids = map (λ f. f.shape) fields in
    let one : length ids ≡ 1 = grind (arith, length-map fields (λ f. f.shape), c.if-count-eq1.true) in
    sym (own_of_one ids one)

pub returns-else-count-eq1 : goal.returns-else-count-eq1
returns-else-count-eq1 c =
    let fields = c.args.fields.now in
    let ids = map (λ f. f.shape) fields in
    let others : ¬ (length ids ≡ 1) = λ one. grind (arith, one, length-map fields (λ f. f.shape), c.if-count-eq1.false) in
    let same : 2 + c.between.result ≡ 2 + 2 * (length ids - 1) = grind (arith, length-map fields (λ f. f.shape), c.between.ensures) in
    same ∙ sym (own_of_others ids others)
