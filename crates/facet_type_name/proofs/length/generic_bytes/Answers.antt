use Rattle.std.proofs.Common.{◌≡◌, ℕ, ◌+◌, ◌-◌, ◌*◌, min, length, map, sym, ◌∙◌, arith}
use Rattle.std.proofs.lemmas.List.{length-map}
use Rattle.facet_type_name.proofs.NamePieces.{own_generic}
use Rattle.facet_type_name.proofs.length.generic_bytes.Goals as goal

pub returns : goal.returns
returns c =
    let word = c.args.word.now in
    let parameters = c.args.parameters.now in
    let ids = map (λ p. p.shape) parameters in
    let same : length word + 2 + c.between.result ≡ length word + 2 + 2 * (min c.args.n (length ids) - 1) = grind (arith, length-map parameters (λ p. p.shape), c.between.ensures, c.min.ensures) in
    same ∙ sym (own_generic word c.args.n ids)
