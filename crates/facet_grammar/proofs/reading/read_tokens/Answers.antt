use Rattle.std.proofs.Common.{◌≡◌, rules, ◌+◌, ◌∷◌, ◌++◌, [], drop, Some, ap, arith}
use Rattle.std.specs.Option.{option_copied}
use Rattle.facet_grammar.specs.declared.token.Part.TheVariants.{Token}
use Rattle.facet_grammar.specs.Pieces.{pieces_behind}
use Rattle.facet_grammar.specs.Tokens.{read_token}
use Rattle.facet_grammar.proofs.ReadingLoops.{part_left, token_step, some_left, none_left}
use Rattle.facet_grammar.proofs.reading.read_tokens.Goals as goal

pub returns-in-Some-rest : goal.returns-in-Some-rest
returns-in-Some-rest c =
    some_left c.args.form.now c.loop-part.part-index c.loop-part.tokens.items (option_copied c.loop-part.rest) _ _ (omega arith) (ap option_copied c.in-Some-rest.is) c.loop-part.invariant

pub returns-in-None-rest : goal.returns-in-None-rest
returns-in-None-rest c =
    none_left c.args.form.now c.loop-part.part-index c.loop-part.tokens.items (option_copied c.loop-part.rest) _ (omega arith) (ap option_copied c.in-None-rest.is) c.loop-part.invariant

pub loop-part-preserved : goal.loop-part-preserved
loop-part-preserved c =
    let form = c.args.form.now in
    let i = c.loop-part.part-index in
    let rest = pieces_behind (option_copied c.loop-part.rest) in
    let after = pieces_behind (option_copied c.in-Some-2.after) in
    let here : drop i form ≡ Token c.in-Token.kind ∷ drop (i + 1) form = part_left form i _ _ (omega (arith, c.loop-part-test.true)) c.in-Token.is in
    let read : read_token c.in-Token.kind rest ≡ Some (c.in-Some-2.token, after) = search rules in
    let pushed : c.push_back.new.self.items ≡ c.loop-part.tokens.items ++ c.in-Some-2.token ∷ [] = search rules in
    token_step (drop i form) (drop (i + 1) form) c.in-Token.kind c.loop-part.tokens.items c.push_back.new.self.items rest after c.in-Some-2.token _ here read pushed c.loop-part.invariant
