use Rattle.std.proofs.Common.{◌≡◌, rules, true, ◌∷◌, ◌++◌, [], Some}
use Rattle.std.specs.Option.{option_copied}
use Rattle.facet_grammar.specs.Pieces.{pieces_behind}
use Rattle.facet_grammar.specs.Tokens.{takes, read_words}
use Rattle.facet_grammar.proofs.ReadingLoops.{words_step}
use Rattle.facet_grammar.proofs.token_reading.read_words.Goals as goal

pub loop-piece-preserved : goal.loop-piece-preserved
loop-piece-preserved g c =
    let k = c.args.kind in
    let of = g.W.Word.of in
    let rest = pieces_behind (option_copied c.loop-piece.rest) in
    let after = pieces_behind (option_copied c.in-Some.after) in
    let same : rest ≡ c.in-Some.piece.now ∷ after = search rules in
    let pass : takes k c.in-Some.piece.now ≡ true = search rules in
    let is : of c.in-Some.piece.now ≡ Some c.in-Some-2.word = search rules in
    let pushed : c.push.new.self ≡ c.loop-piece.words ++ c.in-Some-2.word ∷ [] = search rules in
    words_step k of c.loop-piece.words c.push.new.self rest c.in-Some.piece.now after c.in-Some-2.word (read_words k of (pieces_behind (option_copied c.args.behind))) same pass is pushed c.loop-piece.invariant
