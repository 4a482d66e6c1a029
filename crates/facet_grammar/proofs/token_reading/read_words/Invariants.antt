use Rattle.std.proofs.Common.{◌≡◌, length, option_map}
use Rattle.std.specs.Option.{option_copied}
use Rattle.facet_grammar.specs.Pieces.{pieces_behind}
use Rattle.facet_grammar.specs.Tokens.{read_words}
use Rattle.facet_grammar.proofs.ReadingLoops.{put_before}
use Rattle.facet_grammar.proofs.token_reading.read_words.Given as goal

abbrev pub invariant-loop-piece : goal.invariant-loop-piece
invariant-loop-piece g l =
    option_map (put_before l.words) (read_words l.kind g.W.Word.of (pieces_behind (option_copied l.rest)))
    ≡ read_words l.kind g.W.Word.of (pieces_behind (option_copied l.behind))

abbrev pub decreases-loop-piece : goal.decreases-loop-piece
decreases-loop-piece g l = length (pieces_behind (option_copied l.rest))
