use Rattle.std.proofs.Common.{◌≡◌, ◌+◌, ◌*◌, ◌%◌, ◌^◌, drop, fold}
use Rattle.facet_base.specs.Text.{tail_of}
use Rattle.facet_base.proofs.text.read_tail.Given as goal

abbrev pub invariant-loop-byte : goal.invariant-loop-byte
invariant-loop-byte l = fold (λ n b. (n * 256 % 2 ^ 64 + b) % 2 ^ 64) l.tail (drop l.byte-index l.byte-items) ≡ tail_of l.bytes
