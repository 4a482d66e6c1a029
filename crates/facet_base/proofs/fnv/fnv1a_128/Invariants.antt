use Rattle.std.proofs.Common.{◌≡◌, take}
use Rattle.facet_base.specs.Fnv.{fnv}
use Rattle.facet_base.proofs.fnv.fnv1a_128.Given as goal

abbrev pub invariant-loop-byte : goal.invariant-loop-byte
invariant-loop-byte l = l.hash ≡ fnv l.state (take l.byte-index l.bytes)
