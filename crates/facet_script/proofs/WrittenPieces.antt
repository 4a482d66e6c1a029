-- Pieces of a text, one behind another, at a sink.
use Rattle.std.proofs.Common.{ℕ, ◌+◌, ◌<◌, List, length, take, drop, Option, sym, arith}
use Rattle.std.proofs.lemmas.List.{take-append-drop, length-take-le}
use Rattle.std.proofs.Math.Seq.{take-add}
use Rattle.std.proofs.KnownBytes.{Appends-trans, Appends-kept}
use Rattle.std.specs.Io.KnownBytes.{Appends, Keeps}
use Rattle.facet_script.specs.Output.{IsProperPrefix, AppendsSome}

-- the next piece is taken
pub appends_next : (a b c : Option (List ℕ)) (whole : List ℕ) (n m : ℕ) → Appends a b (take n whole) → Appends b c (take m (drop n whole)) → Appends a c (take (n + m) whole)
appends_next a b c whole n m first second = rw (take-add n m whole) (Appends-trans a b c (take n whole) (take m (drop n whole)) first second)

-- a beginning was taken, and then a write failed
pub appends_beginning : (a b c : Option (List ℕ)) (whole : List ℕ) (n : ℕ) → n < length whole → Appends a b (take n whole) → Keeps b c → AppendsSome a c (λ bytes. IsProperPrefix bytes whole)
appends_beginning a b c whole n short first kept = (
  take n whole,
  Appends-kept a b c (take n whole) first kept,
  ((drop n whole, sym (take-append-drop n whole)), omega (arith, length-take-le n whole (omega arith))),
)
