use Rattle.std.proofs.Common.{◌≡◌, ◌%◌, arith, false}
use Rattle.std.proofs.lemmas.Fmt.{hex_one_digit, hex_two_digits}
use Rattle.facet_leaf.proofs.TextsInParts.{written_at_once}
use Rattle.facet_leaf.proofs.scalars.texts.write_code.Goals as goal

pub returns-then-byte-lt16 : goal.returns-then-byte-lt16
returns-then-byte-lt16 g c =
    let same : c.args.byte % 16 ≡ c.args.byte = omega arith in
    written_at_once _ _ _ _ _ (rw (hex_one_digit false c.args.byte (omega arith), c.hex_digit-last.ensures, same)) c.write.ensures.appended c.write.ensures.refused

pub returns-else-byte-lt16 : goal.returns-else-byte-lt16
returns-else-byte-lt16 g c =
    written_at_once _ _ _ _ _ (rw (hex_two_digits false c.args.byte (omega arith) (omega arith), c.hex_digit-last.ensures, c.hex_digit.ensures)) c.write-else-byte-lt16.ensures.appended c.write-else-byte-lt16.ensures.refused
