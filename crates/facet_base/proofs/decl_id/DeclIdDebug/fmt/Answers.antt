use Rattle.std.proofs.Common.{◌≡◌, ℕ, ◌+◌, ◌<◌, ◌≤◌, true, List, ◌++◌, Some, take, get_or, length, rules, refl, sym, ap, ◌∙◌, arith}
use Rattle.std.specs.Prelude.{codes}
use Rattle.std.specs.Int.{w128, to_be_bytes}
use Rattle.std.specs.List.{flat_map}
use Rattle.std.specs.Fmt.{styled_digits_output}
use Rattle.std.proofs.lemmas.Grind.{put_two}
use Rattle.std.proofs.lemmas.Fmt.{hex_byte}
use Rattle.std.proofs.lemmas.List.{take_more, take_all, flat_map_more}
use Rattle.facet_base.specs.DeclId.{hex_digits, decl_id_text}
use Rattle.facet_base.proofs.decl_id.DeclIdDebug.fmt.Goals as goal

-- the digits of one byte more
more : (start bytes : List ℕ) (i : ℕ) → i < length bytes
    → (start ++ flat_map hex_digits (take i bytes)) ++ hex_digits (get_or bytes i 0) ≡ start ++ flat_map hex_digits (take (i + 1) bytes)
more start bytes i below =
    flat_map_more hex_digits start (take i bytes) (get_or bytes i 0) ∙ ap (λ xs. start ++ flat_map hex_digits xs) (sym (take_more bytes i 0 below))

-- the bracket behind the digits of all bytes
last : (n i : ℕ) (bytes : List ℕ) → bytes ≡ to_be_bytes w128 n → 16 ≤ i
    → (codes "DeclId(0x" ++ flat_map hex_digits (take i bytes)) ++ codes ")" ≡ decl_id_text n
unfolding decl_id_text
last n i bytes same end =
    let size : length bytes ≡ 16 = ap length same in
    ap (λ xs. (codes "DeclId(0x" ++ flat_map hex_digits xs) ++ codes ")") (take_all i bytes (omega arith) ∙ same)

pub loop-byte-preserved : goal.loop-byte-preserved
loop-byte-preserved g c = λ plain.
    let bytes = c.to_be_bytes-byte-items.result in
    let byte = get_or bytes c.loop-byte.byte-index 0 in
    let size : length bytes ≡ 16 = ap length c.to_be_bytes-byte-items.ensures in
    let fits : byte < 256 = search rules in
    let digits : styled_digits_output c.in_radix.result c.laid_out.result ≡ Some (hex_digits byte) = rw (c.in_radix.ensures, c.laid_out.ensures) (ap Some (hex_byte _ byte fits)) in
    let written = rw digits at c.in_ok-write.ensures.writes in
    let so_far = c.loop-byte.invariant plain in
    put_two _ _ _ _ _ _ _ so_far (written so_far.plain (refl {a = true})) (more (codes "DeclId(0x") bytes c.loop-byte.byte-index (omega (arith, c.loop-byte-test.true)))

pub returns : goal.returns
returns g c = record {
  writes = λ plain ok.
      let so_far = c.loop-byte.invariant plain in
      put_two _ _ _ _ _ _ _ so_far (c.write_str-2.ensures.writes so_far.plain ok) (last c.args.self.now.0 c.loop-byte.byte-index _ c.to_be_bytes-byte-items.ensures c.loop-byte-test.false);
}
