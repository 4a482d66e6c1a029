-- The id of a type's declaration.
use Rattle.std.specs.Prelude.{ℕ, ◌/◌, ◌%◌, List, [], ◌∷◌, ◌++◌, false, codes}
use Rattle.std.specs.List.{flat_map}
use Rattle.std.specs.Int.{w128, to_be_bytes}
use Rattle.std.specs.Fmt.{digit_glyph}

-- what is hashed for a type of another crate: `@`, its module path, `#`, its kind, `#` and its identifier
abbrev pub extern_text : List ℕ → List ℕ → List ℕ → List ℕ
extern_text module_path kind identifier = codes "@" ++ module_path ++ codes "#" ++ kind ++ codes "#" ++ identifier

-- the two lower-case hexadecimal digits of a byte
abbrev pub hex_digits : ℕ → List ℕ
hex_digits byte = digit_glyph false (byte / 16) ∷ digit_glyph false (byte % 16) ∷ []

-- `DeclId(0x`, the 32 digits of the number, and `)`
unfoldable pub decl_id_text : ℕ → List ℕ
decl_id_text n = codes "DeclId(0x" ++ flat_map hex_digits (to_be_bytes w128 n) ++ codes ")"
