-- The fixed texts of answers.
use Rattle.std.proofs.Common.{◌≡◌, ℕ, zero, suc, true, List, [], ◌∷◌, codes, nat_lt, refl, arith}
use Rattle.std.specs.List.{list_all}
use Rattle.std.specs.Str.{IsAscii, IsUtf8}
use Rattle.std.proofs.lemmas.Bool.{ltb-true, and_parts}
use Rattle.std.proofs.lemmas.Str.{IsUtf8-from_ascii}

ascii : (bytes : List ℕ) → list_all (λ b. nat_lt b 128) bytes ≡ true → IsAscii bytes
ascii [] all i = omega arith
ascii (b ∷ bytes) all zero = ltb-true b 128 (and_parts (nat_lt b 128) (list_all (λ c. nat_lt c 128) bytes) all).0
ascii (b ∷ bytes) all (suc i) = ascii bytes (and_parts (nat_lt b 128) (list_all (λ c. nat_lt c 128) bytes) all).1 i

pub end_utf8 : IsUtf8 (codes "end")
end_utf8 = IsUtf8-from_ascii (codes "end") (ascii (codes "end") refl)

pub bracket_utf8 : IsUtf8 (93 ∷ [])
bracket_utf8 = IsUtf8-from_ascii (93 ∷ []) (ascii (93 ∷ []) refl)
