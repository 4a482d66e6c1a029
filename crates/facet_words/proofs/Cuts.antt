-- A text cut at the first byte that passes a test.
use Rattle.std.proofs.Common.{◌≡◌, ℕ, ◌<◌, Bool, List, [], ◌∷◌, length, sym, ◌∙◌, arith}
use Rattle.std.specs.List.{position_or_len, before_first, after_first, slice_split}
use Rattle.std.proofs.lemmas.List.Splits.{slice_split_none, slice_split_first}
use Rattle.std.proofs.lemmas.List.Sums.{fails_before_first}

-- the front of a cut and the parts of its back are the parts
pub cut_some : (test : ℕ → Bool) (s front back : List ℕ) → front ≡ before_first test s → back ≡ after_first test s → position_or_len test s < length s → front ∷ slice_split test back ≡ slice_split test s
cut_some test s front back p q within = (λ i. p i ∷ slice_split test (q i)) ∙ sym (slice_split_first test s 0 within)

-- a text without such a byte is one part
pub cut_none : (test : ℕ → Bool) (s : List ℕ) → position_or_len test s ≡ length s → s ∷ [] ≡ slice_split test s
cut_none test s e = sym (slice_split_none test s (λ k d h. fails_before_first test s k d (omega arith)))
