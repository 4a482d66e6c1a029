-- Where a script is cut.
use Rattle.std.proofs.Common.{◌≡◌, ℕ, ◌+◌, ◌<◌, List, [], ◌∷◌, length, take, drop, Bool, true, false, cond, not, refl, ap, sym, ◌∙◌, arith, suc, one-add}
use Rattle.std.specs.List.{before_first, after_first, position_or_len, onto_first}
use Rattle.facet_session.specs.Script.{is_newline, lines}

first_by : (b : ℕ) (bytes : List ℕ) → onto_first b (lines bytes) ≡ (b ∷ before_first is_newline bytes) ∷ lines (after_first is_newline bytes) → (test : Bool)
    → cond test ([] ∷ lines bytes) (onto_first b (lines bytes)) ≡ take (cond (not test) (1 + position_or_len is_newline bytes) 0) (b ∷ bytes) ∷ lines (drop (cond (not test) (1 + position_or_len is_newline bytes) 0 + 1) (b ∷ bytes))
first_by b bytes more true = refl
first_by b bytes more false =
    let n = position_or_len is_newline bytes in
    let shifted : suc n + 1 ≡ suc (n + 1) = omega arith in
    rw (one-add n, shifted) more

-- the first line goes up to the first newline, or to the end where there is none
pub lines_cut : (b : ℕ) (bytes : List ℕ) → lines (b ∷ bytes) ≡ before_first is_newline (b ∷ bytes) ∷ lines (after_first is_newline (b ∷ bytes))
lines_cut b [] = first_by b [] refl (is_newline b)
lines_cut b (c ∷ bytes) = first_by b (c ∷ bytes) (ap (onto_first b) (lines_cut c bytes)) (is_newline b)

-- the same for a script that isn't empty, and the two parts
pub lines_parted : (script line rest : List ℕ) → 0 < length script → line ≡ before_first is_newline script → rest ≡ after_first is_newline script → lines script ≡ line ∷ lines rest
lines_parted [] line rest some first others = absurd (omega arith)
lines_parted (b ∷ bytes) line rest some first others = lines_cut b bytes ∙ ap (λ l. l ∷ lines (after_first is_newline (b ∷ bytes))) (sym first) ∙ ap (λ r. line ∷ lines r) (sym others)
