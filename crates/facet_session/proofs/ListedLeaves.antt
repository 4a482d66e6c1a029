-- The list of leaves of an answer, made of the text of the leaves.
use Rattle.std.proofs.Common.{◌≡◌, ℕ, ◌<◌, ◌≤◌, List, [], ◌∷◌, ◌++◌, drop, length, length-append, codes, refl, sym, ap, ◌∙◌, subst, arith, append_assoc}
use Rattle.std.proofs.lemmas.Str.{IsUtf8-past_char, encode_ascii}
use Rattle.std.specs.Str.{IsUtf8}
use Rattle.facet_drop.specs.LeavesText.{leaves_text}
use Rattle.facet_leaf.specs.LeafModel.{LeafModel}
use Rattle.facet_session.specs.Turn.{listed, more_listed}

module _ {L : Type 0} (m : LeafModel L) where
  -- the leaves behind the first are their text and a bracket
  more_text : (xs : List L) → leaves_text m xs ++ 93 ∷ [] ≡ more_listed m xs
  more_text [] = refl
  more_text (x ∷ xs) = append_assoc (codes ", " ++ m.debug x) (leaves_text m xs) (93 ∷ []) ∙ ap (λ t. codes ", " ++ m.debug x ++ t) (more_text xs)

  fewer_more : (xs : List L) → length xs < length (more_listed m xs)
  fewer_more [] = omega arith
  fewer_more (x ∷ xs) = let rest = fewer_more xs in omega (arith, length-append (codes ", " ++ m.debug x) (more_listed m xs), length-append (codes ", ") (m.debug x))

  -- a list has at least a byte for each leaf
  pub fewer_listed : (label : List ℕ) (xs : List L) → length xs ≤ length (listed m label xs)
  fewer_listed label [] = omega arith
  fewer_listed label (x ∷ xs) =
      let rest = fewer_more xs in
      omega (arith, length-append (label ++ m.debug x) (more_listed m xs))

  -- where there is a leaf, the list is the label, the text without the comma and the space at its start, and a bracket
  pub listed_text : (label list : List ℕ) (xs : List L) → list ≡ leaves_text m xs → 2 ≤ length list → label ++ drop 2 list ++ 93 ∷ [] ≡ listed m label xs
  listed_text label list [] is long = absurd (omega (arith, ap length is))
  listed_text label list (x ∷ xs) is long =
      ap (λ t. label ++ drop 2 t ++ 93 ∷ []) is
      ∙ ap (λ t. t ++ 93 ∷ []) (sym (append_assoc label (m.debug x) (leaves_text m xs)))
      ∙ append_assoc (label ++ m.debug x) (leaves_text m xs) (93 ∷ [])
      ∙ ap (λ t. label ++ m.debug x ++ t) (more_text xs)

  -- and without one it is empty
  pub nothing_listed : (label list : List ℕ) (xs : List L) → list ≡ leaves_text m xs → length list < 2 → listed m label xs ≡ []
  nothing_listed label list [] is short = refl
  nothing_listed label list (x ∷ xs) is short = absurd (omega (arith, ap length is))

-- what stands behind a comma and a space is UTF-8 where the whole is
pub behind_separator : (list : List ℕ) {L : Type 0} (m : LeafModel L) (xs : List L) → list ≡ leaves_text m xs → 2 ≤ length list → IsUtf8 list → IsUtf8 (drop 2 list)
behind_separator list m [] is long whole = absurd (omega (arith, ap length is))
behind_separator list m (x ∷ xs) is long whole =
    let rest = m.debug x ++ leaves_text m xs in
    let all : IsUtf8 (44 ∷ 32 ∷ rest) = subst IsUtf8 is whole in
    let comma = ap (λ bytes. bytes ++ 32 ∷ rest) (sym (encode_ascii 44 (omega arith))) in
    let space = ap (λ bytes. bytes ++ rest) (sym (encode_ascii 32 (omega arith))) in
    let tail = IsUtf8-past_char (32 ∷ rest) rest 32 (IsUtf8-past_char (44 ∷ 32 ∷ rest) (32 ∷ rest) 44 all comma) space in
    subst (λ t. IsUtf8 (drop 2 t)) (sym is) tail
