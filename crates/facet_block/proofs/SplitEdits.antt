-- The front and the back of a list once two items of the front were exchanged, or its last item was moved.
use Rattle.std.proofs.Common.{◌≡◌, ℕ, ◌+◌, ◌-◌, ◌<◌, ◌≤◌, List, [], ◌∷◌, ◌++◌, take, drop, length, slice_set, swap, ap, sym, ◌∙◌, arith, append_assoc, length-take, length-drop}
use Rattle.std.specs.List.{slice_rotate_right}
use Rattle.std.proofs.Math.Seq.{take-set-lt}
use Rattle.std.proofs.Math.ListN.{get_or}
use Rattle.std.proofs.lemmas.List.{drop-set-lt, get_or-take, drop-take, take-take, drop-drop}
use Rattle.std.proofs.lemmas.List.Edits.{swap_is}
use Rattle.std.proofs.lemmas.Slice.{take-put_mid, drop-put_mid}
use borrow.Rule.Slice.PartMut.{put_mid, mid_of}
use Rattle.facet_block.specs.Seq.{last_moved_to}

module _ {A : Type 0} where
  -- two items of the front are exchanged
  pub take_swap : (n : ℕ) (xs : List A) (i j : ℕ) → n ≤ length xs → i < n → j < n → take n (swap xs i j) ≡ swap (take n xs) i j
  take_swap n [] i j inside first second = absurd (omega arith)
  take_swap n (d ∷ ds) i j inside first second =
      let xs = d ∷ ds in
      let front : length (take n xs) ≡ n = omega (arith, length-take n xs) in
      let x = get_or xs i d in
      let y = get_or xs j d in
      ap (take n) (sym (swap_is xs i j d (omega arith) (omega arith)))
      ∙ (take-set-lt n (slice_set xs i y) j x second
      ∙ (ap (λ zs. slice_set zs j x) (take-set-lt n xs i y first)
      ∙ (ap (λ z. slice_set (slice_set (take n xs) i z) j x) (sym (get_or-take n xs j d second))
      ∙ (ap (λ z. slice_set (slice_set (take n xs) i (get_or (take n xs) j d)) j z) (sym (get_or-take n xs i d first))
      ∙ swap_is (take n xs) i j d (omega arith) (omega arith)))))

  -- the back stays
  pub drop_swap : (n : ℕ) (xs : List A) (i j : ℕ) → n ≤ length xs → i < n → j < n → drop n (swap xs i j) ≡ drop n xs
  drop_swap n [] i j inside first second = absurd (omega arith)
  drop_swap n (d ∷ ds) i j inside first second =
      let xs = d ∷ ds in
      let x = get_or xs i d in
      let y = get_or xs j d in
      ap (drop n) (sym (swap_is xs i j d (omega arith) (omega arith)))
      ∙ (drop-set-lt n (slice_set xs i y) j x second ∙ drop-set-lt n xs i y first)

  -- to rotate the elements from index i on by one moves the last one to index i
  rotated_from : (i : ℕ) (xs : List A) → i < length xs → take i xs ++ slice_rotate_right (drop i xs) 1 ≡ last_moved_to i xs
  rotated_from i xs below =
      let last : ℕ = length xs - 1 in
      let past : length (drop i xs) - 1 ≡ last - i = omega (arith, length-drop i xs) in
      let whole : i + (last - i) ≡ last = omega arith in
      let rotated : slice_rotate_right (drop i xs) 1 ≡ drop (last - i) (drop i xs) ++ take (last - i) (drop i xs) =
      ap (λ k. drop k (drop i xs) ++ take k (drop i xs)) {x = length (drop i xs) - 1} {y = last - i} past in
      let end : drop (last - i) (drop i xs) ≡ drop last xs = drop-drop (last - i) i xs ∙ ap (λ k. drop k xs) whole in
      let others : take (last - i) (drop i xs) ≡ drop i (take last xs) = sym (drop-take i (last - i) xs) ∙ ap (λ k. drop i (take k xs)) whole in
      ap (λ ys. ys ++ slice_rotate_right (drop i xs) 1) (sym (take-take i last xs (omega arith)))
      ∙ (ap (λ ys. take i (take last xs) ++ ys) (rotated ∙ (ap (λ ys. ys ++ take (last - i) (drop i xs)) end ∙ ap (λ ys. drop last xs ++ ys) others))
      ∙ sym (append_assoc (take i (take last xs)) (drop last xs) (drop i (take last xs))))

  -- the last element of the front is moved to index i
  pub take_moved : (n i : ℕ) (xs ys : List A) → i < n → n ≤ length xs → length ys ≡ n - i → ys ≡ slice_rotate_right (mid_of i (n - i) xs) 1
      → take n (put_mid i (n - i) xs ys) ≡ last_moved_to i (take n xs)
  take_moved n i xs ys below inside len is =
      let whole : n ≡ i + (n - i) = omega arith in
      let middle : drop i (take n xs) ≡ mid_of i (n - i) xs = ap (λ k. drop i (take k xs)) whole ∙ drop-take i (n - i) xs in
      take-put_mid i (n - i) xs ys n (omega arith) (omega arith)
      ∙ (ap (λ zs. take i xs ++ zs) (is ∙ ap (λ zs. slice_rotate_right zs 1) (sym middle))
      ∙ (ap (λ zs. zs ++ slice_rotate_right (drop i (take n xs)) 1) (sym (take-take i n xs (omega arith)))
      ∙ rotated_from i (take n xs) (omega (arith, length-take n xs))))

  -- the back stays
  pub drop_moved : (n i : ℕ) (xs ys : List A) → i < n → n ≤ length xs → length ys ≡ n - i → drop n (put_mid i (n - i) xs ys) ≡ drop n xs
  drop_moved n i xs ys below inside len = drop-put_mid i (n - i) xs ys n (omega arith) (omega arith) len
