-- A text that is written in parts.
use Rattle.std.proofs.Common.{◌≡◌, ℕ, suc, ◌+◌, ◌-◌, ◌<◌, ◌≤◌, List, [], ◌∷◌, ◌++◌, length, take, drop, get_or, Result, Ok, Err, refl, sym, ap, subst, ◌∙◌, arith, append_assoc, drop-cons, ⊎_elim}
use Rattle.std.proofs.lemmas.Bool.{cases_lt}
use Rattle.std.proofs.lemmas.List.{append-nil, take-append-drop, drop-drop, get_or-take, get_or-drop, length-take-le, length-drop}
use Rattle.std.proofs.Math.Seq.{drop-length}
use Rattle.std.proofs.lemmas.List.Concat.{flat_map-append}
use Rattle.std.specs.List.{flat_map}
use Rattle.std.specs.Result.{OnOk, OnErr}
use Rattle.facet_base.specs.Write.{HoldsText, IsPrefix}

-- what was written is the beginning of the text
abbrev pub IsBegun : List ℕ → List ℕ → List ℕ → Type 0
IsBegun before now text = (front : List ℕ) × IsPrefix front text × (now ≡ before ++ front)

-- the rest of the whole text is left to be written
pub record IsLeft (before now rest whole : List ℕ) : Type 0 where
  pub front : List ℕ
  pub written : now ≡ before ++ front
  pub parts : whole ≡ front ++ rest

-- once a part of the rest is written, what is behind it is left
pub left_after_part : (before now after part rest whole : List ℕ) → IsLeft before now (part ++ rest) whole → after ≡ now ++ part → IsLeft before after rest whole
left_after_part before now after part rest whole h e = record {
  front = h.front ++ part;
  written = e ∙ ap (λ xs. xs ++ part) h.written ∙ append_assoc before h.front part;
  parts = h.parts ∙ sym (append_assoc h.front part rest);
}

-- once the beginning of such a part is written, the whole text is begun
pub begun_within_part : (before now after part rest whole : List ℕ) → IsLeft before now (part ++ rest) whole → IsBegun now after part → IsBegun before after whole
begun_within_part before now after part rest whole h s =
    let parts : whole ≡ (h.front ++ s.0) ++ (s.1.0 ++ rest) = h.parts ∙ ap (λ xs. h.front ++ (xs ++ rest)) s.1.1 ∙ simp append_assoc in
    (h.front ++ s.0, (s.1.0 ++ rest, parts), s.2 ∙ ap (λ xs. xs ++ s.0) h.written ∙ append_assoc before h.front s.0)

-- one write of a whole text: the text, or nothing of it
pub written_at_once : {T E : Type 0} (r : Result T E) (before now part text : List ℕ) → part ≡ text → OnOk r (now ≡ before ++ part) → OnErr r (now ≡ before) → HoldsText before now text r
written_at_once (Ok _) before now part text e h k = rw (← e) h
written_at_once (Err _) before now part text e h k = ([], (text, refl), k ∙ sym (append-nil before))

-- one write of what is left: the whole text, or the beginning that was there
pub rest_is_written : {T E : Type 0} (r : Result T E) (before now after rest whole : List ℕ) → IsLeft before now rest whole → OnOk r (after ≡ now ++ rest) → OnErr r (after ≡ now) → HoldsText before after whole r
rest_is_written (Ok _) before now after rest whole l h k =
    h ∙ ap (λ xs. xs ++ rest) l.written ∙ append_assoc before l.front rest ∙ ap (λ xs. before ++ xs) (sym l.parts)
rest_is_written (Err _) before now after rest whole l h k = (l.front, (rest, l.parts), k ∙ l.written)

module _ (f : ℕ → List ℕ) where
  -- the items at these indices are written as they are
  abbrev pub AreKept : List ℕ → ℕ → ℕ → Type 0
  AreKept xs start end = (k : ℕ) → start ≤ k → k < end → f (get_or xs k 0) ≡ get_or xs k 0 ∷ []

  -- where all items are written as they are, the text is the items
  pub all_are_kept : (xs : List ℕ) → ((k : ℕ) → k < length xs → f (get_or xs k 0) ≡ get_or xs k 0 ∷ []) → flat_map f xs ≡ xs
  all_are_kept [] h = refl
  all_are_kept (x ∷ xs) h = ap (λ ys. ys ++ flat_map f xs) (h 0 (omega arith)) ∙ ap (λ ys. x ∷ ys) (all_are_kept xs (λ k l. h (suc k) (omega arith)))

  -- where a run of items is written as it is, the text begins with the run
  run_is_kept : (xs : List ℕ) (start end : ℕ) → start ≤ end → end ≤ length xs → AreKept xs start end
      → flat_map f (drop start xs) ≡ take (end - start) (drop start xs) ++ flat_map f (drop end xs)
  run_is_kept xs start end a b h =
      let run = take (end - start) (drop start xs) in
      let size : length run ≡ end - start = length-take-le (end - start) (drop start xs) (omega (arith, length-drop start xs)) in
      let same : flat_map f run ≡ run = all_are_kept run
      (λ k l. let at : get_or run k 0 ≡ get_or xs (start + k) 0 = get_or-take (end - start) (drop start xs) k 0 (omega arith) ∙ get_or-drop start xs k 0 in
      rw at (h (start + k) (omega arith) (omega arith))) in
      let rest : drop (end - start) (drop start xs) ≡ drop end xs = drop-drop (end - start) start xs ∙ ap (λ n. drop n xs) (omega arith) in
      ap (flat_map f) (sym (take-append-drop (end - start) (drop start xs)))
      ∙ flat_map-append f run (drop (end - start) (drop start xs)) ∙ ap (λ ys. ys ++ flat_map f (drop (end - start) (drop start xs))) same ∙ ap (λ ys. run ++ flat_map f ys) rest

  -- once a run of items that are written as they are is written, the items behind it are left
  pub left_after_run : (xs : List ℕ) (start end : ℕ) (before now after tail whole : List ℕ) → start ≤ end → end ≤ length xs
      → AreKept xs start end
      → IsLeft before now (flat_map f (drop start xs) ++ tail) whole → after ≡ now ++ take (end - start) (drop start xs) → IsLeft before after (flat_map f (drop end xs) ++ tail) whole
  left_after_run xs start end before now after tail whole a b h l e =
      left_after_part before now after (take (end - start) (drop start xs)) (flat_map f (drop end xs) ++ tail) whole
      (subst (λ ys. IsLeft before now ys whole) (ap (λ ys. ys ++ tail) (run_is_kept xs start end a b h) ∙ append_assoc (take (end - start) (drop start xs)) (flat_map f (drop end xs)) tail) l) e

  -- the same of a run up to the end of the list
  pub left_after_last_run : (xs : List ℕ) (start : ℕ) (before now after tail whole : List ℕ) → start ≤ length xs
      → AreKept xs start (length xs)
      → IsLeft before now (flat_map f (drop start xs) ++ tail) whole → after ≡ now ++ take (length xs - start) (drop start xs) → IsLeft before after tail whole
  left_after_last_run xs start before now after tail whole a h l e =
      subst (λ ys. IsLeft before after (flat_map f ys ++ tail) whole) (drop-length xs) (left_after_run xs start (length xs) before now after tail whole a (omega arith) h l e)

  -- of the rest of a list, the text of its first item comes first
  pub item_is_first : (xs : List ℕ) (i : ℕ) (before now tail whole : List ℕ) → i < length xs
      → IsLeft before now (flat_map f (drop i xs) ++ tail) whole → IsLeft before now (f (get_or xs i 0) ++ (flat_map f (drop (suc i) xs) ++ tail)) whole
  item_is_first xs i before now tail whole l h =
      subst (λ ys. IsLeft before now ys whole) (ap (λ ys. flat_map f ys ++ tail) (drop-cons xs i 0 l) ∙ append_assoc (f (get_or xs i 0)) (flat_map f (drop (suc i) xs)) tail) h

  -- a run that is written as it is grows by such an item
  pub one_more_is_kept : (xs : List ℕ) (start end : ℕ) → AreKept xs start end
      → f (get_or xs end 0) ≡ get_or xs end 0 ∷ [] → AreKept xs start (end + 1)
  one_more_is_kept xs start end h here k a b = ⊎_elim (λ l. h k a l) (λ m. let same : k ≡ end = omega arith in rw same here) (cases_lt k end)
