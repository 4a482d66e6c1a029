-- A sequence that gets room, and whose first spare block is filled.
use Rattle.std.proofs.Common.{◌≡◌, ℕ, zero, suc, ◌+◌, ◌-◌, ◌<◌, List, [], ◌∷◌, ◌++◌, All, Some, Result, Ok, Err, OnErr, drop, length, replicate, slice_get, slice_set, take, refl, sym, ap, ◌∙◌, subst, arith}
use Rattle.std.specs.Prelude.{OnOk}
use Rattle.std.proofs.lemmas.List.{length-append, length-replicate}
use Rattle.std.proofs.lemmas.List.Elements.{All-append, All-head, All-replicate}
use Rattle.facet_block.proofs.Sequences.{with_new_spare_0}
use Rattle.facet_block.specs.Block.{empty_block, moved_in}
use Rattle.facet_block.specs.Seq.{element_size_of, filled_of, make_seq, spare_of, with_filled, with_new_spare, with_spare}
use Rattle.facet_block.specs.declared.block.Block.{Block}
use Rattle.facet_block.specs.declared.block.Seq.{Seq}
use Rattle.facet_values.proofs.StructureRows.{filled_made, size_made, spare_made}
use Rattle.facet_lists.specs.Sequences.{all_blocks, block_of_moved, cut_at, with_last, with_room, without_last}

take_past : {A : Type 0} (xs : List A) (y : A) (ys : List A) (n : ℕ) → n ≡ length xs + 1 → take n (xs ++ y ∷ ys) ≡ xs ++ y ∷ []
take_past [] y ys n is = let one : n ≡ 1 = omega arith in ap (λ k. take k (y ∷ ys)) one
take_past (x ∷ xs) y ys zero is = absurd (omega arith)
take_past (x ∷ xs) y ys (suc n) is = ap (λ zs. x ∷ zs) (take_past xs y ys n (omega arith))

drop_past : {A : Type 0} (xs : List A) (y : A) (ys : List A) (n : ℕ) → n ≡ length xs + 1 → drop n (xs ++ y ∷ ys) ≡ ys
drop_past [] y ys n is = let one : n ≡ 1 = omega arith in ap (λ k. drop k (y ∷ ys)) one
drop_past (x ∷ xs) y ys zero is = absurd (omega arith)
drop_past (x ∷ xs) y ys (suc n) is = drop_past xs y ys n (omega arith)

module _ {X T E : Type 0} (o : Result T E) (s t : Seq X) where
  -- room for one block
  pub room_some : OnOk o (t ≡ with_room 1 s) → OnOk o (0 < length (spare_of t))
  room_some ok = go o ok
    where
      go : (o : Result T E) → OnOk o (t ≡ with_room 1 s) → OnOk o (0 < length (spare_of t))
      go (Ok x) is =
          let new = empty_block (element_size_of s) in
          let k = 1 - length (spare_of s) in
          let count = ap (λ u. length (spare_of u)) is ∙ ap length (spare_made (element_size_of s) (filled_of s) (spare_of s ++ replicate k new)) ∙ length-append (spare_of s) (replicate k new) in
          omega (arith, count, length-replicate k new)
      go (Err e) is = tt

  pub room_empty : All (λ b. b ≡ empty_block (element_size_of s)) (spare_of s) → OnOk o (t ≡ with_room 1 s) → OnOk o (All (λ b. b ≡ empty_block (element_size_of t)) (spare_of t))
  room_empty empty ok = go o ok
    where
      go : (o : Result T E) → OnOk o (t ≡ with_room 1 s) → OnOk o (All (λ b. b ≡ empty_block (element_size_of t)) (spare_of t))
      go (Ok x) is =
          let n = element_size_of s in
          let new = empty_block n in
          let k = 1 - length (spare_of s) in
          let size = ap element_size_of is ∙ size_made n (filled_of s) (spare_of s ++ replicate k new) in
          let spare = ap spare_of is ∙ spare_made n (filled_of s) (spare_of s ++ replicate k new) in
          let all = All-append (λ b. b ≡ new) (spare_of s) (replicate k new) empty (All-replicate (λ b. b ≡ new) k new refl) in
          subst (λ j. All (λ b. b ≡ empty_block j) (spare_of t)) (sym size) (subst (All (λ b. b ≡ new)) (sym spare) all)
      go (Err e) is = tt

  pub room_refused : OnErr o ((made : ℕ) × (made + length (spare_of s) < 1) × (t ≡ with_new_spare s made)) → OnErr o (t ≡ s)
  room_refused err = go o err
    where
      go : (o : Result T E) → OnErr o ((made : ℕ) × (made + length (spare_of s) < 1) × (t ≡ with_new_spare s made)) → OnErr o (t ≡ s)
      go (Ok x) is = tt
      go (Err e) (made, few, is) = let nothing : made ≡ 0 = omega (arith, few) in is ∙ ap (with_new_spare s) nothing ∙ with_new_spare_0 s

module _ {X : Type 0} (s : Seq X) (source : Block X) (from : ℕ) where
  abbrev bytes : ℕ
  bytes = element_size_of s

  -- the first spare block is filled, and is the last filled one
  pub filled_next : (t u : Seq X) (n : ℕ) → n ≡ length (filled_of s) + 1 → 0 < length (spare_of s) → All (λ b. b ≡ empty_block bytes) (spare_of s)
      → ((b : Block X) → slice_get (spare_of s) 0 ≡ Some b → t ≡ with_spare s (slice_set (spare_of s) 0 (moved_in b 0 source from bytes)))
      → u ≡ cut_at n t → u ≡ with_last s (block_of_moved bytes source from)
  filled_next t u n longer some empty fills cut = go (spare_of s) refl
    where
      go : (spare : List (Block X)) → spare_of s ≡ spare → u ≡ with_last s (block_of_moved bytes source from)
      go [] is = absurd (omega (arith, some, ap length is))
      go (c ∷ rest) is =
          let blank : c ≡ empty_block bytes = All-head (λ b. b ≡ empty_block bytes) c rest (subst (All (λ b. b ≡ empty_block bytes)) is empty) in
          let w = block_of_moved bytes source from in
          let slot : t ≡ with_spare s (w ∷ rest) = fills c (ap (λ xs. slice_get xs 0) is) ∙ ap (λ xs. with_spare s (slice_set xs 0 (moved_in c 0 source from bytes))) is ∙ ap (λ b. with_spare s (moved_in b 0 source from bytes ∷ rest)) blank in
          let size = ap element_size_of slot ∙ size_made bytes (filled_of s) (w ∷ rest) in
          let filled = ap filled_of slot ∙ filled_made bytes (filled_of s) (w ∷ rest) in
          let spare = ap spare_of slot ∙ spare_made bytes (filled_of s) (w ∷ rest) in
          let all : all_blocks t ≡ filled_of s ++ w ∷ rest = ap (λ xs. xs ++ spare_of t) filled ∙ ap (λ xs. filled_of s ++ xs) spare in
          cut
          ∙ ap (λ k. make_seq k (take n (all_blocks t)) (drop n (all_blocks t))) size
          ∙ ap (λ xs. make_seq bytes (take n xs) (drop n xs)) all
          ∙ ap (λ xs. make_seq bytes xs (drop n (filled_of s ++ w ∷ rest))) (take_past (filled_of s) w rest n longer)
          ∙ ap (λ xs. make_seq bytes (filled_of s ++ w ∷ []) xs) (drop_past (filled_of s) w rest n longer)
          ∙ ap (λ xs. make_seq bytes (filled_of s ++ w ∷ []) (drop 1 xs)) (sym is)

take_before : {A : Type 0} (xs ys : List A) (y : A) (n : ℕ) → length xs ≡ n + 1 → take n (slice_set xs n y ++ ys) ≡ take n xs
take_before [] ys y n is = absurd (omega arith)
take_before (x ∷ xs) ys y zero is = refl
take_before (x ∷ xs) ys y (suc n) is = ap (λ zs. x ∷ zs) (take_before xs ys y n (omega arith))

drop_before : {A : Type 0} (xs ys : List A) (y : A) (n : ℕ) → length xs ≡ n + 1 → drop n (slice_set xs n y ++ ys) ≡ y ∷ ys
drop_before [] ys y n is = absurd (omega arith)
drop_before (x ∷ []) ys y zero is = refl
drop_before (x ∷ z ∷ xs) ys y zero is = absurd (omega arith)
drop_before (x ∷ xs) ys y (suc n) is = drop_before xs ys y n (omega arith)

-- the last filled block is emptied, and is the first spare one
pub emptied_last : {X : Type 0} (s : Seq X) (last : ℕ) (e : Block X) → length (filled_of s) ≡ last + 1 → e ≡ empty_block (element_size_of s)
    → cut_at last (with_filled s (slice_set (filled_of s) last e)) ≡ without_last s
emptied_last s last e count blank =
    let n = element_size_of s in
    let set = slice_set (filled_of s) last e in
    let t = with_filled s set in
    let before : last ≡ length (filled_of s) - 1 = omega (arith, count) in
    let all : all_blocks t ≡ set ++ spare_of s = ap (λ xs. xs ++ spare_of t) (filled_made n set (spare_of s)) ∙ ap (λ xs. set ++ xs) (spare_made n set (spare_of s)) in
    ap (λ k. make_seq k (take last (all_blocks t)) (drop last (all_blocks t))) (size_made n set (spare_of s))
    ∙ ap (λ xs. make_seq n (take last xs) (drop last xs)) all
    ∙ ap (λ xs. make_seq n xs (drop last (set ++ spare_of s))) (take_before (filled_of s) (spare_of s) e last count)
    ∙ ap (λ xs. make_seq n (take last (filled_of s)) xs) (drop_before (filled_of s) (spare_of s) e last count)
    ∙ ap (λ b. make_seq n (take last (filled_of s)) (b ∷ spare_of s)) blank
    ∙ ap (λ k. make_seq n (take k (filled_of s)) (empty_block n ∷ spare_of s)) before

pub there_is : {A : Type 0} (xs : List A) (i : ℕ) → i < length xs → (x : A) × (slice_get xs i ≡ Some x)
there_is [] i below = absurd (omega arith)
there_is (x ∷ xs) zero below = (x, refl)
there_is (x ∷ xs) (suc i) below = there_is xs i (omega arith)
