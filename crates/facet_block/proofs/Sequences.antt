-- Sequences that get new spare blocks, or whose filled blocks are changed one after another.
use Rattle.std.proofs.Common.{◌≡◌, ℕ, ◌+◌, ◌<◌, [], ◌∷◌, ◌++◌, map, length, replicate, slice_get, slice_set, Some, None, Result, Ok, Err, OnErr, ap, ◌∙◌, sym, append_assoc, append-nil, add-one}
use Rattle.std.proofs.lemmas.List.{replicate_more}
use Rattle.facet_block.specs.declared.block.Block.{Block}
use Rattle.facet_block.specs.declared.block.Seq.{Seq, out-Seq, out-roll-Seq, roll-out-Seq}
use Rattle.facet_block.specs.Block.{empty_block}
use Rattle.facet_block.specs.Seq.{make_seq, filled_of, spare_of, element_size_of, with_filled, with_new_spare}
use Rattle.facet_base.proofs.Lists.{some_there}
use Rattle.facet_block.proofs.ChangedLists.{changed_to, get_changed_to, set_changed_to, changed_to_all}

module _ {X : Type 0} (s : Seq X) where
  -- no new block: the sequence itself
  pub with_new_spare_0 : with_new_spare s 0 ≡ s
  with_new_spare_0 = ap (λ bs. make_seq (element_size_of s) (filled_of s) bs) (append-nil (spare_of s)) ∙ roll-out-Seq X s

  -- one new block more
  pub with_new_spare_more : (t : Seq X) (n : ℕ) → t ≡ with_new_spare s n → with_new_spare t 1 ≡ with_new_spare s (n + 1)
  with_new_spare_more t n is =
      let opened = ap (out-Seq X) is ∙ out-roll-Seq X _ in
      let new = empty_block (element_size_of s) in
      ap (λ o. make_seq o.element_size o.blocks.0 (o.blocks.1 ++ empty_block o.element_size ∷ [])) opened
      ∙ ap (λ bs. make_seq (element_size_of s) (filled_of s) bs) (append_assoc (spare_of s) (replicate n new) (new ∷ [])
      ∙ ap (λ bs. spare_of s ++ bs) (replicate_more n new))

-- what holds anyway holds after an error
pub on_err : {T E P : Type 0} (r : Result T E) → P → OnErr r P
on_err (Ok x) p = tt
on_err (Err e) p = p

module _ {X : Type 0} (f : Block X → Block X) (s : Seq X) where
  -- the sequence whose first i filled blocks have been changed by f
  abbrev pub changed_blocks : ℕ → Seq X
  changed_blocks i = with_filled s (changed_to f (filled_of s) i)

  -- no block is changed: the sequence itself
  pub changed_blocks_0 : changed_blocks 0 ≡ s
  changed_blocks_0 = roll-out-Seq X s

  -- the filled block at index i is still the old one
  pub next_block : (t : Seq X) (i : ℕ) → t ≡ changed_blocks i → slice_get (filled_of t) i ≡ slice_get (filled_of s) i
  next_block t i is = ap (λ u. slice_get (filled_of u) i) is ∙ (ap (λ o. slice_get o.blocks.0 i) (out-roll-Seq X _) ∙ get_changed_to f (filled_of s) i)

  -- one filled block more is changed
  pub changed_blocks_more : (t : Seq X) (i : ℕ) (b c : Block X) → t ≡ changed_blocks i → slice_get (filled_of t) i ≡ Some b → c ≡ f b
      → with_filled t (slice_set (filled_of t) i c) ≡ changed_blocks (i + 1)
  changed_blocks_more t i b c is here changed =
      let opened = ap (out-Seq X) is ∙ out-roll-Seq X _ in
      let old : slice_get (filled_of s) i ≡ Some b = sym (next_block t i is) ∙ here in
      ap (λ d. with_filled t (slice_set (filled_of t) i d)) changed
      ∙ (ap (λ o. make_seq o.element_size (slice_set o.blocks.0 i (f b)) o.blocks.1) opened
      ∙ (ap (λ bs. make_seq (element_size_of s) bs (spare_of s)) (set_changed_to f (filled_of s) i b old) ∙ ap changed_blocks (sym (add-one i))))

  -- below the length there is a filled block
  pub block_there : (t : Seq X) (i : ℕ) → t ≡ changed_blocks i → i < length (filled_of s) → None ≡ slice_get (filled_of t) i → ⊥
  block_there t i is below none = some_there (filled_of s) i below (none ∙ next_block t i is)

  -- all blocks are changed
  pub changed_blocks_all : changed_blocks (length (filled_of s)) ≡ with_filled s (map f (filled_of s))
  changed_blocks_all = ap (λ bs. make_seq (element_size_of s) bs (spare_of s)) (changed_to_all f (filled_of s))
