-- Two blocks while items are moved from one to the other, one after another.
use Rattle.std.proofs.Common.{◌≡◌, ℕ, ◌+◌, ◌<◌, inr, List, drop, Option, None, ap, ◌∙◌, sym, arith, length-drop}
use Rattle.std.proofs.lemmas.List.{get_or-drop}
use Rattle.std.proofs.lemmas.List.Edits.{paste_more, fill_from_more}
use Rattle.facet_block.specs.declared.block.Block.{Block}
use Rattle.facet_block.specs.declared.block.Item.{Item}
use Rattle.facet_block.specs.Block.{items_of, size_of, item_at, with_item, moved_in, moved_out}
use Rattle.facet_block.proofs.Ranges.{item_read, cleared_moved_out}

module _ {X : Type 0} where
  -- the block of a list of items
  abbrev block_of : List (Option (Item X)) → Block X
  block_of os = record { items = os }

  -- one item more is gone
  pub moved_out_more : (b s : Block X) (from i : ℕ) → b ≡ moved_out s from i → from + i < size_of s → with_item b (from + i) None ≡ moved_out s from (i + 1)
  moved_out_more b s from i is below = ap (λ c. with_item c (from + i) None) is ∙ ap block_of (fill_from_more (items_of s) from i None below)

  -- one item more has come
  pub moved_in_more : (b d s t : Block X) (at from i : ℕ) → b ≡ moved_in d at s from i → t ≡ moved_out s from i → at + i < size_of d → from + i < size_of s
      → with_item b (at + i) (item_at t (from + i)) ≡ moved_in d at s from (i + 1)
  moved_in_more b d s t at from i is left below inside =
      let still = (cleared_moved_out s from i (omega arith)).outside (from + i) (inr (omega arith)) in
      let here = ap (λ c. item_at c (from + i)) left ∙ (still ∙ (item_read s (from + i) ∙ sym (get_or-drop from (items_of s) i None))) in
      ap (λ c. with_item c (at + i) (item_at t (from + i))) is
      ∙ (ap (λ o. with_item (moved_in d at s from i) (at + i) o) here
      ∙ ap block_of (paste_more (items_of d) at (drop from (items_of s)) i None below (omega (arith, length-drop from (items_of s)))))
