-- Two changes at one offset of a block, one after the other.
use Rattle.std.proofs.Common.{◌≡◌, ℕ, zero, suc, List, [], ◌∷◌, slice_get, slice_set, unwrap_or, Option, None, refl, ap, sym}
use Rattle.std.proofs.lemmas.List.{set-set}
use Rattle.facet_block.specs.Block.{items_of, item_at, with_item}
use Rattle.facet_block.specs.declared.block.Item.{Item}
use Rattle.facet_block.specs.declared.block.Block.{Block}

-- a list is as it was once an item is put where nothing was, and taken out again
set_back : {A : Type 0} (xs : List (Option A)) (at : ℕ) (o : Option A) → unwrap_or (slice_get xs at) None ≡ None → slice_set (slice_set xs at o) at None ≡ xs
set_back [] at o e = refl
set_back (x ∷ xs) zero o e = ap (λ y. y ∷ xs) (sym e)
set_back (x ∷ xs) (suc at) o e = ap (λ t. x ∷ t) (set_back xs at o e)

-- what is put at an empty place and taken from it leaves the block as it was
pub with_item_back : {X : Type 0} (b : Block X) (at : ℕ) (o : Option (Item X)) → item_at b at ≡ None → with_item (with_item b at o) at None ≡ b
with_item_back b at o e = ap (λ xs. record b { items = xs }) (set_back (items_of b) at o e)

-- what is put twice at a place is what was put last
pub with_item_twice : {X : Type 0} (b : Block X) (at : ℕ) (o p : Option (Item X)) → with_item (with_item b at o) at p ≡ with_item b at p
with_item_twice b at o p = ap (λ xs. record b { items = xs }) (set-set (items_of b) at o p)
