-- Blocks and sequences in which tags were exchanged.
use Rattle.std.specs.Prelude.{◌≡◌, ℕ, zero, suc, All, map, Option, Some}
use Rattle.facet_block.specs.declared.block.Block.{Block}
use Rattle.facet_block.specs.declared.block.Item.{Item, Tag, Sequence}
use Rattle.facet_block.specs.declared.block.ItemKind.TheVariants as kind
use Rattle.facet_block.specs.declared.block.Seq.{Seq}
use Rattle.facet_block.specs.Block.{item_at, item_kind_at, with_item}
use Rattle.facet_block.specs.Seq.{filled_of, with_filled}

-- the block with this tag at an offset
abbrev pub with_tag : {X : Type 0} → ℕ → ℕ → Block X → Block X
with_tag at tag b = with_item b at (Some (Tag tag))

-- the sequence with this tag at an offset of each filled block
abbrev pub with_tags : {X : Type 0} → ℕ → ℕ → Seq X → Seq X
with_tags at tag s = with_filled s (map (with_tag at tag) (filled_of s))

-- a tag lies at the offset of each filled block
abbrev pub AreTagged : {X : Type 0} → ℕ → Seq X → Type 0
AreTagged at s = All (λ b. item_kind_at b at ≡ kind.Tag) (filled_of s)

-- by the item at the block's start: another tag, or the same change in each filled block of a sequence
abbrev pub retagged_by : {X : Type 0} → (Block X → Block X) → ℕ → Block X → Option (Item X) → Block X
retagged_by deeper tag b (Some (Tag n)) = with_tag 0 tag b
retagged_by deeper tag b (Some (Sequence s)) = with_item b 0 (Some (Sequence (with_filled s (map deeper (filled_of s)))))
retagged_by deeper tag b _ = b

-- the block with this tag at its start, or at the start of each block that its first sequence leads to, so many levels down
abbrev pub retagged : {X : Type 0} → ℕ → ℕ → Block X → Block X
retagged zero tag b = b
retagged (suc levels) tag b = retagged_by (retagged levels tag) tag b (item_at b 0)
