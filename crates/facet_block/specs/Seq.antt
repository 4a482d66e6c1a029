-- Sequences as data: the size of their elements, the filled blocks and the spare ones.
use Rattle.std.specs.Prelude.{ℕ, ◌-◌, List, ◌++◌, length, replicate, take, drop}
use Rattle.facet_block.specs.declared.block.Block.{Block}
use Rattle.facet_block.specs.declared.block.Seq.{Seq, out-Seq, roll-Seq}
use Rattle.facet_block.specs.Block.{empty_block}

-- the filled blocks of a sequence, in order
abbrev pub filled_of : {X : Type 0} → Seq X → List (Block X)
filled_of {X} s = (out-Seq X s).blocks.0

-- the spare blocks of a sequence, in order
abbrev pub spare_of : {X : Type 0} → Seq X → List (Block X)
spare_of {X} s = (out-Seq X s).blocks.1

-- the size in bytes of the blocks that a sequence makes
abbrev pub element_size_of : {X : Type 0} → Seq X → ℕ
element_size_of {X} s = (out-Seq X s).element_size

-- the sequence of this size of elements, with these filled and these spare blocks
abbrev pub make_seq : {X : Type 0} → ℕ → List (Block X) → List (Block X) → Seq X
make_seq {X} n fs ss = roll-Seq X (record { element_size = n; blocks = (fs, ss) })

-- the sequence with other filled blocks
abbrev pub with_filled : {X : Type 0} → Seq X → List (Block X) → Seq X
with_filled s fs = make_seq (element_size_of s) fs (spare_of s)

-- the sequence with other spare blocks
abbrev pub with_spare : {X : Type 0} → Seq X → List (Block X) → Seq X
with_spare s ss = make_seq (element_size_of s) (filled_of s) ss

-- the sequence with so many new blocks behind its spare ones
abbrev pub with_new_spare : {X : Type 0} → Seq X → ℕ → Seq X
with_new_spare s count = with_spare s (spare_of s ++ replicate count (empty_block (element_size_of s)))

-- the list with its last element at index i, and the others in their order
abbrev pub last_moved_to : {A : Type 0} → ℕ → List A → List A
last_moved_to i xs =
    let others = take (length xs - 1) xs in
    let last = drop (length xs - 1) xs in
    take i others ++ last ++ drop i others
