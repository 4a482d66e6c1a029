-- What lies in and beside a range of a block, before and after a change.
use Rattle.std.proofs.Common.{◌≡◌, ◌≢◌, ℕ, zero, suc, ◌+◌, ◌-◌, ◌<◌, ◌≤◌, inl, inr, List, ◌++◌, take, drop, replicate, length, slice_get, unwrap_or, Option, None, refl, ap, sym, ◌∙◌, arith, length-take, length-drop}
use Rattle.std.proofs.Math.ListN.{get_or, length-replicate}
use Rattle.std.proofs.Math.Seq.{length_paste_head}
use Rattle.std.proofs.lemmas.List.{length-set, get_or-take, get_or-drop, get_or-replicate, get_or_append_left, get_or-append_right, get_or-set_same, get_or-set_other}
use Rattle.std.proofs.lemmas.List.Edits.{drop-paste, length-paste}
use Rattle.std.proofs.lemmas.Option.{unwrap_or-slice_get}
use Rattle.facet_block.specs.declared.block.Block.{Block}
use Rattle.facet_block.specs.declared.block.Item.{Item}
use Rattle.facet_block.specs.Block.{items_of, size_of, item_at, empty_block, with_item, with_items, moved_in, moved_out}
use Rattle.facet_block.specs.Span.{Span, span, IsWithin, IsBeside, IsApart, IsKept, IsChanged, IsCleared}

-- no offset lies both in a range and beside it
pub within_beside : (i : ℕ) (range : Span) → IsWithin i range → IsBeside i range → ⊥
within_beside i range within (inl before) = omega (arith, within.0)
within_beside i range within (inr behind) = omega (arith, within.1)

-- an offset beside a range of one byte is another one
not_there : (i at : ℕ) → IsBeside i (span at 1) → i ≢ at
not_there i at (inl before) = omega arith
not_there i at (inr behind) = omega arith

-- where two lists agree from an index on, they agree at each index from there on
same_from : {A : Type 0} (xs ys : List A) (m i : ℕ) (d : A) → drop m xs ≡ drop m ys → m ≤ i → get_or xs i d ≡ get_or ys i d
same_from xs ys m i d same from =
    let place : m + (i - m) ≡ i = omega arith in
    let read : (zs : List _) → get_or (drop m zs) (i - m) d ≡ get_or zs i d = λ zs. get_or-drop m zs (i - m) d ∙ ap (λ k. get_or zs k d) place in
    sym (read xs) ∙ (ap (λ zs. get_or zs (i - m) d) same ∙ read ys)

-- no item lies at any offset of a list of nothing
none_in : {A : Type 0} (size i : ℕ) → unwrap_or (slice_get (replicate {A = Option A} size None) i) None ≡ None
none_in zero i = refl
none_in (suc size) zero = refl
none_in (suc size) (suc i) = none_in size i

module _ (X : Type 0) where
  -- the size of a new block
  pub size_empty : (size : ℕ) → size_of (empty_block {X = X} size) ≡ size
  size_empty size = length-replicate size None

  -- a new block has no item
  pub item_empty : (size i : ℕ) → item_at (empty_block {X = X} size) i ≡ None
  item_empty size i = none_in size i

module _ {X : Type 0} where
  -- the item at an offset, as the list of items is read
  pub item_read : (b : Block X) (i : ℕ) → item_at b i ≡ get_or (items_of b) i None
  item_read b i = unwrap_or-slice_get (items_of b) i None

  -- a changed item leaves the size
  pub size_with_item : (b : Block X) (at : ℕ) (o : Option (Item X)) → size_of (with_item b at o) ≡ size_of b
  size_with_item b at o = length-set (items_of b) at o

  -- a changed item lies at its offset
  pub item_there : (b : Block X) (at : ℕ) (o : Option (Item X)) → at < size_of b → item_at (with_item b at o) at ≡ o
  item_there b at o below = item_read (with_item b at o) at ∙ get_or-set_same (items_of b) at o None below

  -- a changed item leaves all other offsets
  pub item_elsewhere : (b : Block X) (at : ℕ) (o : Option (Item X)) (i : ℕ) → i ≢ at → item_at (with_item b at o) i ≡ item_at b i
  item_elsewhere b at o i other = item_read (with_item b at o) i ∙ (get_or-set_other (items_of b) at i o None other ∙ sym (item_read b i))

  -- a block with a changed item is changed there alone
  pub changed_with_item : (b : Block X) (at : ℕ) (o : Option (Item X)) → IsChanged b (with_item b at o) (span at 1)
  changed_with_item b at o = record { size = size_with_item b at o; outside = λ i beside. item_elsewhere b at o i (not_there i at beside) }

  -- a block with an item taken out is cleared there
  pub cleared_with_item : (b : Block X) (at : ℕ) → at < size_of b → IsCleared b (with_item b at None) (span at 1)
  cleared_with_item b at below = record {
    size = size_with_item b at None;
    empty = λ i within. let there : i ≡ at = omega (arith, within.0, within.1) in ap (item_at (with_item b at None)) there ∙ item_there b at None below;
    outside = λ i beside. item_elsewhere b at None i (not_there i at beside);
  }

  -- a range that is apart from the changed one holds what it held
  pub kept_apart : (old new : Block X) (range other : Span) → IsApart range other → IsChanged old new range → IsKept old new other
  kept_apart old new range other apart changed i within = elim (apart i) [
    | inl beside ↦ changed.outside i beside
    | inr beside ↦ absurd (within_beside i other within beside)
  ]

  module _ (b : Block X) (at : ℕ) (os : List (Option (Item X))) (count : ℕ) (inside : at + count ≤ size_of b) (enough : count ≤ length os) where
    -- changed items leave the size
    pub size_with_items : size_of (with_items b at os count) ≡ size_of b
    size_with_items = length-paste (items_of b) at os count inside enough

    -- the items before the range are as many as its offset
    front_len : length (take at (items_of b)) ≡ at
    front_len = omega (arith, length-take at (items_of b))

    -- with those in the range they are as many as its end
    head_len : length (take at (items_of b) ++ take count os) ≡ at + count
    head_len = length_paste_head (items_of b) at os count (omega arith) enough

    -- in the range lie the new items
    pub item_among : (j : ℕ) → j < count → item_at (with_items b at os count) (at + j) ≡ get_or os j None
    item_among j below =
        let place : at + j - at ≡ j = omega arith in
        let front = take at (items_of b) in
        item_read (with_items b at os count) (at + j)
        ∙ (get_or_append_left (front ++ take count os) (drop (at + count) (items_of b)) None (at + j) (omega (arith, head_len))
        ∙ (get_or-append_right front (take count os) at (at + j) None front_len (omega arith)
        ∙ (ap (λ k. get_or (take count os) k None) place ∙ get_or-take count os j None below)))

    -- beside the range all items are as they were
    pub item_aside : (i : ℕ) → IsBeside i (span at count) → item_at (with_items b at os count) i ≡ item_at b i
    item_aside i (inl before) =
        item_read (with_items b at os count) i
        ∙ (get_or_append_left (take at (items_of b) ++ take count os) (drop (at + count) (items_of b)) None i (omega (arith, head_len))
        ∙ (get_or_append_left (take at (items_of b)) (take count os) None i (omega (arith, front_len))
        ∙ (get_or-take at (items_of b) i None before ∙ sym (item_read b i))))
    item_aside i (inr behind) =
        item_read (with_items b at os count) i
        ∙ (same_from (items_of (with_items b at os count)) (items_of b) (at + count) i None (drop-paste (items_of b) at os count (omega arith) enough) behind
        ∙ sym (item_read b i))

  module _ (b : Block X) (from size : ℕ) (inside : from + size ≤ size_of b) where
    -- a block is cleared where items were moved out
    pub cleared_moved_out : IsCleared b (moved_out b from size) (span from size)
    cleared_moved_out =
        let enough : size ≤ length (replicate {A = Option (Item X)} size None) = omega (arith, length-replicate {A = Option (Item X)} size None) in
        record {
          size = size_with_items b from (replicate size None) size inside enough;
          empty = λ i within.
              let j : ℕ = i - from in
              let below : j < size = omega (arith, within.0, within.1) in
              let place : i ≡ from + j = omega (arith, within.0) in
              ap (item_at (moved_out b from size)) place ∙ (item_among b from (replicate size None) size inside enough j below ∙ get_or-replicate size j None None below);
          outside = item_aside b from (replicate size None) size inside enough;
        }

  module _ (b : Block X) (at : ℕ) (source : Block X) (from size : ℕ) (inside : at + size ≤ size_of b) (source_inside : from + size ≤ size_of source) where
    -- the source has items enough behind the offset
    rest_enough : size ≤ length (drop from (items_of source))
    rest_enough = omega (arith, source_inside, length-drop from (items_of source))

    -- a block is changed where items were moved in, and there alone
    pub changed_moved_in : IsChanged b (moved_in b at source from size) (span at size)
    changed_moved_in = record {
      size = size_with_items b at (drop from (items_of source)) size inside rest_enough;
      outside = item_aside b at (drop from (items_of source)) size inside rest_enough;
    }

    -- what lay in the range of the source lies in the range of the block
    pub arrived_moved_in : (j : ℕ) → j < size → item_at (moved_in b at source from size) (at + j) ≡ item_at source (from + j)
    arrived_moved_in j below =
        item_among b at (drop from (items_of source)) size inside rest_enough j below
        ∙ (get_or-drop from (items_of source) j None ∙ sym (item_read source (from + j)))
