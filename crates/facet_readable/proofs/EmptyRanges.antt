-- Blocks and ranges in which no item lies.
use Rattle.std.proofs.Common.{◌≡◌, ◌↔◌, IsTrue, ℕ, ◌+◌, ◌-◌, ◌≤◌, Bool, None, ap, ◌∙◌, subst, arith}
use Rattle.facet_block.proofs.Ranges.{item_empty}
use Rattle.facet_block.specs.Block.{empty_block, item_at, size_of}
use Rattle.facet_block.specs.Span.{IsEmptyIn, span}
use Rattle.facet_block.specs.declared.block.Block.{Block}
use Rattle.facet_readable.specs.Gaps.{IsEmptyFrom}
use Rattle.facet_values.proofs.StructureRows.{empty_is}
use Rattle.facet_values.specs.Place.{place_in}

module _ {L : Type 0} where
  -- the empty block holds nothing
  empty_in : (size : ℕ) (b : Block L) → b ≡ empty_block size → IsEmptyIn b (span 0 size)
  empty_in size b is i within = ap (λ c. item_at c i) is ∙ item_empty L size i

  pub empty_by : (size : ℕ) (b : Block L) (r : Bool) → size_of b ≡ size → (IsTrue r ↔ IsEmptyIn b (span 0 size)) → IsTrue r ↔ (b ≡ empty_block size)
  empty_by size b r same vacant = (λ t. empty_is size b same (vacant.0 t), λ is. vacant.1 (empty_in size b is))

  -- a range of a block, counted from its start and from an offset
  pub empty_from : (b : Block L) (at start end : ℕ) (r : Bool) → start ≤ end → (IsTrue r ↔ IsEmptyIn b (span (at + start) (end - start))) → IsTrue r ↔ IsEmptyFrom (place_in 0 b at) start end
  empty_from b at start end r some vacant = (
    λ t i from below. vacant.0 t (at + i) (omega (arith, from), omega (arith, below, some)),
    λ all. vacant.1 (λ j within.
        let i : ℕ = j - at in
        let here : at + i ≡ j = omega (arith, within.0) in
        subst (λ k. item_at b k ≡ None) here (all i (omega (arith, within.0)) (omega (arith, within.1, within.0, some)))),
  )
