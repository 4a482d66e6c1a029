-- The starts of blocks come one at a time, from both ends.
use Rattle.std.proofs.Common.{◌≡◌, ℕ, suc, ◌+◌, ◌-◌, ◌<◌, ◌≤◌, List, [], ◌∷◌, ◌++◌, Option, None, Some, length, get_or, option_map, slice_get, All, refl, sym, ap, ◌∙◌, arith}
use Rattle.std.specs.List.{between}
use Rattle.std.specs.Iterator.{YieldsFirstBy, YieldsLastBy}
use Rattle.std.proofs.Math.Seq.{slice-cons}
use Rattle.std.proofs.lemmas.List.{map-append}
use Rattle.std.proofs.lemmas.List.Edits.{between_more}
use Rattle.std.proofs.lemmas.List.Elements.{All-map, All-rest, All-same}
use Rattle.std.proofs.lemmas.Option.{get_or_from_slice_get}
use Rattle.std.proofs.lemmas.Slice.{between_is}
use Rattle.facet_base.proofs.Lists.{some_there}
use Rattle.facet_block.specs.declared.block.Block.{Block}
use Rattle.facet_block.specs.declared.ptr_const.PtrConst.{PtrConst}
use Rattle.facet_block.specs.Block.{size_of}
use Rattle.facet_values.proofs.StructureRows.{all_first}
use Rattle.facet_values.specs.Place.{Place, place_in, start_of}
use Rattle.facet_iterate.specs.Elements.{Position, position_of, starts}

module _ {X : Type 0} (xs : List X) (i j : ℕ) (x : X) where
  -- the element at an index comes before those behind it
  pub first_between : slice_get xs i ≡ Some x → i < j → j ≤ length xs → between i j xs ≡ x ∷ between (i + 1) j xs
  first_between there below within =
      let next : suc i ≡ i + 1 = omega arith in
      between_is xs i j ∙ slice-cons i j xs x below within ∙ ap (λ ys. get_or xs i x ∷ ys) (sym (between_is xs (suc i) j)) ∙ ap (λ y. y ∷ between (suc i) j xs) (get_or_from_slice_get xs i x x there) ∙ ap (λ n. x ∷ between n j xs) next

  -- and behind those before it
  pub last_between : slice_get xs (j - 1) ≡ Some x → i < j → j ≤ length xs → between i j xs ≡ between i (j - 1) xs ++ x ∷ []
  last_between there below within =
      let next : j ≡ j - 1 + 1 = omega (arith, below) in
      ap (λ n. between i n xs) next ∙ between_more xs i (j - 1) x (omega (arith, below)) (omega (arith, below, within)) ∙ ap (λ y. between i (j - 1) xs ++ y ∷ []) (get_or_from_slice_get xs (j - 1) x x there)

module _ {L : Type 0} (blocks : List (Block L)) where
  -- a pointer to the start of the block at an index
  abbrev IsStartAt : ℕ → Option (PtrConst L) → Type 0
  IsStartAt i q = option_map (λ (p : PtrConst L). place_in 0 p.block.now p.offset) q ≡ option_map (start_of 0) (slice_get blocks i)

  abbrev start : Block L → Position L
  start block = record { block = block; offset = 0 }

  module _ (i j : ℕ) (below : i < j) (within : j ≤ length blocks) where
    pub gives_first : (q : Option (PtrConst L)) → IsStartAt i q → YieldsFirstBy position_of (λ (rest : List (Position L)). rest) (starts (between i j blocks)) q (starts (between (i + 1) j blocks))
    gives_first q is = go q (slice_get blocks i) refl is
      where
        go : (q : Option (PtrConst L)) (found : Option (Block L)) → slice_get blocks i ≡ found → option_map (λ (p : PtrConst L). place_in 0 p.block.now p.offset) q ≡ option_map (start_of 0) found
            → YieldsFirstBy position_of (λ (rest : List (Position L)). rest) (starts (between i j blocks)) q (starts (between (i + 1) j blocks))
        go q None found is = absurd (some_there blocks i (omega (arith, below, within)) (sym found))
        go None (Some b) found is = absurd (cc)
        go (Some q) (Some b) found is =
            let same : place_in 0 b 0 ≡ place_in 0 q.block.now q.offset = cc in
            ap starts (first_between blocks i j b found below within)
            ∙ ap (λ (p : Place L). record { block = p.block; offset = p.offset } ∷ starts (between (i + 1) j blocks)) same

    pub gives_last : (q : Option (PtrConst L)) → IsStartAt (j - 1) q → YieldsLastBy position_of (λ (rest : List (Position L)). rest) (starts (between i j blocks)) q (starts (between i (j - 1) blocks))
    gives_last q is = go q (slice_get blocks (j - 1)) refl is
      where
        go : (q : Option (PtrConst L)) (found : Option (Block L)) → slice_get blocks (j - 1) ≡ found → option_map (λ (p : PtrConst L). place_in 0 p.block.now p.offset) q ≡ option_map (start_of 0) found
            → YieldsLastBy position_of (λ (rest : List (Position L)). rest) (starts (between i j blocks)) q (starts (between i (j - 1) blocks))
        go q None found is = absurd (some_there blocks (j - 1) (omega (arith, below, within)) (sym found))
        go None (Some b) found is = absurd (cc)
        go (Some q) (Some b) found is =
            let same : place_in 0 b 0 ≡ place_in 0 q.block.now q.offset = cc in
            ap starts (last_between blocks i j b found below within)
            ∙ map-append start (between i (j - 1) blocks) (b ∷ [])
            ∙ ap (λ (p : Place L). starts (between i (j - 1) blocks) ++ record { block = p.block; offset = p.offset } ∷ []) same

  -- so many bytes behind their starts the blocks go on
  pub starts_within : (count : ℕ) → All (λ block. count ≤ size_of block) blocks → All (λ at. at.offset + count ≤ size_of at.block) (starts blocks)
  starts_within count all = All-map (λ (at : Position L). at.offset + count ≤ size_of at.block) start blocks (λ k d below. omega (arith, all k d below))

-- what holds of all that is still to come holds of the others after a call
module _ {L : Type 0} (P : Position L → Type 0) (old new : List (Position L)) where
  pub kept_behind : (q : Option (PtrConst L)) → YieldsFirstBy position_of (λ (rest : List (Position L)). rest) old q new → All P old → All P new
  kept_behind None yields all = All-same P new old (yields.1 ∙ sym yields.0) all
  kept_behind (Some q) yields all = All-rest P (position_of q) new old yields all

  pub kept_before : (q : Option (PtrConst L)) → YieldsLastBy position_of (λ (rest : List (Position L)). rest) old q new → All P old → All P new
  kept_before None yields all = All-same P new old (yields.1 ∙ sym yields.0) all
  kept_before (Some q) yields all = all_first P new (position_of q ∷ []) (All-same P (new ++ position_of q ∷ []) old (sym yields) all)
