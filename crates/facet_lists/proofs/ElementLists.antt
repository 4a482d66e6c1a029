-- Blocks of elements, and the values that they read as.
use Rattle.std.proofs.Common.{◌≡◌, ℕ, zero, suc, ◌<◌, List, [], ◌∷◌, ◌++◌, Option, None, Some, get_or, length, map, slice_get, slice_set, swap, take, unwrap_or, refl, sym, ap, subst, arith}
use Rattle.std.proofs.lemmas.List.Edits.{swap_is}
use Rattle.facet_base.specs.declared.layout.ShapeId.{ShapeId}
use Rattle.facet_block.specs.Block.{with_item, item_at}
use Rattle.facet_block.specs.declared.block.Block.{Block}
use Rattle.facet_block.specs.declared.block.Item.{Item}
use Rattle.facet_contain.proofs.HeldParts.{one}
use Rattle.facet_contain.specs.Parts.{values_of}
use Rattle.facet_leaf.specs.LeafModel.{LeafModel}
use Rattle.facet_shape.specs.declared.shape.Shape.{Shape}
use Rattle.facet_trees.specs.Value.{Value, Values, listed, more, none}
use Rattle.facet_values.specs.Place.{block_places, start_of}
use Rattle.facet_values.specs.Reading.{ReadAll, Reads}

-- what is put where it lies changes nothing
set_same : {A : Type 0} (xs : List (Option A)) (at : ℕ) (x : A) → slice_get xs at ≡ Some (Some x) → slice_set xs at (Some x) ≡ xs
set_same [] zero x is = refl
set_same [] (suc at) x is = refl
set_same (y ∷ xs) zero x is = let same : y ≡ Some x = cc in ap (λ z. z ∷ xs) (sym same)
set_same (y ∷ xs) (suc at) x is = ap (λ zs. y ∷ zs) (set_same xs at x is)

pub with_item_same : {X : Type 0} (b : Block X) (at : ℕ) (x : Item X) → item_at b at ≡ Some x → with_item b at (Some x) ≡ b
with_item_same {X} b at x is = ap (λ xs. record b { items = xs }) (set_same b.items at x (there (slice_get b.items at) is))
  where
    there : (o : Option (Option (Item X))) → unwrap_or o None ≡ Some x → o ≡ Some (Some x)
    there None e = absurd (cc)
    there (Some y) e = ap Some e

-- a list of values as parts, and the parts as a list
pub values_listed : {L : Type 0} (vs : Values L) → values_of (listed vs) ≡ vs
values_listed none = refl
values_listed (more v vs) = ap (more v) (values_listed vs)

module _ {L : Type 0} (m : LeafModel L) (shapes : List Shape) (element : ShapeId) where
  -- the blocks read as these values, one after another
  abbrev pub Each : List (Block L) → List (Value L) → Type 0
  Each blocks ws = ReadAll m shapes (block_places (one element 0) blocks) (values_of ws)

  pub each_from : (blocks : List (Block L)) (ws : List (Value L)) → ReadAll m shapes (map (start_of element.0) blocks) (values_of ws) → Each blocks ws
  each_from [] ws reads = reads
  each_from (b ∷ blocks) [] reads = absurd reads
  each_from (b ∷ blocks) (w ∷ ws) reads = (reads.0, each_from blocks ws reads.1)

  pub each_length : (blocks : List (Block L)) (ws : List (Value L)) → Each blocks ws → length blocks ≡ length ws
  each_length [] [] reads = refl
  each_length [] (w ∷ ws) reads = absurd reads
  each_length (b ∷ blocks) [] reads = absurd reads
  each_length (b ∷ blocks) (w ∷ ws) reads = ap suc (each_length blocks ws reads.1)

  pub each_push : (blocks : List (Block L)) (ws : List (Value L)) (b : Block L) (w : Value L) → Each blocks ws → Reads m shapes (start_of element.0 b) w → Each (blocks ++ b ∷ []) (ws ++ w ∷ [])
  each_push [] [] b w reads last = (last, tt)
  each_push [] (v ∷ ws) b w reads last = absurd reads
  each_push (c ∷ blocks) [] b w reads last = absurd reads
  each_push (c ∷ blocks) (v ∷ ws) b w reads last = (reads.0, each_push blocks ws b w reads.1 last)

  pub each_take : (n : ℕ) (blocks : List (Block L)) (ws : List (Value L)) → Each blocks ws → Each (take n blocks) (take n ws)
  each_take zero blocks ws reads = tt
  each_take (suc n) [] [] reads = tt
  each_take (suc n) [] (w ∷ ws) reads = absurd reads
  each_take (suc n) (b ∷ blocks) [] reads = absurd reads
  each_take (suc n) (b ∷ blocks) (w ∷ ws) reads = (reads.0, each_take n blocks ws reads.1)

  pub each_at : (blocks : List (Block L)) (ws : List (Value L)) (i : ℕ) (b : Block L) (w : Value L) → Each blocks ws → i < length blocks → Reads m shapes (start_of element.0 (get_or blocks i b)) (get_or ws i w)
  each_at [] ws i b w reads below = absurd (omega arith)
  each_at (c ∷ blocks) [] i b w reads below = absurd reads
  each_at (c ∷ blocks) (v ∷ ws) zero b w reads below = reads.0
  each_at (c ∷ blocks) (v ∷ ws) (suc i) b w reads below = each_at blocks ws i b w reads.1 (omega arith)

  pub each_get : (blocks : List (Block L)) (ws : List (Value L)) (i : ℕ) (b : Block L) (w : Value L) → Each blocks ws → slice_get blocks i ≡ Some b → slice_get ws i ≡ Some w → Reads m shapes (start_of element.0 b) w
  each_get [] ws i b w reads here there = absurd (cc)
  each_get (c ∷ blocks) [] i b w reads here there = absurd reads
  each_get (c ∷ blocks) (v ∷ ws) zero b w reads here there =
      let same : c ≡ b = cc in
      let also : v ≡ w = cc in
      subst (λ x. Reads m shapes (start_of element.0 x) w) same (subst (Reads m shapes (start_of element.0 c)) also reads.0)
  each_get (c ∷ blocks) (v ∷ ws) (suc i) b w reads here there = each_get blocks ws i b w reads.1 here there

  pub each_set : (blocks : List (Block L)) (ws : List (Value L)) (i : ℕ) (b : Block L) (w : Value L) → Each blocks ws → Reads m shapes (start_of element.0 b) w → Each (slice_set blocks i b) (slice_set ws i w)
  each_set [] [] zero b w reads new = tt
  each_set [] [] (suc i) b w reads new = tt
  each_set [] (v ∷ ws) i b w reads new = absurd reads
  each_set (c ∷ blocks) [] i b w reads new = absurd reads
  each_set (c ∷ blocks) (v ∷ ws) zero b w reads new = (new, reads.1)
  each_set (c ∷ blocks) (v ∷ ws) (suc i) b w reads new = (reads.0, each_set blocks ws i b w reads.1 new)

  pub each_swap : (blocks : List (Block L)) (ws : List (Value L)) (i j : ℕ) → Each blocks ws → i < length blocks → j < length blocks → Each (swap blocks i j) (swap ws i j)
  each_swap [] ws i j reads first second = absurd (omega arith)
  each_swap (c ∷ blocks) [] i j reads first second = absurd reads
  each_swap (c ∷ blocks) (v ∷ ws) i j reads first second =
      let bs = c ∷ blocks in
      let vs = v ∷ ws in
      let as_many = each_length bs vs reads in
      let one_set = each_set bs vs i (get_or bs j c) (get_or vs j v) reads (each_at bs vs j c v reads second) in
      let both = each_set (slice_set bs i (get_or bs j c)) (slice_set vs i (get_or vs j v)) j (get_or bs i c) (get_or vs i v) one_set (each_at bs vs i c v reads first) in
      subst (λ xs. Each xs (swap vs i j)) (swap_is bs i j c first second)
      (subst (λ ys. Each (slice_set (slice_set bs i (get_or bs j c)) j (get_or bs i c)) ys) (swap_is vs i j v (omega (arith, as_many)) (omega (arith, as_many))) both)
