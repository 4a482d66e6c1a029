-- The elements of an array lie one behind the other, and fill the bytes from the first on.
use Rattle.std.proofs.Common.{◌≡◌, ℕ, zero, suc, ◌+◌, ◌*◌, ◌≤◌, List, All, map, sym, ap, subst, inl, inr, arith}
use Rattle.std.specs.List.{range_with_len}
use Rattle.std.proofs.lemmas.List.Elements.{All-cons, All-head, All-nil, All-tail, All-weaker}
use Rattle.std.proofs.lemmas.Nat.{mul-le}
use Rattle.facet_base.specs.declared.layout.ShapeId.{ShapeId}
use Rattle.facet_block.specs.Span.{IsBeside}
use Rattle.facet_causes.specs.Arrangement.{in_a_row, part_at}
use Rattle.facet_def.specs.declared.def.Def.{Def}
use Rattle.facet_def.specs.declared.def.Def.TheVariants as def
use Rattle.facet_outline.specs.declared.placed_fields.PlacedField.{PlacedField}
use Rattle.facet_readable.specs.Gaps.{IsBesideAll, row_size}
use Rattle.facet_registry.specs.Registry.{size_at}
use Rattle.facet_shape.specs.declared.shape.Shape.{Shape}
use Rattle.facet_values.proofs.LaidOut.{size_there}
use Rattle.facet_values.specs.Place.{Place, part_place, part_places, range_of}
use Rattle.facet_walk.specs.Look.{elements_in_a_row}

module _ {L : Type 0} (shapes : List Shape) (p : Place L) where
  -- an element that begins within so many bytes ends within them
  abbrev EndsWithin : ℕ → Place L → Type 0
  EndsWithin end q = q.offset ≤ end → q.offset + size_at shapes q.shape ≤ end

  module _ (id : ShapeId) (size : ℕ) (is : size ≡ size_at shapes id.0) where
    abbrev elements : List ℕ → List PlacedField
    elements ks = map (λ k. record { shape = id; offset = k * size }) ks

    abbrev element : ℕ → PlacedField
    element k = record { shape = id; offset = k * size }

    -- where each ends within so many bytes if it begins there, all do
    rising : (end a n : ℕ) → All (EndsWithin end) (part_places p (elements (range_with_len a n))) → p.offset + a * size ≤ end → p.offset + (a + n) * size ≤ end
    rising end a zero all first = subst (λ k. p.offset + k * size ≤ end) (omega arith) first
    rising end a (suc n) all first =
        let rest = part_places p (elements (range_with_len (a + 1) n)) in
        let next : p.offset + a * size + size_at shapes id.0 ≤ end = All-head (EndsWithin end) (part_place p (element a)) rest all first in
        let more = rising end (a + 1) n (All-tail (EndsWithin end) (part_place p (element a)) rest all) (omega (arith, next, is)) in
        let same : a + 1 + n ≡ a + suc n = omega arith in
        subst (λ k. p.offset + k * size ≤ end) same more

    -- behind all of them is beside each
    behind_all : (offset a n : ℕ) → p.offset + (a + n) * size ≤ offset → IsBesideAll shapes offset (part_places p (elements (range_with_len a n)))
    behind_all offset a zero behind = All-nil (λ q. IsBeside offset (range_of shapes q))
    behind_all offset a (suc n) behind =
        let upto = mul-le (a + 1) size (a + suc n) size (omega arith) (omega arith) in
        let same : a + 1 + n ≡ a + suc n = omega arith in
        All-cons (λ q. IsBeside offset (range_of shapes q)) (part_place p (element a)) (part_places p (elements (range_with_len (a + 1) n)))
        (inr (omega (arith, upto, behind, is)))
        (behind_all offset (a + 1) n (subst (λ k. p.offset + k * size ≤ offset) (sym same) behind))

  beside_ends : (offset : ℕ) (q : Place L) → IsBeside offset (range_of shapes q) → EndsWithin offset q
  beside_ends offset q (inl before) from = absurd (omega (arith, before, from))
  beside_ends offset q (inr behind) from = behind

  -- a byte lies beside the elements where it lies behind them
  pub behind_row : (d : Def) (i : ℕ) → IsBesideAll shapes (p.offset + i) (part_places p (elements_in_a_row shapes d)) → row_size shapes d ≤ i
  behind_row (def.Array a) i all =
      let size = (part_at shapes a.t).size in
      let is = size_there shapes a.t in
      let places = part_places p (in_a_row a.t a.n size) in
      let ends = rising a.t size is (p.offset + i) 0 a.n (All-weaker (λ q. IsBeside (p.offset + i) (range_of shapes q)) (EndsWithin (p.offset + i)) (beside_ends (p.offset + i)) places all) (omega arith) in
      let zero_more : 0 + a.n ≡ a.n = omega arith in
      let e : a.n * size ≡ a.n * size_at shapes a.t.0 = ap (λ s. a.n * s) is in
      let ends2 = subst (λ k. p.offset + k * size ≤ p.offset + i) zero_more ends in
      omega (arith, ends2, e)
  behind_row _ i all = omega arith

  pub beside_row : (d : Def) (i : ℕ) → row_size shapes d ≤ i → IsBesideAll shapes (p.offset + i) (part_places p (elements_in_a_row shapes d))
  beside_row (def.Array a) i behind =
      let size = (part_at shapes a.t).size in
      let is = size_there shapes a.t in
      let zero_more : a.n ≡ 0 + a.n = omega arith in
      let e : a.n * size ≡ a.n * size_at shapes a.t.0 = ap (λ s. a.n * s) is in
      behind_all a.t size is (p.offset + i) 0 a.n (subst (λ k. p.offset + k * size ≤ p.offset + i) zero_more (omega (arith, behind, e)))
  beside_row _ i behind = All-nil (λ q. IsBeside (p.offset + i) (range_of shapes q))

  -- where each of them ends within so many bytes, they have so many at most
  pub row_fits : (d : Def) (size : ℕ) → All (λ q. q.offset + size_at shapes q.shape ≤ p.offset + size) (part_places p (elements_in_a_row shapes d)) → row_size shapes d ≤ size
  row_fits (def.Array a) end all =
      let size = (part_at shapes a.t).size in
      let is = size_there shapes a.t in
      let places = part_places p (in_a_row a.t a.n size) in
      let ends = rising a.t size is (p.offset + end) 0 a.n (All-weaker (λ q. q.offset + size_at shapes q.shape ≤ p.offset + end) (EndsWithin (p.offset + end)) (λ q ends from. ends) places all) (omega arith) in
      let zero_more : 0 + a.n ≡ a.n = omega arith in
      let e : a.n * size ≡ a.n * size_at shapes a.t.0 = ap (λ s. a.n * s) is in
      let ends2 = subst (λ k. p.offset + k * size ≤ p.offset + end) zero_more ends in
      omega (arith, ends2, e)
  row_fits _ end all = omega arith
