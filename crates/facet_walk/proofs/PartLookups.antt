-- The places of parts by their numbers.
use Rattle.std.proofs.Common.{◌≡◌, ℕ, zero, suc, ◌+◌, ◌*◌, ◌/◌, ◌%◌, ◌<◌, List, [], ◌∷◌, Option, None, Some, IsSomeAnd, length, map, slice_get, option_map, refl, sym, ap, ◌∙◌, subst, arith, zero-add}
use Rattle.std.specs.List.{range_with_len}
use Rattle.facet_base.specs.declared.layout.ShapeId.{ShapeId}
use Rattle.facet_block.specs.declared.block.Block.{Block}
use Rattle.facet_block.specs.declared.ptr_const.PtrConst.{PtrConst}
use Rattle.facet_causes.specs.Arrangement.{in_a_row, single}
use Rattle.facet_desc.specs.declared.field.Field.{Field}
use Rattle.facet_values.specs.Place.{Place, block_places, place_in}
use Rattle.facet_walk.specs.Look.{pair, parts_behind, placed}

-- what holds of an item of a mapped list holds of what it is made of
of_mapped : {A B : Type 0} (f : A → B) (P : B → Type 0) (o : Option A) → IsSomeAnd (option_map f o) P → IsSomeAnd o (λ x. P (f x))
of_mapped f P None h = h
of_mapped f P (Some x) h = h

-- where something is found the index is below the length
pub within : {A : Type 0} (P : A → Type 0) (xs : List A) (i : ℕ) → IsSomeAnd (slice_get xs i) P → i < length xs
within P [] i h = absurd h
within P (x ∷ xs) zero h = omega arith
within P (x ∷ xs) (suc i) h = omega (arith, within P xs i h)

range_lookup : (a n i : ℕ) → i < n → slice_get (range_with_len a n) i ≡ Some (a + i)
range_lookup a zero i below = absurd (omega arith)
range_lookup a (suc n) zero below = ap Some (omega arith)
range_lookup a (suc n) (suc i) below =
    let next : (a + 1) + i ≡ a + suc i = omega arith in
    range_lookup (a + 1) n i (omega arith) ∙ ap Some next

length_range : (a n : ℕ) → length (range_with_len a n) ≡ n
length_range a zero = refl
length_range a (suc n) = ap suc (length_range (a + 1) n)

module _ {L : Type 0} where
  -- what holds of the part that is found holds of what it is made of
  pub found_mapped : {A : Type 0} (P : Place L → Type 0) (places : List (Place L)) (i : ℕ) (f : A → Place L) (o : Option A) → slice_get places i ≡ option_map f o → IsSomeAnd (slice_get places i) P → IsSomeAnd o (λ x. P (f x))
  found_mapped P places i f o e h = of_mapped f P o (subst (λ x. IsSomeAnd x P) e h)

  -- what holds of the part that is found holds of the place where it is
  pub held : (P : Place L → Type 0) (places : List (Place L)) (i : ℕ) (p : Place L) → slice_get places i ≡ Some p → IsSomeAnd (slice_get places i) P → P p
  held P places i p is h = subst (λ o. IsSomeAnd o P) is h

  pub fields_lookup : (at : PtrConst L) (fields : List Field) (i : ℕ) →
      slice_get (parts_behind at (placed fields)) i ≡ option_map (λ f. place_in f.shape.0 at.block.now (at.offset + f.offset)) (slice_get fields i)
  fields_lookup at [] i = refl
  fields_lookup at (f ∷ fields) zero = refl
  fields_lookup at (f ∷ fields) (suc i) = fields_lookup at fields i

  -- parts of one shape at multiples of a size
  rest_lookup : (at : PtrConst L) (id : ShapeId) (size : ℕ) (xs : List ℕ) (i : ℕ) →
      slice_get (parts_behind at (map (λ k. record { shape = id; offset = k * size }) xs)) i ≡ option_map (λ k. place_in id.0 at.block.now (at.offset + k * size)) (slice_get xs i)
  rest_lookup at id size [] i = refl
  rest_lookup at id size (x ∷ xs) zero = refl
  rest_lookup at id size (x ∷ xs) (suc i) = rest_lookup at id size xs i

  rest_length : (at : PtrConst L) (id : ShapeId) (size : ℕ) (xs : List ℕ) →
      length (parts_behind at (map (λ k. record { shape = id; offset = k * size }) xs)) ≡ length xs
  rest_length at id size [] = refl
  rest_length at id size (x ∷ xs) = ap suc (rest_length at id size xs)

  pub row_lookup : (at : PtrConst L) (id : ShapeId) (n size i : ℕ) → i < n →
      slice_get (parts_behind at (in_a_row id n size)) i ≡ Some (place_in id.0 at.block.now (at.offset + i * size))
  row_lookup at id n size i below =
      rest_lookup at id size (range_with_len 0 n) i
      ∙ ap (option_map (λ k. place_in id.0 at.block.now (at.offset + k * size))) (range_lookup 0 n i below ∙ ap Some (zero-add i))

  pub length_row : (at : PtrConst L) (id : ShapeId) (n size : ℕ) → n ≡ length (parts_behind at (in_a_row id n size))
  length_row at id n size = sym (rest_length at id size (range_with_len 0 n) ∙ length_range 0 n)

  pub elements_lookup : (id : ShapeId) (blocks : List (Block L)) (i : ℕ) →
      slice_get (block_places (single id 0) blocks) i ≡ option_map (λ block. place_in id.0 block 0) (slice_get blocks i)
  elements_lookup id [] i = refl
  elements_lookup id (b ∷ blocks) zero = refl
  elements_lookup id (b ∷ blocks) (suc i) = elements_lookup id blocks i

  pub length_elements : (id : ShapeId) (blocks : List (Block L)) → length blocks ≡ length (block_places (single id 0) blocks)
  length_elements id [] = refl
  length_elements id (b ∷ blocks) = ap suc (length_elements id blocks)

  module _ (key value : ShapeId) (offset : ℕ) where
    keys_lookup : (blocks : List (Block L)) (j i : ℕ) → i ≡ j + j →
        slice_get (block_places (pair key value offset) blocks) i ≡ option_map (λ block. place_in key.0 block 0) (slice_get blocks j)
    keys_lookup [] j i e = refl
    keys_lookup (b ∷ blocks) zero i e = let z : i ≡ 0 = omega arith in rw z refl
    keys_lookup (b ∷ blocks) (suc j) i e = let z : i ≡ suc (suc (j + j)) = omega arith in rw z (keys_lookup blocks j (j + j) refl)

    values_lookup : (blocks : List (Block L)) (j i : ℕ) → i ≡ suc (j + j) →
        slice_get (block_places (pair key value offset) blocks) i ≡ option_map (λ block. place_in value.0 block offset) (slice_get blocks j)
    values_lookup [] j i e = refl
    values_lookup (b ∷ blocks) zero i e = let z : i ≡ 1 = omega arith in rw z (ap (λ n. Some (place_in value.0 b n)) (zero-add offset))
    values_lookup (b ∷ blocks) (suc j) i e = let z : i ≡ suc (suc (suc (j + j))) = omega arith in rw z (values_lookup blocks j (suc (j + j)) refl)

    pub even_lookup : (blocks : List (Block L)) (i : ℕ) → i % 2 ≡ 0 →
        slice_get (block_places (pair key value offset) blocks) i ≡ option_map (λ block. place_in key.0 block 0) (slice_get blocks (i / 2))
    even_lookup blocks i even = keys_lookup blocks (i / 2) i (omega arith)

    pub odd_lookup : (blocks : List (Block L)) (i : ℕ) → ¬ (i % 2 ≡ 0) →
        slice_get (block_places (pair key value offset) blocks) i ≡ option_map (λ block. place_in value.0 block offset) (slice_get blocks (i / 2))
    odd_lookup blocks i odd = values_lookup blocks (i / 2) i (omega arith)

    pub length_pairs : (blocks : List (Block L)) → 2 * length blocks ≡ length (block_places (pair key value offset) blocks)
    length_pairs [] = refl
    length_pairs (b ∷ blocks) = omega (arith, length_pairs blocks)
