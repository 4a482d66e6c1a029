-- What a lookup that found a key says of the keys, and where the value behind that key is read.
use Rattle.std.proofs.Common.{◌≡◌, ℕ, zero, suc, ◌+◌, ◌*◌, ◌<◌, Bool, true, false, List, [], ◌∷◌, Option, None, Some, Ok, Err, length, get_or, position, slice_get, refl, sym, subst, arith}
use Rattle.std.specs.Prelude.{ok_or}
use Rattle.std.specs.List.{count_by, list_any}
use Rattle.std.proofs.lemmas.Grind.{common_steps}
use Rattle.std.proofs.lemmas.List.Folds.{list_any-from_Any, list_any_none}
use Rattle.std.proofs.lemmas.List.Quantifiers.{position-Some}
use Rattle.std.proofs.lemmas.List.Sums.{fails_before_first}
use Rattle.std.proofs.lemmas.Option.{get_or_from_slice_get, slice_get-get_or}
use Rattle.facet_block.specs.declared.block.Block.{Block}
use Rattle.facet_block.specs.declared.ptr_const.PtrConst.{PtrConst}
use Rattle.facet_contain.specs.Parts.{Points}
use Rattle.facet_iterate.specs.Elements.{ReadInPairs, starts, with_values}
use Rattle.facet_leaf.specs.LeafModel.{LeafModel}
use Rattle.facet_lookup.specs.Find.{found_among, has_key, is_equal, is_less}
use Rattle.facet_shape.specs.declared.shape.Shape.{Shape}
use Rattle.facet_trees.specs.Value.{Value}
use Rattle.facet_values.specs.Place.{place_in}
use Rattle.facet_values.specs.Reading.{Reads}

module _ {A : Type 0} (p : A → Bool) where
  found_at : (o : Option ℕ) (n i : ℕ) → ok_or o n ≡ Ok i → o ≡ Some i
  found_at (Some j) n i is = cc
  found_at None n i is = absurd (cc)

  found_nowhere : (o : Option ℕ) (n i : ℕ) → ok_or o n ≡ Err i → o ≡ None
  found_nowhere (Some j) n i is = absurd (cc)
  found_nowhere None n i is = refl

  found_within : (xs : List A) (n i : ℕ) → ok_or (position p xs) n ≡ Ok i → i < length xs
  found_within [] n i is = absurd (cc)
  found_within (x ∷ xs) n i is = (position-Some p (x ∷ xs) i x (found_at (position p (x ∷ xs)) n i is)).0

  some_passes : (xs : List A) (n i : ℕ) → ok_or (position p xs) n ≡ Ok i → true ≡ list_any p xs
  some_passes [] n i is = absurd (cc)
  some_passes (x ∷ xs) n i is =
      let (inside, passes, before) = position-Some p (x ∷ xs) i x (found_at (position p (x ∷ xs)) n i is) in
      let v = get_or (x ∷ xs) i x in
      sym (list_any-from_Any p (x ∷ xs) (i, v, inside, get_or_from_slice_get (x ∷ xs) i v v (slice_get-get_or (x ∷ xs) i x inside), passes))

  none_passes : (xs : List A) (n i : ℕ) → ok_or (position p xs) n ≡ Err i → false ≡ list_any p xs
  none_passes xs n i is =
      let none = found_nowhere (position p xs) n i is in
      sym (list_any_none p xs (λ k d below. fails_before_first p xs k d (grind (arith, common_steps))))

module _ {L : Type 0} (m : LeafModel L) (shapes : List Shape) where
  module _ (s : ℕ) (key : Value L) (keys : List (Value L)) (i : ℕ) where
    abbrev matches : Value L → Bool
    matches k = is_equal m shapes s k key

    abbrev less : ℕ
    less = count_by (λ k. is_less m shapes s k key) keys

    pub found_below : found_among m shapes s key keys ≡ Ok i → i < length keys
    found_below is = found_within matches keys less i is

    pub key_there : found_among m shapes s key keys ≡ Ok i → true ≡ has_key m shapes s key keys
    key_there is = some_passes matches keys less i is

    pub key_absent : found_among m shapes s key keys ≡ Err i → false ≡ has_key m shapes s key keys
    key_absent is = none_passes matches keys less i is

  -- a pointer so many bytes behind the start of a block leads to the value of its pair
  pub value_points : (key value offset : ℕ) (blocks : List (Block L)) (vs : List (Value L)) → ReadInPairs m shapes key value (with_values offset (starts blocks)) vs
      → (i : ℕ) (b : Block L) → slice_get blocks i ≡ Some b → (q : PtrConst L) → q.block.now ≡ b → q.offset ≡ offset → Points m shapes value (slice_get vs (suc (2 * i))) (Some q)
  value_points key value offset [] vs reads i b is q at behind = absurd (cc)
  value_points key value offset (c ∷ blocks) [] reads i b is q at behind = absurd reads
  value_points key value offset (c ∷ blocks) (k ∷ []) reads i b is q at behind = absurd reads
  value_points key value offset (c ∷ blocks) (k ∷ w ∷ vs) reads zero b is q at behind =
      let far : 0 + offset ≡ q.offset = omega (arith, behind) in
      let here : c ≡ q.block.now = cc in
      let same : place_in value c (0 + offset) ≡ place_in value q.block.now q.offset = cc in
      subst (λ p. Reads m shapes p w) same reads.1
  value_points key value offset (c ∷ blocks) (k ∷ w ∷ vs) reads (suc i) b is q at behind =
      let next : suc (2 * suc i) ≡ suc (suc (suc (2 * i))) = omega arith in
      rw next (value_points key value offset blocks vs reads.2 i b is q at behind)
