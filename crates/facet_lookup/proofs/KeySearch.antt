-- The search by halves among ascending keys: what is known of the keys on either side, and how many steps it takes.
use Rattle.std.proofs.Common.{◌≡◌, ℕ, zero, suc, ◌+◌, ◌*◌, ◌^◌, ◌<◌, ◌≤◌, Bool, true, false, cond, List, [], ◌∷◌, length, get_or, refl, sym, ap, ◌∙◌, subst, arith, None, Some, Ok, Err, position, slice_get, ◌⊎◌, inl, inr}
use Rattle.std.specs.List.{count_by}
use Rattle.std.specs.Ordering.{is_eq, is_lt, ordering_reverse}
use Rattle.std.specs.declared.cmp.Ordering.{Ordering}
use Rattle.std.specs.declared.cmp.Ordering.TheVariants.{Less, Equal, Greater}
use Rattle.std.proofs.Math.Nat.{mul_assoc, mul-le-mul_left, pow-suc}
use Rattle.std.proofs.lemmas.Bool.Decides.{nat_tests}
use Rattle.std.proofs.lemmas.List.Sums.{sum_by-cons, position_or_len_is}
use Rattle.std.proofs.lemmas.Option.{get_or_from_slice_get, slice_get-get_or, slice_get_within}
use Rattle.facet_causes.specs.Causes.{IsWellFormed}
use Rattle.facet_leaf.specs.LeafLaws.{LeafLaws}
use Rattle.facet_leaf.specs.LeafModel.{LeafModel}
use Rattle.facet_lookup.specs.Find.{RisesByHalving, found_among, is_equal, is_less, is_ordered_as}
use Rattle.facet_shape.specs.declared.shape.Shape.{Shape}
use Rattle.facet_trees.proofs.OrderLaws.{ordering_chain, ordering_reversed}
use Rattle.facet_trees.specs.Ascending.{AreAscending, IsLess}
use Rattle.facet_trees.specs.Fits.{Fits}
use Rattle.facet_trees.specs.Order.{by_total, ordered, ordering, reversed}
use Rattle.facet_trees.specs.Value.{Value}

module _ {A : Type 0} (p : A → Bool) where
  -- the first that passes
  position_at : (xs : List A) (i : ℕ) (x : A) → slice_get xs i ≡ Some x → p x ≡ true → ((j : ℕ) (y : A) → j < i → slice_get xs j ≡ Some y → p y ≡ false) → position p xs ≡ Some i
  position_at xs i x e here before =
      let lt = slice_get_within xs i x e in
      let at = slice_get-get_or xs i x lt in
      let same : get_or xs i x ≡ x = cc in
      let first = position_or_len_is p xs i x (omega arith)
      (λ k h. before k (get_or xs k x) h (slice_get-get_or xs k x (omega arith)))
      (λ h. ap p same ∙ here) in
      rw first (grind (arith, nat_tests))

  position_none : (xs : List A) → ((j : ℕ) (y : A) → slice_get xs j ≡ Some y → p y ≡ false) → position p xs ≡ None
  position_none [] none = refl
  position_none (x ∷ xs) none =
      let first = position_or_len_is p (x ∷ xs) (length (x ∷ xs)) x (omega arith)
      (λ k h. none k (get_or (x ∷ xs) k x) (slice_get-get_or (x ∷ xs) k x h))
      (λ h. absurd (omega arith)) in
      rw first (grind (arith, nat_tests))

  -- those before an index pass, and no other
  count_by_before : (xs : List A) (i : ℕ) → i ≤ length xs → ((j : ℕ) (y : A) → j < i → slice_get xs j ≡ Some y → p y ≡ true)
      → ((j : ℕ) (y : A) → i ≤ j → slice_get xs j ≡ Some y → p y ≡ false) → count_by p xs ≡ i
  count_by_before [] i h before after = omega arith
  count_by_before (x ∷ xs) zero h before after =
      let e = sum_by-cons (λ y. cond (p y) 1 0) x xs in
      let f : p x ≡ false = after zero x (omega arith) refl in
      let rest = count_by_before xs zero (omega arith) (λ j y lt. absurd (omega arith)) (λ j y le g. after (suc j) y (omega arith) g) in
      let head : cond (p x) 1 0 + count_by p xs ≡ zero = rw (f, rest) refl in
      e ∙ head
  count_by_before (x ∷ xs) (suc i) h before after =
      let e = sum_by-cons (λ y. cond (p y) 1 0) x xs in
      let f : p x ≡ true = before zero x (omega arith) refl in
      let rest = count_by_before xs i (omega arith) (λ j y lt g. before (suc j) y (omega arith) g) (λ j y le g. after (suc j) y (omega arith) g) in
      let head : cond (p x) 1 0 + count_by p xs ≡ suc i = rw (f, rest) (omega arith) in
      e ∙ head

eq_or_less : (i j : ℕ) → j < suc i → (j ≡ i) ⊎ (j < i)
eq_or_less i j h = grind (arith, nat_tests)

less_or_over : (j i : ℕ) → (j < i) ⊎ (i ≤ j)
less_or_over j i = grind (arith, nat_tests)

positive : (n : ℕ) → (n ≡ 0 → ⊥) → 0 < n
positive zero h = absurd (h refl)
positive (suc n) h = omega arith

-- a key, and a list of ascending ones
module _ {L : Type 0} (m : LeafModel L) (shapes : List Shape) (s : ℕ) where
  ascending_at : (ks : List (Value L)) → AreAscending m shapes s ks → (i j : ℕ) (v w : Value L) → i < j → slice_get ks i ≡ Some v → slice_get ks j ≡ Some w → IsLess m shapes s v w
  ascending_at ks asc i j v w h e f =
      let lt = slice_get_within ks j w f in
      subst (λ u. IsLess m shapes s u w) (get_or_from_slice_get ks i v v e)
      (subst (λ u. IsLess m shapes s (get_or ks i v) u) (get_or_from_slice_get ks j w v f) (asc i j v h lt))

  -- what a search rests on
  pub record IsSearched (key : Value L) (ks : List (Value L)) : Type 0 where
    pub laws : LeafLaws m
    pub well : IsWellFormed m shapes
    pub key_fits : Fits m shapes s key
    pub keys_fit : (j : ℕ) (v : Value L) → slice_get ks j ≡ Some v → Fits m shapes s v
    pub ascending : AreAscending m shapes s ks

  -- the keys before an index are less, and those from another on are greater
  pub record IsBetween (key : Value L) (ks : List (Value L)) (low high : ℕ) : Type 0 where
    pub in_order : low ≤ high
    pub within : high ≤ length ks
    pub below : (j : ℕ) (v : Value L) → j < low → slice_get ks j ≡ Some v → ordering m shapes by_total s v key ≡ ordered Less
    pub above : (j : ℕ) (v : Value L) → high ≤ j → slice_get ks j ≡ Some v → ordering m shapes by_total s v key ≡ ordered Greater

module _ {L : Type 0} {m : LeafModel L} {shapes : List Shape} {s : ℕ} {key : Value L} {ks : List (Value L)} (h : IsSearched m shapes s key ks) where
  less_less : (u v w : Value L) → Fits m shapes s u → Fits m shapes s v → Fits m shapes s w → IsLess m shapes s u v → IsLess m shapes s v w → IsLess m shapes s u w
  less_less u v w fu fv fw e f = let c = ordering_chain m h.laws shapes h.well s u v w fu fv fw in rw (e, f) at c

  less_equal : (u v w : Value L) → Fits m shapes s u → Fits m shapes s v → Fits m shapes s w → IsLess m shapes s u v → ordering m shapes by_total s v w ≡ ordered Equal → IsLess m shapes s u w
  less_equal u v w fu fv fw e f = let c = ordering_chain m h.laws shapes h.well s u v w fu fv fw in rw (e, f) at c

  turned : (v w : Value L) (o : Ordering) → Fits m shapes s v → Fits m shapes s w → ordering m shapes by_total s v w ≡ ordered o → ordering m shapes by_total s w v ≡ ordered (ordering_reverse o)
  turned v w o fv fw e = ordering_reversed m h.laws shapes h.well by_total s v w fv fw ∙ ap reversed e

  -- before one that is less, or equal, all are less; behind one that is greater all are greater
  before_less : (i j : ℕ) (v u : Value L) → slice_get ks i ≡ Some v → ordering m shapes by_total s v key ≡ ordered Less → j < suc i → slice_get ks j ≡ Some u
      → ordering m shapes by_total s u key ≡ ordered Less
  before_less i j v u e less lt f = elim (eq_or_less i j lt) [
    | inl same ↦ let g : slice_get ks j ≡ Some v = ap (slice_get ks) same ∙ e in let k : u ≡ v = cc in rw k less
    | inr under ↦ less_less u v key (h.keys_fit j u f) (h.keys_fit i v e) h.key_fits (ascending_at m shapes s ks h.ascending j i u v under f e) less
  ]

  before_equal : (i j : ℕ) (v u : Value L) → slice_get ks i ≡ Some v → ordering m shapes by_total s v key ≡ ordered Equal → j < i → slice_get ks j ≡ Some u
      → ordering m shapes by_total s u key ≡ ordered Less
  before_equal i j v u e equal lt f =
      less_equal u v key (h.keys_fit j u f) (h.keys_fit i v e) h.key_fits (ascending_at m shapes s ks h.ascending j i u v lt f e) equal

  after_greater : (i j : ℕ) (v u : Value L) → slice_get ks i ≡ Some v → ordering m shapes by_total s v key ≡ ordered Greater → i ≤ j → slice_get ks j ≡ Some u
      → ordering m shapes by_total s u key ≡ ordered Greater
  after_greater i j v u e greater le f = elim (eq_or_less j i (omega arith)) [
    | inl same ↦ let g : slice_get ks j ≡ Some v = ap (slice_get ks) (sym same) ∙ e in let k : u ≡ v = cc in rw k greater
    | inr over ↦
        turned key u Less h.key_fits (h.keys_fit j u f)
        (less_less key v u h.key_fits (h.keys_fit i v e) (h.keys_fit j u f) (turned v key Greater (h.keys_fit i v e) h.key_fits greater) (ascending_at m shapes s ks h.ascending i j v u over e f))
  ]

  is_equal_by : (v : Value L) (o : Ordering) → ordering m shapes by_total s v key ≡ ordered o → is_equal m shapes s v key ≡ is_eq o
  is_equal_by v o e = ap (is_ordered_as is_eq) e

  is_less_by : (v : Value L) (o : Ordering) → ordering m shapes by_total s v key ≡ ordered o → is_less m shapes s v key ≡ is_lt o
  is_less_by v o e = ap (is_ordered_as is_lt) e

  -- the halving
  pub between_all : IsBetween m shapes s key ks 0 (length ks)
  between_all = record {
    in_order = omega arith;
    within = omega arith;
    below = λ j v lt e. absurd (omega arith);
    above = λ j v le e. absurd (let lt = slice_get_within ks j v e in omega arith);
  }

  module _ {low high : ℕ} (middle : ℕ) (v : Value L) (b : IsBetween m shapes s key ks low high) (there : slice_get ks middle ≡ Some v) where
    pub between_right : middle < high → ordering m shapes by_total s v key ≡ ordered Less → IsBetween m shapes s key ks (middle + 1) high
    between_right lt less = record {
      in_order = omega arith;
      within = b.within;
      below = λ j u under f. before_less middle j v u there less (omega arith) f;
      above = b.above;
    }

    pub between_left : low ≤ middle → middle < high → ordering m shapes by_total s v key ≡ ordered Greater → IsBetween m shapes s key ks low middle
    between_left le lt greater = record {
      in_order = le;
      within = let w = b.within in omega arith;
      below = b.below;
      above = λ j u over f. after_greater middle j v u there greater over f;
    }

  pub found_equal : (middle : ℕ) (v : Value L) → slice_get ks middle ≡ Some v → ordering m shapes by_total s v key ≡ ordered Equal → Ok middle ≡ found_among m shapes s key ks
  found_equal middle v e equal =
      let at = position_at (λ k. is_equal m shapes s k key) ks middle v e (is_equal_by v Equal equal)
      (λ j u lt f. is_equal_by u Less (before_equal middle j v u e equal lt f)) in
      rw at refl

  pub found_none : {low high : ℕ} → IsBetween m shapes s key ks low high → high ≤ low → Err low ≡ found_among m shapes s key ks
  found_none {low} {high} b le =
      let above : (j : ℕ) (v : Value L) → low ≤ j → slice_get ks j ≡ Some v → ordering m shapes by_total s v key ≡ ordered Greater =
      λ j v over e. b.above j v (omega arith) e in
      let none = position_none (λ k. is_equal m shapes s k key) ks
      (λ j u f. elim (less_or_over j low) [
        | inl under ↦ is_equal_by u Less (b.below j u under f)
        | inr over ↦ is_equal_by u Greater (above j u over f)
      ]) in
      let fewer = count_by_before (λ k. is_less m shapes s k key) ks low (let w = b.within in let o = b.in_order in omega arith)
      (λ j u under f. is_less_by u Less (b.below j u under f))
      (λ j u over f. is_less_by u Greater (above j u over f)) in
      rw (none, fewer) refl

-- so many steps were counted, each of which left at most half of the keys
pub record IsHalved (total before now left : ℕ) : Type 0 where
  pub steps : ℕ
  pub counted : now ≡ before + steps
  pub halved : 2 ^ steps * left ≤ total
  pub most : 2 ^ steps ≤ 2 * total + 1
  pub least : steps ≡ 0 → left ≡ total

pub halved_none : (total before : ℕ) → IsHalved total before before total
halved_none total before = record {
  steps = 0;
  counted = omega arith;
  halved = omega arith;
  most = omega arith;
  least = λ e. refl;
}

pub halved_step : {total before now left : ℕ} (next : ℕ) → IsHalved total before now left → 0 < left → 2 * next ≤ left → IsHalved total before (now + 1) next
halved_step {total} {before} {now} {left} next c some half =
    let p = 2 ^ c.steps in
    let counted = c.counted in
    let halved = c.halved in
    let power : 2 ^ suc c.steps ≡ p * 2 = pow-suc 2 c.steps in
    let one = mul-le-mul_left p some in
    let two = mul-le-mul_left p half in
    let assoc = mul_assoc p 2 next in
    record {
      steps = suc c.steps;
      counted = omega arith;
      halved = rw (power, assoc) (omega arith);
      most = rw power (omega (arith, one));
      least = λ e. absurd (omega arith);
    }

pub rises : {total before now left : ℕ} → IsHalved total before now left → left ≡ 0 → RisesByHalving total before now
rises c none = record {
  steps = c.steps;
  counted = c.counted;
  most = c.most;
  least = λ some. positive c.steps (λ e. let same = c.least e in absurd (omega arith));
}
