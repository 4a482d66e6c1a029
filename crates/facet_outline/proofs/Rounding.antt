-- Numbers of bytes that are rounded up.
use Rattle.std.proofs.Common.{◌≡◌, ℕ, ◌+◌, ◌-◌, ◌*◌, ◌/◌, ◌%◌, ◌<◌, ◌≤◌, ap, ◌∙◌, inl, inr, arith}
use Rattle.std.proofs.Math.Nat.{mod-eq_of_lt, mod-lt, mod_self, mul-le-mul_right}
use Rattle.std.proofs.lemmas.Bool.{cases_lt}
use Rattle.facet_outline.specs.Layout.{IsLeastMultiple, alignment, up}

-- a multiple is rounded up to itself
pub up_at_multiple : (n a : ℕ) → n % a ≡ 0 → n + (a - n % a) % a ≡ n
up_at_multiple n a none =
    let whole : a - n % a ≡ a = omega (arith, none) in
    let same : (a - n % a) % a ≡ 0 = ap (λ k. k % a) whole ∙ mod_self a in
    omega (arith, same)

-- another number is rounded up by what it lacks
pub up_between : (n a : ℕ) → 0 < a → 0 < n % a → n + (a - n % a) % a ≡ n + (a - n % a)
up_between n a some rest =
    let less : a - n % a < a = omega (arith, rest, some) in
    ap (λ k. n + k) (mod-eq_of_lt less)

least_at_multiple : (n a : ℕ) → 0 < a → n % a ≡ 0 → IsLeastMultiple a n (n + (a - n % a) % a)
least_at_multiple n a some none =
    let same = up_at_multiple n a none in
    let whole : a * (n / a) + n % a ≡ n = omega arith in
    record {
      factor = n / a;
      multiple = omega (arith, same, whole, none);
      reaches = omega (arith, same);
      least = λ k within. omega (arith, same, within);
    }

above_quotient : (n a k : ℕ) → 0 < a → 0 < n % a → n ≤ k * a → n / a + 1 ≤ k
above_quotient n a k some rest within = elim (cases_lt (n / a) k) [
  | inl above ↦ omega arith
  | inr upto ↦
      let product = mul-le-mul_right a upto in
      let whole : a * (n / a) + n % a ≡ n = omega arith in
      absurd (omega (arith, product, whole, rest, within))
]

least_between : (n a : ℕ) → 0 < a → 0 < n % a → IsLeastMultiple a n (n + (a - n % a) % a)
least_between n a some rest =
    let same = up_between n a some rest in
    let whole : a * (n / a) + n % a ≡ n = omega arith in
    let less : n % a < a = mod-lt n some in
    let next : n + (a - n % a) ≡ (n / a + 1) * a = omega (arith, whole, less) in
    record {
      factor = n / a + 1;
      multiple = same ∙ next;
      reaches = omega (arith, same);
      least = λ k within.
          let product = mul-le-mul_right a (above_quotient n a k some rest within) in
          omega (arith, same, next, product);
    }

-- a number of bytes is rounded up to the least multiple of its alignment
pub up_is_least_multiple : (n a : ℕ) → IsLeastMultiple (alignment a) n (up n a)
unfolding up
up_is_least_multiple n a =
    let some : 0 < alignment a = omega arith in
    elim (cases_lt 0 (n % alignment a)) [
      | inl rest ↦ least_between n (alignment a) some rest
      | inr none ↦ least_at_multiple n (alignment a) some (omega (arith, none))
    ]
