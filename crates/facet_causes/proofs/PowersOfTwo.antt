-- Powers of two divide each other.
use Rattle.std.proofs.Common.{◌≡◌, ℕ, zero, suc, ◌+◌, ◌-◌, ◌*◌, ◌/◌, ◌%◌, ◌^◌, ◌<◌, ◌≤◌, max, count_ones, ap, ◌∙◌, inl, inr, arith, pow-add, pow-suc, pow_pos, sym, subst₂}
use Rattle.std.specs.Int.{IsPowerOfTwo}
use Rattle.std.specs.Int.Count.{ones_step}
use Rattle.std.proofs.Math.Nat.{mod_self, mul-mod_right}
use Rattle.std.proofs.lemmas.Bool.{cases_lt}
use Rattle.std.proofs.lemmas.Nat.{ones_le_self, pow_below, zero_from_ones}

one_bit : (d n : ℕ) → n ≤ d → count_ones n ≡ 1 → IsPowerOfTwo n
one_bit zero n upto one = let few = ones_le_self n in absurd (omega (arith, few, one, upto))
one_bit (suc d) n upto one = elim (cases_lt 0 (n % 2)) [
  | inl odd ↦
      let step = ones_step n in
      let none = zero_from_ones (n / 2) (omega (arith, step, one, odd)) in
      (0, omega (arith, none, odd))
  | inr even ↦
      let step = ones_step n in
      let few = ones_le_self n in
      let half = one_bit d (n / 2) (omega (arith, upto, few, one)) (omega (arith, step, one, even)) in
      let twice : n ≡ n / 2 * 2 = omega (arith, even) in
      (suc half.0, twice ∙ ap (λ h. h * 2) half.1 ∙ sym (pow-suc 2 half.0))
]

-- a number of which one bit is set is a power of two
pub power_of_one_bit : (n : ℕ) → count_ones n ≡ 1 → IsPowerOfTwo n
power_of_one_bit n one = one_bit n n (omega arith) one

pub power_positive : (n : ℕ) → IsPowerOfTwo n → 0 < n
power_positive n power = let some = pow_pos power.0 in omega (arith, some, power.1)

of_powers : (j k : ℕ) → 2 ^ j ≤ 2 ^ k → 2 ^ k % 2 ^ j ≡ 0
of_powers j k upto = elim (cases_lt k j) [
  | inl below ↦ let less = pow_below k j below in absurd (omega (arith, less, upto))
  | inr above ↦
      let split : j + (k - j) ≡ k = omega (arith, above) in
      ap (λ n. n % 2 ^ j) (ap (λ n. 2 ^ n) (sym split) ∙ pow-add 2 j (k - j)) ∙ mul-mod_right (2 ^ j) (2 ^ (k - j))
]

-- the lower of two powers divides the other
pub power_divides : (a b : ℕ) → IsPowerOfTwo a → IsPowerOfTwo b → a ≤ b → b % a ≡ 0
power_divides a b low high upto = subst₂ (λ x y. y % x ≡ 0) (sym low.1) (sym high.1) (of_powers low.0 high.0 (subst₂ (λ x y. x ≤ y) low.1 high.1 upto))

-- the greater of two powers is a multiple of both
pub greater_is_multiple : (a b : ℕ) → IsPowerOfTwo a → IsPowerOfTwo b → (max a b % a ≡ 0) × (max a b % b ≡ 0)
greater_is_multiple a b one other = elim (cases_lt a b) [
  | inl less ↦
      let same : max a b ≡ b = omega (arith, less) in
      (ap (λ n. n % a) same ∙ power_divides a b one other (omega (arith, less)), ap (λ n. n % b) same ∙ mod_self b)
  | inr upto ↦
      let same : max a b ≡ a = omega (arith, upto) in
      (ap (λ n. n % a) same ∙ mod_self a, ap (λ n. n % b) same ∙ power_divides b a other one upto)
]
