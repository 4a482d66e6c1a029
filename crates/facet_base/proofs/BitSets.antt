-- Which bits the bitwise operations have.
use Rattle.std.proofs.Common.{refl, ◌≡◌, ◌∙◌, sym, ap, ℕ, zero, suc, ◌+◌, ◌-◌, ◌*◌, ◌^◌, ◌<◌, ◌⊎◌, ◌↔◌, inl, inr, IsBitSet, IsTrue, arith, min}
use Rattle.std.proofs.lemmas.Nat.{pow_pos, pow_below, bit_set_by_shift, and-not}
use Rattle.std.proofs.lemmas.Nat.Bits.{shr_and_one, bit_at_and, bit_at_or, bit_at-lt, bit_at_above, same_from_bits, and_pow}
use Rattle.std.proofs.lemmas.Bool.{eqb-true, eq-eqb, cases_lt}
use Rattle.std.specs.Int.{bit_at}
use Rattle.std.specs.Int.RustNames.{bit_and, bit_or}
use Rattle.bitflags.specs.Sets.{without}
use Rattle.facet_base.specs.Flags.{contains_flag, IsPart, IsUnion, IsIntersection, IsDifference}

-- a bit is set exactly where the number has a 1 there
bit_of_set : (n i : ℕ) → IsBitSet n i → bit_at n i ≡ 1
bit_of_set n i is = sym (shr_and_one n i) ∙ (bit_set_by_shift n i).1 is

set_of_bit : (n i : ℕ) → bit_at n i ≡ 1 → IsBitSet n i
set_of_bit n i one = (bit_set_by_shift n i).0 (shr_and_one n i ∙ one)

below_two : (b : ℕ) → b < 2 → (b ≡ 0) ⊎ (b ≡ 1)
below_two zero small = inl refl
below_two (suc zero) small = inr refl
below_two (suc (suc b)) small = absurd (omega arith)

-- a bit is 0 or 1
bit_cases : (n i : ℕ) → (bit_at n i ≡ 0) ⊎ (bit_at n i ≡ 1)
bit_cases n i = below_two (bit_at n i) (bit_at-lt n i)

-- the bitwise operations are those of sets of bits
pub or_is_union : (a b : ℕ) → IsUnion a b (bit_or a b)
or_is_union a b i = (
  λ is. let one = bit_of_set (bit_or a b) i is in
      elim (bit_cases a i) [
        | inl none ↦ inr (set_of_bit b i (omega (arith, bit_at_or a b i, one, none, bit_at-lt b i)))
        | inr some ↦ inl (set_of_bit a i some)
      ],
  elim [
    | inl is ↦ set_of_bit (bit_or a b) i (omega (arith, bit_at_or a b i, bit_of_set a i is, bit_at-lt b i))
    | inr is ↦ set_of_bit (bit_or a b) i (omega (arith, bit_at_or a b i, bit_of_set b i is, bit_at-lt a i))
  ],
)

pub and_is_intersection : (a b : ℕ) → IsIntersection a b (bit_and a b)
and_is_intersection a b i = (
  λ is. let one = bit_of_set (bit_and a b) i is in (
    set_of_bit a i (omega (arith, bit_at_and a b i, one, bit_at-lt a i, bit_at-lt b i)),
    set_of_bit b i (omega (arith, bit_at_and a b i, one, bit_at-lt a i, bit_at-lt b i)),
  ),
  λ both. set_of_bit (bit_and a b) i (omega (arith, bit_at_and a b i, bit_of_set a i both.0, bit_of_set b i both.1)),
)

-- below the size, a number has exactly the bits that its complement hasn't
bit_of_complement : (size b i : ℕ) → b < 2 ^ size → i < size → bit_at (2 ^ size - 1 - b) i + bit_at b i ≡ 1
bit_of_complement size b i fits within =
    let rest = 2 ^ size - 1 - b in
    let whole = and-not size b (2 ^ i) fits (pow_below i size within) in
    let high = and_pow rest i in
    let low = and_pow b i in
    let some = pow_pos i in
    elim (bit_cases rest i) [
      | inl x ↦ elim (bit_cases b i) [
        | inl y ↦ absurd (omega (arith, whole, high ∙ ap (λ n. n * 2 ^ i) x, low ∙ ap (λ n. n * 2 ^ i) y, some))
        | inr y ↦ omega (arith, x, y)
      ]
      | inr x ↦ elim (bit_cases b i) [
        | inl y ↦ omega (arith, x, y)
        | inr y ↦ absurd (omega (arith, whole, high ∙ ap (λ n. n * 2 ^ i) x, low ∙ ap (λ n. n * 2 ^ i) y, some))
      ]
    ]

-- without the bits of b, a has exactly those of its bits that b hasn't
bit_of_difference : (size a b i : ℕ) → a < 2 ^ size → b < 2 ^ size → bit_at (without size a b) i ≡ min (bit_at a i) (1 - bit_at b i)
bit_of_difference size a b i fits_a fits_b =
    let both = bit_at_and a (2 ^ size - 1 - b) i in
    elim (cases_lt i size) [
      | inl within ↦ omega (arith, both, bit_of_complement size b i fits_b within, bit_at-lt a i, bit_at-lt b i)
      | inr above ↦ omega (arith, both, bit_at_above a size i fits_a above)
    ]

pub without_is_difference : (size a b : ℕ) → a < 2 ^ size → b < 2 ^ size → IsDifference a b (without size a b)
without_is_difference size a b fits_a fits_b i =
    let bit = bit_of_difference size a b i fits_a fits_b in (
      λ is. let one = bit_of_set (without size a b) i is in (
        set_of_bit a i (omega (arith, bit, one, bit_at-lt a i)),
        λ has. omega (arith, bit, one, bit_of_set b i has),
      ),
      λ both. set_of_bit (without size a b) i (elim (bit_cases b i) [
        | inl none ↦ omega (arith, bit, none, bit_of_set a i both.0)
        | inr some ↦ absurd (both.1 (set_of_bit b i some))
      ]),
    )

-- a set contains a flag exactly where each bit of the flag is one of the set
pub contains_is_part : (set flag : ℕ) → IsTrue (contains_flag set flag) ↔ IsPart flag set
contains_is_part set flag = (
  λ same i is. let e = eqb-true (bit_and set flag) flag same in
      set_of_bit set i (omega (arith, bit_at_and set flag i, ap (λ n. bit_at n i) e, bit_of_set flag i is, bit_at-lt set i)),
  λ part. eq-eqb (bit_and set flag) flag (same_from_bits (bit_and set flag) flag (λ i. elim (bit_cases flag i) [
    | inl none ↦ omega (arith, bit_at_and set flag i, none)
    | inr some ↦ omega (arith, bit_at_and set flag i, some, bit_of_set set i (part i (set_of_bit flag i some)))
  ])),
)
