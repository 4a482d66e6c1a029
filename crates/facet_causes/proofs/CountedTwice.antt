-- What passes a test at two indices is counted twice.
use Rattle.std.proofs.Common.{◌≡◌, ℕ, ◌+◌, ◌<◌, Bool, true, cond, List, count_by, get_or, length, sum_by, take, ap, arith}
use Rattle.std.proofs.lemmas.List.{take-take}
use Rattle.std.proofs.lemmas.List.Sums.{count_by_more_yes, sum_by-take-le}

pub counted_twice : {X : Type 0} (p : X → Bool) (xs : List X) (i j : ℕ) (d : X) → i < j → j < length xs → p (get_or xs i d) ≡ true → p (get_or xs j d) ≡ true → 1 < count_by p xs
counted_twice {X} p xs i j d before below first second =
    let weight : X → ℕ = λ x. cond (p x) 1 0 in
    let one = count_by_more_yes p xs i d (omega (arith, before, below)) first in
    let two = count_by_more_yes p xs j d below second in
    let upto_second = sum_by-take-le weight (take j xs) (i + 1) in
    let same = ap (sum_by weight) (take-take (i + 1) j xs (omega (arith, before))) in
    let all = sum_by-take-le weight xs (j + 1) in
    omega (arith, one, two, upto_second, same, all)
