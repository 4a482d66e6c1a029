-- Answers of orders on three values, one after the other.
use Rattle.std.proofs.Common.{◌≡◌, Bool, true, false, None, Some, refl, sym, ap, ◌∙◌, inl, inr}
use Rattle.std.specs.Cmp.{IsTotalOrder}
use Rattle.std.specs.Ordering.{ordering_reverse}
use Rattle.std.specs.declared.cmp.Ordering.{Ordering}
use Rattle.std.specs.declared.cmp.Ordering.TheVariants.{Less, Equal, Greater}
use Rattle.facet_trees.specs.Answered.{answer_if}
use Rattle.facet_trees.specs.Order.{Answer, IsAtMost, order_then, ordered}

-- Of three values, the answers on the first two, on the last two, and on the first and the last: what is at most one that is at most a third is at most the third, and is less where either is.
abbrev pub Chain : Answer → Answer → Answer → Type 0
Chain (Some (Some Less)) (Some (Some Less)) ac = ac ≡ ordered Less
Chain (Some (Some Less)) (Some (Some Equal)) ac = ac ≡ ordered Less
Chain (Some (Some Equal)) (Some (Some Less)) ac = ac ≡ ordered Less
Chain (Some (Some Equal)) (Some (Some Equal)) ac = ac ≡ ordered Equal
Chain _ _ _ = Unit {0}

pub less_after : (o : Answer) → Chain o (ordered Less) (ordered Less)
less_after None = tt
less_after (Some None) = tt
less_after (Some (Some Less)) = refl
less_after (Some (Some Equal)) = refl
less_after (Some (Some Greater)) = tt

pub less_before : (o : Answer) → Chain (ordered Less) o (ordered Less)
less_before None = tt
less_before (Some None) = tt
less_before (Some (Some Less)) = refl
less_before (Some (Some Equal)) = refl
less_before (Some (Some Greater)) = tt

pub greater_after : (o ac : Answer) → Chain o (ordered Greater) ac
greater_after None ac = tt
greater_after (Some None) ac = tt
greater_after (Some (Some Less)) ac = tt
greater_after (Some (Some Equal)) ac = tt
greater_after (Some (Some Greater)) ac = tt

none_after : (o ac : Answer) → Chain o None ac
none_after None ac = tt
none_after (Some None) ac = tt
none_after (Some (Some Less)) ac = tt
none_after (Some (Some Equal)) ac = tt
none_after (Some (Some Greater)) ac = tt

unordered_after : (o ac : Answer) → Chain o (Some None) ac
unordered_after None ac = tt
unordered_after (Some None) ac = tt
unordered_after (Some (Some Less)) ac = tt
unordered_after (Some (Some Equal)) ac = tt
unordered_after (Some (Some Greater)) ac = tt

-- the same of one answer and then another: the second counts only where the first are Equal
pub chain_then : (ab bc ac next_ab next_bc next_ac : Answer) → Chain ab bc ac → (ab ≡ ordered Equal → bc ≡ ordered Equal → Chain next_ab next_bc next_ac)
    → Chain (order_then ab next_ab) (order_then bc next_bc) (order_then ac next_ac)
chain_then None bc ac next_ab next_bc next_ac first next = tt
chain_then (Some None) bc ac next_ab next_bc next_ac first next = tt
chain_then (Some (Some Less)) None ac next_ab next_bc next_ac first next = tt
chain_then (Some (Some Less)) (Some None) ac next_ab next_bc next_ac first next = tt
chain_then (Some (Some Less)) (Some (Some Less)) ac next_ab next_bc next_ac first next = rw first refl
chain_then (Some (Some Less)) (Some (Some Equal)) ac next_ab next_bc next_ac first next = rw first (less_before next_bc)
chain_then (Some (Some Less)) (Some (Some Greater)) ac next_ab next_bc next_ac first next = tt
chain_then (Some (Some Equal)) None ac next_ab next_bc next_ac first next = none_after next_ab (order_then ac next_ac)
chain_then (Some (Some Equal)) (Some None) ac next_ab next_bc next_ac first next = unordered_after next_ab (order_then ac next_ac)
chain_then (Some (Some Equal)) (Some (Some Less)) ac next_ab next_bc next_ac first next = rw first (less_after next_ab)
chain_then (Some (Some Equal)) (Some (Some Equal)) ac next_ab next_bc next_ac first next = rw first (next refl refl)
chain_then (Some (Some Equal)) (Some (Some Greater)) ac next_ab next_bc next_ac first next = greater_after next_ab (order_then ac next_ac)
chain_then (Some (Some Greater)) bc ac next_ab next_bc next_ac first next = tt

pub chain_if : (is_there : Bool) (ab bc ac : Answer) → (is_there ≡ true → Chain ab bc ac) → Chain (answer_if is_there ab) (answer_if is_there bc) (answer_if is_there ac)
chain_if true ab bc ac chain = chain refl
chain_if false ab bc ac chain = tt

pub chain_of : (ab bc ac : Ordering) → (ab ≡ Less → bc ≡ Less → ac ≡ Less) → (ab ≡ Less → bc ≡ Equal → ac ≡ Less) → (ab ≡ Equal → bc ≡ Less → ac ≡ Less)
    → (ab ≡ Equal → bc ≡ Equal → ac ≡ Equal) → Chain (ordered ab) (ordered bc) (ordered ac)
chain_of Less Less ac ll le el ee = ap ordered (ll refl refl)
chain_of Less Equal ac ll le el ee = ap ordered (le refl refl)
chain_of Less Greater ac ll le el ee = tt
chain_of Equal Less ac ll le el ee = ap ordered (el refl refl)
chain_of Equal Equal ac ll le el ee = ap ordered (ee refl refl)
chain_of Equal Greater ac ll le el ee = tt
chain_of Greater bc ac ll le el ee = tt

-- an order in which equal values answer alike, and less ones are less than what is greater
pub chain_total : {K : Type 0} {R : K → K → Ordering} → IsTotalOrder R → (x y z : K) → Chain (ordered (R x y)) (ordered (R y z)) (ordered (R x z))
chain_total {K} {R} total x y z =
    chain_of (R x y) (R y z) (R x z) (total.trans x y z)
    (λ less equal. total.antisymm x z ∙ ap ordering_reverse (sym (total.congr y z x equal)) ∙ sym (total.antisymm x y) ∙ less)
    (λ equal less. total.congr x y z equal ∙ less) (λ equal next. total.congr x y z equal ∙ next)

-- what a chain says
pub chain_less : (ab bc ac : Answer) → Chain ab bc ac → ab ≡ ordered Less → bc ≡ ordered Less → ac ≡ ordered Less
chain_less ab bc ac chain first second = rw (first, second) at chain

pub chain_at_most : (ab bc ac : Answer) → Chain ab bc ac → IsAtMost ab → IsAtMost bc → IsAtMost ac
chain_at_most ab bc ac chain (inl first) (inl second) = inl (rw (first, second) at chain)
chain_at_most ab bc ac chain (inl first) (inr second) = inl (rw (first, second) at chain)
chain_at_most ab bc ac chain (inr first) (inl second) = inl (rw (first, second) at chain)
chain_at_most ab bc ac chain (inr first) (inr second) = inr (rw (first, second) at chain)
