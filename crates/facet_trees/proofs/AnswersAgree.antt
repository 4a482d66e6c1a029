-- Answers of orders and of equality on two values: exchanged, there, and in agreement.
use Rattle.std.proofs.Common.{◌≡◌, ◌↔◌, ◌&&◌, Bool, true, false, if◌then◌else◌, Option, None, Some, IsSome, is_some, refl, ap}
use Rattle.std.specs.Ordering.{is_eq}
use Rattle.std.specs.declared.cmp.Ordering.{Ordering}
use Rattle.std.specs.declared.cmp.Ordering.TheVariants.{Less, Equal, Greater}
use Rattle.facet_trees.specs.Answered.{answer_if}
use Rattle.facet_trees.specs.Equal.{equal_then}
use Rattle.facet_trees.specs.Order.{Answer, IsOrdered, Which, by_partial, by_total, order_then, ordered, reversed}

-- one answer and then another are reversed where each is; the second counts only where the first is Equal
pub reversed_then : (first next back : Answer) → (first ≡ ordered Equal → back ≡ reversed next) → order_then (reversed first) back ≡ reversed (order_then first next)
reversed_then None next back is = refl
reversed_then (Some None) next back is = refl
reversed_then (Some (Some Less)) next back is = refl
reversed_then (Some (Some Equal)) next back is = is refl
reversed_then (Some (Some Greater)) next back is = refl

pub reversed_if : (is_there : Bool) (answer back : Answer) → (is_there ≡ true → back ≡ reversed answer) → answer_if is_there back ≡ reversed (answer_if is_there answer)
reversed_if true answer back is = is refl
reversed_if false answer back is = refl

-- what equals itself reversed is Equal
pub own_reverse : (order : Ordering) → ordered order ≡ reversed (ordered order) → order ≡ Equal
own_reverse Less same = absurd (cc)
own_reverse Equal same = refl
own_reverse Greater same = absurd (cc)

-- the partial order answers, and the total one by an order
abbrev pub IsAnswer : Which → Answer → Type 0
IsAnswer by_partial answer = IsSome answer
IsAnswer by_total answer = IsOrdered answer

pub ordered_answer : (which : Which) (order : Ordering) → IsAnswer which (ordered order)
ordered_answer by_partial order = refl
ordered_answer by_total order = record { order = order; is = refl }

pub some_answer : (which : Which) (answer : Answer) → IsAnswer which answer → IsSome answer
some_answer by_partial answer is = is
some_answer by_total answer is = ap is_some is.is

-- of one answer and then another: the second counts only where the first is Equal
pub answer_then : (which : Which) (first next : Answer) → IsAnswer which first → (first ≡ ordered Equal → IsAnswer which next) → IsAnswer which (order_then first next)
answer_then by_partial None next is more = is
answer_then by_partial (Some None) next is more = refl
answer_then by_partial (Some (Some Less)) next is more = refl
answer_then by_partial (Some (Some Equal)) next is more = more refl
answer_then by_partial (Some (Some Greater)) next is more = refl
answer_then by_total None next is more = is
answer_then by_total (Some None) next is more = is
answer_then by_total (Some (Some Less)) next is more = is
answer_then by_total (Some (Some Equal)) next is more = more refl
answer_then by_total (Some (Some Greater)) next is more = is

pub answer_there : (which : Which) (is_there : Bool) (answer : Answer) → is_there ≡ true → IsAnswer which answer → IsAnswer which (answer_if is_there answer)
answer_there which true answer there is = is
answer_there which false answer there is = absurd (cc)

pub equal_then_there : (first next : Option Bool) → IsSome first → (first ≡ Some true → IsSome next) → IsSome (equal_then first next)
equal_then_there None next is more = is
equal_then_there (Some true) next is more = more refl
equal_then_there (Some false) next is more = refl

pub there_if : {A : Type 0} (is_there : Bool) (answer : Option A) → is_there ≡ true → IsSome answer → IsSome (answer_if is_there answer)
there_if true answer there is = is
there_if false answer there is = absurd (cc)

pub there_else_false : (test : Bool) (answer : Option Bool) → (test ≡ true → IsSome answer) → IsSome (if test then answer else Some false)
there_else_false true answer is = is refl
there_else_false false answer is = refl

-- the same answers with and without their arguments exchanged
pub same_if : (is_there : Bool) (answer back : Option Bool) → (is_there ≡ true → back ≡ answer) → answer_if is_there back ≡ answer_if is_there answer
same_if true answer back is = is refl
same_if false answer back is = refl

pub same_then : (first next back : Option Bool) → (first ≡ Some true → back ≡ next) → equal_then first back ≡ equal_then first next
same_then None next back is = refl
same_then (Some true) next back is = is refl
same_then (Some false) next back is = refl

-- the answers of an order and of equality are there, and the order is Equal exactly where the values are equal
abbrev pub Agree : Answer → Option Bool → Type 0
Agree (Some (Some Equal)) (Some true) = Unit {0}
Agree (Some (Some Less)) (Some false) = Unit {0}
Agree (Some (Some Greater)) (Some false) = Unit {0}
Agree (Some None) (Some false) = Unit {0}
Agree _ _ = ⊥

pub agree_iff : (order : Answer) (equal : Option Bool) → Agree order equal → (order ≡ ordered Equal) ↔ (equal ≡ Some true)
agree_iff None equal agree = absurd agree
agree_iff (Some order) None agree = absurd (nothing_agrees order agree) where
  nothing_agrees : (order : Option Ordering) → Agree (Some order) None → ⊥
  nothing_agrees None agree = agree
  nothing_agrees (Some Less) agree = agree
  nothing_agrees (Some Equal) agree = agree
  nothing_agrees (Some Greater) agree = agree
agree_iff (Some None) (Some true) agree = absurd agree
agree_iff (Some None) (Some false) agree = (λ equal. absurd (cc), λ equal. absurd (cc))
agree_iff (Some (Some Less)) (Some true) agree = absurd agree
agree_iff (Some (Some Less)) (Some false) agree = (λ equal. absurd (cc), λ equal. absurd (cc))
agree_iff (Some (Some Equal)) (Some true) agree = (λ equal. refl, λ equal. refl)
agree_iff (Some (Some Equal)) (Some false) agree = absurd agree
agree_iff (Some (Some Greater)) (Some true) agree = absurd agree
agree_iff (Some (Some Greater)) (Some false) agree = (λ equal. absurd (cc), λ equal. absurd (cc))

-- of leaves
pub agree_of : (order : Option Ordering) (equal : Bool) → (order ≡ Some Equal) ↔ (equal ≡ true) → Agree (Some order) (Some equal)
agree_of None true iff = let e = iff.1 refl in absurd (cc)
agree_of None false iff = tt
agree_of (Some Less) true iff = let e = iff.1 refl in absurd (cc)
agree_of (Some Less) false iff = tt
agree_of (Some Equal) true iff = tt
agree_of (Some Equal) false iff = let e = iff.0 refl in absurd (cc)
agree_of (Some Greater) true iff = let e = iff.1 refl in absurd (cc)
agree_of (Some Greater) false iff = tt

-- of one answer and then another, where equality makes a test first; the second counts only where the first is Equal
pub agree_then : (test : Bool) (order next : Answer) (equal after : Option Bool) → Agree order equal
    → (order ≡ ordered Equal → Agree next (if test then after else Some false)) → Agree (order_then order next) (if test then equal_then equal after else Some false)
agree_then test None next equal after agree more = absurd agree
agree_then test (Some None) next None after agree more = absurd agree
agree_then test (Some None) next (Some true) after agree more = absurd agree
agree_then true (Some None) next (Some false) after agree more = tt
agree_then false (Some None) next (Some false) after agree more = tt
agree_then test (Some (Some Less)) next None after agree more = absurd agree
agree_then test (Some (Some Less)) next (Some true) after agree more = absurd agree
agree_then true (Some (Some Less)) next (Some false) after agree more = tt
agree_then false (Some (Some Less)) next (Some false) after agree more = tt
agree_then test (Some (Some Equal)) next None after agree more = absurd agree
agree_then true (Some (Some Equal)) next (Some true) after agree more = more refl
agree_then false (Some (Some Equal)) next (Some true) after agree more = more refl
agree_then test (Some (Some Equal)) next (Some false) after agree more = absurd agree
agree_then test (Some (Some Greater)) next None after agree more = absurd agree
agree_then test (Some (Some Greater)) next (Some true) after agree more = absurd agree
agree_then true (Some (Some Greater)) next (Some false) after agree more = tt
agree_then false (Some (Some Greater)) next (Some false) after agree more = tt

pub agree_if : (here there : Bool) (order : Answer) (equal : Option Bool) → here ≡ true → there ≡ true → Agree order equal → Agree (answer_if here order) (answer_if there equal)
agree_if true true order equal is also agree = agree
agree_if true false order equal is also agree = absurd (cc)
agree_if false there order equal is also agree = absurd (cc)

-- ranks and lengths first: the parts count only where the ranks are equal
pub agree_ranks : (ranks : Ordering) (test : Bool) (parts : Answer) (equal : Option Bool) → (ranks ≡ Equal → Agree parts (if test then equal else Some false))
    → Agree (order_then (ordered ranks) parts) (if is_eq ranks && test then equal else Some false)
agree_ranks Less test parts equal agree = tt
agree_ranks Equal test parts equal agree = agree refl
agree_ranks Greater test parts equal agree = tt

pub same_tests : (test : Bool) (answer back : Option Bool) → (test ≡ true → back ≡ answer) → (if test then back else Some false) ≡ (if test then answer else Some false)
same_tests true answer back is = is refl
same_tests false answer back is = refl
