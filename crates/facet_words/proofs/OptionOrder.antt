-- Options that stand in their order.
use Rattle.std.proofs.Common.{◌≡◌, ℕ, ◌+◌, ◌<◌, ◌≤◌, ◌&&◌, Bool, true, false, List, [], ◌∷◌, drop, get_or, length, refl, sym, ap, ◌∙◌, arith, nat_le}
use Rattle.std.specs.List.{list_all}
use Rattle.std.proofs.lemmas.Bool.{le-leb, leb-true}
use Rattle.std.proofs.lemmas.List.{at_drop_more}
use Rattle.facet_words.specs.declared.options.Opt.{Opt}
use Rattle.facet_words.specs.declared.options.Opt.TheVariants.{Repr, Packed, Id, Mod, Param, Base, Dep}
use Rattle.facet_words.specs.Options.{are_ordered, next_rank, rank}
use Rattle.facet_words.proofs.WordBytes.{all_pass}

-- options are in order, and all of them have this rank at least
abbrev pub are_ordered_from : ℕ → List Opt → Bool
are_ordered_from least options = list_all (λ o. nat_le least (rank o)) options && are_ordered options

-- every option may be the first
pub from_none : (options : List Opt) → are_ordered_from 0 options ≡ are_ordered options
from_none options = ap (λ t. t && are_ordered options) (all_from options)
  where
    all_from : (options : List Opt) → list_all (λ o. nat_le 0 (rank o)) options ≡ true
    all_from [] = refl
    all_from (o ∷ options) = (λ i. le-leb 0 (rank o) (omega arith) i && all_from options i)

-- what may follow an option has its rank at least
rank_rises : (o : Opt) → rank o ≤ next_rank o
rank_rises (Repr b) = omega arith
rank_rises Packed = omega arith
rank_rises (Id n) = omega arith
rank_rises (Mod path) = omega arith
rank_rises (Param name shape) = omega arith
rank_rises (Base v) = omega arith
rank_rises (Dep p shape) = omega arith

-- a weaker test beside a stronger one says nothing more
absorbed : (h l n a : Bool) → h ≡ true → (n ≡ true → l ≡ true) → (n && a) ≡ ((h && l) && (n && a))
absorbed true true true a h e = refl
absorbed true false true a h e = let no : false ≡ true = e refl in absurd cc
absorbed true true false a h e = refl
absorbed true false false a h e = refl
absorbed false l n a h e = let no : ⊥ = cc in absurd no

-- behind an option that may stand
order_goes_on : (least : ℕ) (o : Opt) (options : List Opt) → least ≤ rank o → are_ordered_from (next_rank o) options ≡ are_ordered_from least (o ∷ options)
order_goes_on least o options h =
    absorbed _ _ _ (are_ordered options) (le-leb _ _ h)
    (all_pass (λ p. nat_le (next_rank o) (rank p)) (λ p. nat_le least (rank p)) (λ p e. let behind : next_rank o ≤ rank p = leb-true _ _ e in let rises = rank_rises o in le-leb _ _ (omega arith)) options)

-- a loop's step over an option that may stand
pub order_kept : (options : List Opt) (i least next : ℕ) (o : Opt) (all : Bool) → i < length options → o ≡ get_or options i o → next ≡ next_rank o → least ≤ rank o
    → are_ordered_from least (drop i options) ≡ all → are_ordered_from next (drop (i + 1) options) ≡ all
order_kept options i least next o all within here is_next may e =
    ap (λ n. are_ordered_from n (drop (i + 1) options)) is_next
    ∙ order_goes_on least o (drop (i + 1) options) may
    ∙ ap (λ p. are_ordered_from least (p ∷ drop (i + 1) options)) here
    ∙ sym (at_drop_more (are_ordered_from least) options i o within)
    ∙ e
