-- The orders and the equality of leaves, as answers.
use Rattle.std.proofs.Common.{◌≡◌, true, Some, option_map, refl, sym, ap, ◌∙◌}
use Rattle.std.specs.Ordering.{ordering_reverse}
use Rattle.std.specs.declared.cmp.Ordering.{Ordering}
use Rattle.std.specs.declared.cmp.Ordering.TheVariants.{Less, Equal, Greater}
use Rattle.facet_base.specs.declared.characteristic.Characteristic.TheVariants as trait
use Rattle.facet_leaf.specs.LeafLaws.{Have, LeafLaws}
use Rattle.facet_leaf.specs.LeafModel.{LeafModel}
use Rattle.facet_trees.specs.Order.{Which, by_partial, by_total, capability_of, order_of_leaves, ordered}
use Rattle.facet_trees.proofs.AnswerChains.{Chain, chain_of}
use Rattle.facet_trees.proofs.AnswersAgree.{Agree, IsAnswer, agree_of, ordered_answer}

only_less : (order : Ordering) → (order ≡ Equal → ⊥) → (order ≡ Greater → ⊥) → order ≡ Less
only_less Less equal greater = refl
only_less Equal equal greater = absurd (equal refl)
only_less Greater equal greater = absurd (greater refl)

some_equal : (order : Ordering) → Some order ≡ Some Equal → order ≡ Equal
some_equal order same = cc

module _ {L : Type 0} (m : LeafModel L) (laws : LeafLaws m) where
  turned : (x y : L) → Have m trait.Ord x y → Have m trait.Ord y x
  turned x y have = record { can = ap (λ k. m.can k trait.Ord) (sym have.one_kind) ∙ have.can; one_kind = sym have.one_kind }

  joined : (x y z : L) → Have m trait.Ord x y → Have m trait.Ord y z → Have m trait.Ord x z
  joined x y z have also = record { can = have.can; one_kind = have.one_kind ∙ also.one_kind }

  comparable : (x y : L) → Have m trait.Ord x y → Have m trait.PartialEq x y
  comparable x y have = record { can = laws.partial_ord_can_partial_eq (m.kind x) (laws.ord_can_partial_ord (m.kind x) have.can); one_kind = have.one_kind }

  same_back : (x y : L) → Have m trait.Ord x y → m.order x y ≡ Equal → m.same y x ≡ true
  same_back x y have equal = sym (laws.same_symmetric x y (comparable x y have)) ∙ (laws.order_equal x y have).0 equal

  less_back : (x y : L) → Have m trait.Ord x y → m.order x y ≡ Greater → m.order y x ≡ Less
  less_back x y have greater = laws.order_reversed x y have ∙ ap ordering_reverse greater

  greater_back : (x y : L) → Have m trait.Ord x y → m.order x y ≡ Less → m.order y x ≡ Greater
  greater_back x y have less = laws.order_reversed x y have ∙ ap ordering_reverse less

  pub leaf_chain : (x y z : L) → Have m trait.Ord x y → Have m trait.Ord y z → Chain (ordered (m.order x y)) (ordered (m.order y z)) (ordered (m.order x z))
  leaf_chain x y z xy yz =
      let xz = joined x y z xy yz in
      let zx = turned x z xz in
      let yx = turned x y xy in
      let zy = turned y z yz in
      let equal_xz = laws.order_equal x z xz in
      chain_of (m.order x y) (m.order y z) (m.order x z) (laws.order_transitive x y z xy yz)
      (λ less equal. only_less (m.order x z)
      (λ same. let also = (laws.order_equal x y xy).1 (laws.same_transitive x z y (comparable x z xz) (comparable z y zy) (equal_xz.0 same) (same_back y z yz equal)) in cc)
      (λ greater. let back = greater_back z y zy (laws.order_transitive z x y zx xy (less_back x z xz greater) less) in cc))
      (λ equal less. only_less (m.order x z)
      (λ same. let also = (laws.order_equal y z yz).1 (laws.same_transitive y x z (comparable y x yx) (comparable x z xz) (same_back x y xy equal) (equal_xz.0 same)) in cc)
      (λ greater. let back = greater_back y x yx (laws.order_transitive y z x yz zx less (less_back x z xz greater)) in cc))
      (λ equal next. equal_xz.1 (laws.same_transitive x y z (comparable x y xy) (comparable y z yz) ((laws.order_equal x y xy).0 equal) ((laws.order_equal y z yz).0 next)))

  pub leaf_reversed : (which : Which) (x y : L) → Have m (capability_of which) x y → order_of_leaves m which y x ≡ option_map ordering_reverse (order_of_leaves m which x y)
  leaf_reversed by_partial x y have = laws.partial_reversed x y have
  leaf_reversed by_total x y have = ap Some (laws.order_reversed x y have)

  pub leaf_agrees : (which : Which) (x y : L) → Have m (capability_of which) x y → Agree (Some (order_of_leaves m which x y)) (Some (m.same x y))
  leaf_agrees by_partial x y have = agree_of (m.partial_order x y) (m.same x y) (laws.partial_equal x y have)
  leaf_agrees by_total x y have =
      let iff = laws.order_equal x y have in
      agree_of (Some (m.order x y)) (m.same x y) (λ same. iff.0 (some_equal (m.order x y) same), λ same. ap Some (iff.1 same))

pub leaf_answer : {L : Type 0} (m : LeafModel L) (which : Which) (x y : L) → IsAnswer which (Some (order_of_leaves m which x y))
leaf_answer m by_partial x y = refl
leaf_answer m by_total x y = ordered_answer by_total (m.order x y)
