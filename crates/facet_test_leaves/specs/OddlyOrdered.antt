-- The leaf semantics of `OddlyOrdered`, and its laws.
use Rattle.std.proofs.Common.{◌≡◌, ◌↔◌, ◌∙◌, refl, sym, Bool, true, false, cond, ap, Option, None, Some, IfSome, IsSome, is_some, option_map, true≢false}
use Rattle.std.specs.Ordering.{ordering_reverse}
use Rattle.std.specs.declared.cmp.Ordering.{Ordering}
use Rattle.std.specs.declared.cmp.Ordering.TheVariants.{Equal}
use Rattle.facet_base.specs.declared.characteristic.Characteristic.{Characteristic}
use Rattle.facet_base.specs.declared.characteristic.Characteristic.TheVariants as characteristic
use Rattle.facet_base.specs.declared.scalar_type.ScalarType.{ScalarType}
use Rattle.facet_base.specs.declared.scalar_type.ScalarType.TheVariants as kind
use Rattle.facet_leaf.specs.declared.conversion.Conversion.{Conversion}
use Rattle.facet_leaf.specs.declared.conversion.Conversion.TheVariants.{Converted, Unsupported, Failed}
use Rattle.facet_leaf.specs.declared.scalars.scalar.Scalar.{Scalar}
use Rattle.facet_leaf.specs.LeafLaws.{Have, IsConversion, LeafLaws}
use Rattle.facet_leaf.specs.LeafModel.{LeafModel}
use Rattle.facet_leaf.specs.scalars.Scalar.{scalar_can, scalar_kind, scalar_order, scalar_same}
use Rattle.facet_leaf.specs.scalars.ScalarLaws.{scalar_laws}
use Rattle.facet_leaf.specs.scalars.ScalarModel.{scalar_model}
use Rattle.facet_test_leaves.specs.declared.oddly_ordered.OddlyOrdered.{OddlyOrdered}

-- what the leaves can is what scalars can, but that u8 has no order and u16 no total one
abbrev pub odd_can : ScalarType → Characteristic → Bool
odd_can kind.U8 characteristic.PartialOrd = false
odd_can kind.U8 characteristic.Ord = false
odd_can kind.U16 characteristic.Ord = false
odd_can k c = scalar_can k c

-- two u16 are equal or unordered; of the other kinds the order is that of scalars, turned round
abbrev pub odd_partial_order : ScalarType → Scalar → Scalar → Option Ordering
odd_partial_order kind.U16 x y = cond (scalar_same x y) (Some Equal) None
odd_partial_order k x y = Some (scalar_order y x)

-- a scalar as such a leaf
abbrev pub odd : Scalar → OddlyOrdered
odd x = record { scalar = x }

-- a conversion of scalars as one of such leaves
abbrev pub odd_conversion : Conversion Scalar → Conversion OddlyOrdered
odd_conversion (Converted x) = Converted (odd x)
odd_conversion (Unsupported x) = Unsupported (odd x)
odd_conversion (Failed x) = Failed (odd x)

-- what the methods of `OddlyOrdered` return: what those of `Scalar` do, save for the orders
abbrev pub oddly_ordered_model : LeafModel OddlyOrdered
oddly_ordered_model = record {
  can = odd_can;
  hook = scalar_model.hook;
  kind = λ x. scalar_kind x.scalar;
  same = λ x y. scalar_same x.scalar y.scalar;
  partial_order = λ x y. odd_partial_order (scalar_kind x.scalar) x.scalar y.scalar;
  order = λ x y. scalar_order y.scalar x.scalar;
  writes = λ x. scalar_model.writes x.scalar;
  debug = λ x. scalar_model.debug x.scalar;
  display = λ x. scalar_model.display x.scalar;
  parsed = λ k text. option_map odd (scalar_model.parsed k text);
  parsed_bytes = λ k bytes. option_map odd (scalar_model.parsed_bytes k bytes);
  default_of = λ k. option_map odd (scalar_model.default_of k);
  cloned = λ x. x;
  truthy = λ x. scalar_model.truthy x.scalar;
  holds = λ x. scalar_model.holds x.scalar;
  converted = λ k x. odd_conversion (scalar_model.converted k x.scalar);
}

-- what the leaves of a kind can, scalars of it can
scalars_can : (k : ScalarType) (c : Characteristic) → odd_can k c ≡ true → scalar_can k c ≡ true
scalars_can kind.U8 characteristic.PartialOrd h = absurd (true≢false (sym h))
scalars_can kind.U8 characteristic.Ord h = absurd (true≢false (sym h))
scalars_can kind.U16 characteristic.Ord h = absurd (true≢false (sym h))
scalars_can k c h = h

-- the same of two leaves of one kind
scalars_have : (c : Characteristic) (x y : OddlyOrdered) → Have oddly_ordered_model c x y → Have scalar_model c x.scalar y.scalar
scalars_have c x y have = record { can = scalars_can (scalar_kind x.scalar) c have.can; one_kind = have.one_kind }

-- and in the other order
turned : (c : Characteristic) (x y : OddlyOrdered) → Have oddly_ordered_model c x y → Have scalar_model c y.scalar x.scalar
turned c x y have = record {
  can = ap (λ k. scalar_can k c) (sym have.one_kind) ∙ scalars_can (scalar_kind x.scalar) c have.can;
  one_kind = sym have.one_kind;
}

-- every kind can Debug
odd_debug : (k : ScalarType) → odd_can k characteristic.Debug ≡ true
odd_debug kind.U8 = refl
odd_debug kind.U16 = refl
odd_debug kind.Unit = refl
odd_debug k = scalar_laws.can_debug k

-- a kind that can Ord can PartialOrd
odd_ord_can : (k : ScalarType) → odd_can k characteristic.Ord ≡ true → odd_can k characteristic.PartialOrd ≡ true
odd_ord_can kind.U8 h = absurd (true≢false (sym h))
odd_ord_can kind.U16 h = absurd (true≢false (sym h))
odd_ord_can k h = scalar_laws.ord_can_partial_ord k h

-- a kind that can PartialOrd can PartialEq
odd_partial_ord_can : (k : ScalarType) → odd_can k characteristic.PartialOrd ≡ true → odd_can k characteristic.PartialEq ≡ true
odd_partial_ord_can kind.U8 h = absurd (true≢false (sym h))
odd_partial_ord_can k h = scalar_laws.partial_ord_can_partial_eq k h

-- equality is symmetric where the partial order is there
symmetric : (x y : Scalar) → Have scalar_model characteristic.PartialOrd x y → scalar_same x y ≡ scalar_same y x
symmetric x y have = scalar_laws.same_symmetric x y (record { can = scalar_laws.partial_ord_can_partial_eq (scalar_kind x) have.can; one_kind = have.one_kind })

-- what has the total order has the partial one
partially : (x y : Scalar) → Have scalar_model characteristic.Ord x y → Have scalar_model characteristic.PartialOrd x y
partially x y have = record { can = scalar_laws.ord_can_partial_ord (scalar_kind x) have.can; one_kind = have.one_kind }

-- an equivalence with one truth value in place of an equal one
in_place : {A : Type 0} (a b : Bool) → a ≡ b → (A ↔ (b ≡ true)) → A ↔ (a ≡ true)
in_place a b e h = (λ p. e ∙ h.0 p, λ p. h.1 (sym e ∙ p))

-- the total order is Equal exactly where the leaves are equal
odd_order_equal : (x y : OddlyOrdered) → Have oddly_ordered_model characteristic.Ord x y → (scalar_order y.scalar x.scalar ≡ Equal) ↔ (scalar_same x.scalar y.scalar ≡ true)
odd_order_equal x y have =
    in_place (scalar_same x.scalar y.scalar) (scalar_same y.scalar x.scalar)
    (symmetric x.scalar y.scalar (partially x.scalar y.scalar (scalars_have characteristic.Ord x y have)))
    (scalar_laws.order_equal y.scalar x.scalar (turned characteristic.Ord x y have))

-- a kind that can Ord has one order
one_order : (k : ScalarType) (x y : Scalar) → odd_can k characteristic.Ord ≡ true → odd_partial_order k x y ≡ Some (scalar_order y x)
one_order kind.U16 x y h = absurd (true≢false (sym h))
one_order k x y h = refl

-- equal or unordered
chosen : (b : Bool) → (cond b (Some Equal) None ≡ Some Equal) ↔ (b ≡ true)
chosen true = (λ _. refl, λ _. refl)
chosen false = (λ p. ap is_some p, λ p. absurd (true≢false (sym p)))

-- the partial order is Equal exactly where the leaves are equal
partial_equal_of : (k : ScalarType) (x y : Scalar) → ((Some (scalar_order y x) ≡ Some Equal) ↔ (scalar_same x y ≡ true)) → (odd_partial_order k x y ≡ Some Equal) ↔ (scalar_same x y ≡ true)
partial_equal_of kind.U16 x y h = chosen (scalar_same x y)
partial_equal_of k x y h = h

odd_partial_equal : (x y : OddlyOrdered) → Have oddly_ordered_model characteristic.PartialOrd x y → (oddly_ordered_model.partial_order x y ≡ Some Equal) ↔ (scalar_same x.scalar y.scalar ≡ true)
odd_partial_equal x y have =
    partial_equal_of (scalar_kind x.scalar) x.scalar y.scalar
    (in_place (scalar_same x.scalar y.scalar) (scalar_same y.scalar x.scalar)
    (symmetric x.scalar y.scalar (scalars_have characteristic.PartialOrd x y have))
    (scalar_laws.partial_equal y.scalar x.scalar (turned characteristic.PartialOrd x y have)))

-- equal or unordered is the same when turned round
kept : (b : Bool) → cond b (Some Equal) None ≡ option_map ordering_reverse (cond b (Some Equal) None)
kept true = refl
kept false = refl

-- the partial order is reversed with its arguments
partial_reversed_of : (k : ScalarType) (x y : Scalar) → scalar_same y x ≡ scalar_same x y → Some (scalar_order x y) ≡ Some (ordering_reverse (scalar_order y x)) → odd_partial_order k y x ≡ option_map ordering_reverse (odd_partial_order k x y)
partial_reversed_of kind.U16 x y same reversed = ap (λ b. cond b (Some Equal) None) same ∙ kept (scalar_same x y)
partial_reversed_of k x y same reversed = reversed

odd_partial_reversed : (x y : OddlyOrdered) → Have oddly_ordered_model characteristic.PartialOrd x y → oddly_ordered_model.partial_order y x ≡ option_map ordering_reverse (oddly_ordered_model.partial_order x y)
odd_partial_reversed x y have =
    ap (λ k. odd_partial_order k y.scalar x.scalar) (sym have.one_kind)
    ∙ partial_reversed_of (scalar_kind x.scalar) x.scalar y.scalar
    (sym (symmetric x.scalar y.scalar (scalars_have characteristic.PartialOrd x y have)))
    (scalar_laws.partial_reversed y.scalar x.scalar (turned characteristic.PartialOrd x y have))

-- what is made of a scalar that may be missing has its kind
mapped : (k : ScalarType) (o : Option Scalar) → IfSome o (λ x. scalar_kind x ≡ k) → IfSome (option_map odd o) (λ x. scalar_kind x.scalar ≡ k)
mapped k None h = tt
mapped k (Some x) h = h

-- and is there where the scalar is
there : (o : Option Scalar) → IsSome o → IsSome (option_map odd o)
there None h = h
there (Some x) h = refl

-- a conversion of scalars is one of such leaves
converted_as : (k : ScalarType) (x : OddlyOrdered) (c : Conversion Scalar) → IsConversion scalar_model k x.scalar c → IsConversion oddly_ordered_model k x (odd_conversion c)
converted_as k x (Converted y) h = h
converted_as k x (Unsupported y) h = ap odd h
converted_as k x (Failed y) h = ap odd h

-- all the laws of leaves
pub oddly_ordered_laws : LeafLaws oddly_ordered_model
oddly_ordered_laws = record {
  stored = λ x. scalar_laws.stored x.scalar;
  can_debug = odd_debug;
  ord_can_partial_ord = odd_ord_can;
  partial_ord_can_partial_eq = odd_partial_ord_can;
  same_reflexive = λ x h. scalar_laws.same_reflexive x.scalar (scalars_can (scalar_kind x.scalar) characteristic.PartialEq h);
  same_symmetric = λ x y have. scalar_laws.same_symmetric x.scalar y.scalar (scalars_have characteristic.PartialEq x y have);
  same_transitive = λ x y z p q. scalar_laws.same_transitive x.scalar y.scalar z.scalar (scalars_have characteristic.PartialEq x y p) (scalars_have characteristic.PartialEq y z q);
  order_reversed = λ x y have. scalar_laws.order_reversed y.scalar x.scalar (turned characteristic.Ord x y have);
  order_transitive = λ x y z p q less less'. scalar_laws.order_transitive z.scalar y.scalar x.scalar (turned characteristic.Ord y z q) (turned characteristic.Ord x y p) less' less;
  order_equal = odd_order_equal;
  partial_total = λ x y have. one_order (scalar_kind x.scalar) x.scalar y.scalar have.can;
  partial_equal = odd_partial_equal;
  partial_reversed = odd_partial_reversed;
  writes_same = λ x y have can same. scalar_laws.writes_same x.scalar y.scalar (scalars_have characteristic.PartialEq x y have) (scalars_can (scalar_kind x.scalar) characteristic.Hash can) same;
  cloned_kind = λ x _. refl;
  cloned_same = λ x _ h. scalar_laws.same_reflexive x.scalar (scalars_can (scalar_kind x.scalar) characteristic.PartialEq h);
  parsed_kind = λ k text. mapped k (scalar_model.parsed k text) (scalar_laws.parsed_kind k text);
  parsed_bytes_kind = λ k bytes. mapped k (scalar_model.parsed_bytes k bytes) (scalar_laws.parsed_bytes_kind k bytes);
  default_kind = λ k. mapped k (scalar_model.default_of k) (scalar_laws.default_kind k);
  default_there = λ k h. there (scalar_model.default_of k) (scalar_laws.default_there k (scalars_can k characteristic.Default h));
  conversion = λ k x. converted_as k x (scalar_model.converted k x.scalar) (scalar_laws.conversion k x.scalar);
}
