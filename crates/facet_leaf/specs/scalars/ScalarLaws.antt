-- What holds of the results of `Scalar`.
use Rattle.std.proofs.Common.{◌≡◌, ◌↔◌, ◌∙◌, refl, sym, ℕ, ℤ, pos, Bool, true, false, not, ◌&&◌, cond, nat_eq, ap, List, Option, None, Some, IfSome, IsSome, option_and_then, option_map, true≢false}
use Rattle.std.specs.Cmp.{IsEquivalence, IsPartialOrder, IsTotalOrder, Equal-is, and_equiv, both_tied, first_so, int_cmp_total, int_eq_equiv, on_equiv, on_total, po, second_so, signed_Decides, then_total}
use Rattle.std.specs.Cmp.Lexicographic.{bytes_decides, nat_list_cmp_total, nat_list_eq_equiv, slice_cmp, texts_ties}
use Rattle.std.specs.Ordering.{is_eq, nat_cmp, int_cmp, int_eq}
use Rattle.std.specs.declared.cmp.Ordering.TheVariants.{Equal}
use Rattle.std.specs.Str.{bytes_eq, chars, is_utf8}
use Rattle.std.proofs.lemmas.Cmp.{nat_eq_equiv}
use Rattle.facet_base.specs.ScalarType.{rank_of}
use Rattle.facet_base.specs.declared.characteristic.Characteristic.TheVariants as characteristic
use Rattle.facet_base.specs.declared.scalar_type.ScalarType.{ScalarType}
use Rattle.facet_base.specs.declared.scalar_type.ScalarType.TheVariants as kind
use Rattle.facet_leaf.specs.declared.conversion.Conversion.TheVariants.{Unsupported}
use Rattle.facet_leaf.specs.declared.scalars.scalar.Scalar.{Scalar}
use Rattle.facet_leaf.specs.declared.scalars.scalar.Scalar.TheVariants as scalar
use Rattle.facet_leaf.specs.LeafLaws.{IsConversion, IsStored, LeafLaws}
use Rattle.facet_leaf.specs.scalars.Scalar.{bytes_of, conversion_of, has_negative, is_whole, number_of, same_value, scalar_can, scalar_converted, scalar_default, scalar_kind, scalar_order, scalar_same, scalar_writes, signed_of, unsigned_of, whole_of, writes_of}
use Rattle.facet_leaf.specs.scalars.ScalarModel.{scalar_model}
use Rattle.facet_leaf.specs.scalars.ScalarTexts.{has_minus, number_written, only, scalar_parsed, scalar_parsed_bytes, truth_of}

-- a scalar is neither of kind Unit nor of kind Str
is_stored : (x : Scalar) → IsStored (scalar_kind x)
is_stored (scalar.Bool _) = tt
is_stored x = tt

-- every kind can Debug
can_debug : (k : ScalarType) → scalar_can k characteristic.Debug ≡ true
can_debug kind.Unit = refl
can_debug k = refl

-- a kind that can Ord can PartialOrd
ord_can : (k : ScalarType) → scalar_can k characteristic.Ord ≡ true → scalar_can k characteristic.PartialOrd ≡ true
ord_can kind.Unit h = h
ord_can k h = h

-- a kind that can PartialOrd can PartialEq
partial_ord_can : (k : ScalarType) → scalar_can k characteristic.PartialOrd ≡ true → scalar_can k characteristic.PartialEq ≡ true
partial_ord_can kind.Unit h = h
partial_ord_can k h = h

-- having the same value is an equivalence
value_equivalence : IsEquivalence same_value
value_equivalence = and_equiv (on_equiv number_of int_eq_equiv) (on_equiv bytes_of nat_list_eq_equiv)

-- equality is an equivalence
equivalence : IsEquivalence scalar_same
equivalence = and_equiv (on_equiv (λ x. rank_of (scalar_kind x)) nat_eq_equiv) value_equivalence

-- of two scalars of one kind equality looks at the value alone
pub same_of_one_kind : (x y : Scalar) → scalar_kind x ≡ scalar_kind y → scalar_same x y ≡ same_value x y
same_of_one_kind x y one_kind =
    sym (λ i. nat_eq (rank_of (scalar_kind x)) (rank_of (one_kind i)) && same_value x y)
    ∙ ap (λ test. test && same_value x y) (nat_eq_equiv.refl (rank_of (scalar_kind x)))

-- the order is a total one
total : IsTotalOrder scalar_order
total = then_total (on_total number_of int_cmp_total) (on_total bytes_of nat_list_cmp_total)

-- two scalars have the same value where the order is Equal
ties : (x y : Scalar) → same_value x y ≡ is_eq (scalar_order x y)
ties x y = both_tied (int_eq (number_of x) (number_of y)) (bytes_eq (bytes_of x) (bytes_of y)) (int_cmp (number_of x) (number_of y)) (slice_cmp nat_cmp (bytes_of x) (bytes_of y)) refl (texts_ties (bytes_of x) (bytes_of y))

-- the order is a partial one up to the value
partial : IsPartialOrder same_value (λ x y. Some (scalar_order x y))
partial = po total ties

-- of two scalars of one kind the order is Equal exactly where they are equal
order_equal : (x y : Scalar) → scalar_kind x ≡ scalar_kind y → (scalar_order x y ≡ Equal) ↔ (scalar_same x y ≡ true)
order_equal x y one_kind =
    let tied = same_of_one_kind x y one_kind ∙ ties x y in
    (λ e. tied ∙ (Equal-is (scalar_order x y)).1 e, λ e. (Equal-is (scalar_order x y)).0 (sym tied ∙ e))

-- the same of the partial order
partial_equal : (x y : Scalar) → scalar_kind x ≡ scalar_kind y → (Some (scalar_order x y) ≡ Some Equal) ↔ (scalar_same x y ≡ true)
partial_equal x y one_kind =
    let value = same_of_one_kind x y one_kind in
    (λ e. value ∙ (partial.matches_eq x y).1 e, λ e. (partial.matches_eq x y).0 (sym value ∙ e))

-- equal scalars of one kind write the same
writes_same : (x y : Scalar) → scalar_kind x ≡ scalar_kind y → scalar_same x y ≡ true → scalar_writes x ≡ scalar_writes y
writes_same x y one_kind equal =
    let same = sym (same_of_one_kind x y one_kind) ∙ equal in
    let numbers = (signed_Decides (number_of x) (number_of y)).0 (first_so (int_eq (number_of x) (number_of y)) (bytes_eq (bytes_of x) (bytes_of y)) same) in
    let texts = (bytes_decides (bytes_of x) (bytes_of y)).0 (second_so (int_eq (number_of x) (number_of y)) (bytes_eq (bytes_of x) (bytes_of y)) same) in
    λ i. writes_of (one_kind i) (numbers i) (texts i)

-- what is made of a value that may be missing has the kind that each made one has
mapped : {A : Type 0} (f : A → Scalar) (k : ScalarType) → ((a : A) → scalar_kind (f a) ≡ k) → (o : Option A) → IfSome (option_map f o) (λ x. scalar_kind x ≡ k)
mapped f k h None = tt
mapped f k h (Some a) = h a

-- what a test lets through has its kind
chosen : (x : Scalar) (k : ScalarType) → scalar_kind x ≡ k → (b : Bool) → IfSome (cond b (Some x) None) (λ y. scalar_kind y ≡ k)
chosen x k h true = h
chosen x k h false = tt

-- a whole number of a kind has that kind
whole_kind : (k : ScalarType) (z : ℤ) → IfSome (whole_of k z) (λ x. scalar_kind x ≡ k)
whole_kind kind.U8 z = mapped scalar.U8 kind.U8 (λ _. refl) (unsigned_of 8 z)
whole_kind kind.U16 z = mapped scalar.U16 kind.U16 (λ _. refl) (unsigned_of 16 z)
whole_kind kind.U32 z = mapped scalar.U32 kind.U32 (λ _. refl) (unsigned_of 32 z)
whole_kind kind.U64 z = mapped scalar.U64 kind.U64 (λ _. refl) (unsigned_of 64 z)
whole_kind kind.U128 z = mapped scalar.U128 kind.U128 (λ _. refl) (unsigned_of 128 z)
whole_kind kind.USize z = mapped scalar.USize kind.USize (λ _. refl) (unsigned_of 64 z)
whole_kind kind.I8 z = mapped scalar.I8 kind.I8 (λ _. refl) (signed_of 7 z)
whole_kind kind.I16 z = mapped scalar.I16 kind.I16 (λ _. refl) (signed_of 15 z)
whole_kind kind.I32 z = mapped scalar.I32 kind.I32 (λ _. refl) (signed_of 31 z)
whole_kind kind.I64 z = mapped scalar.I64 kind.I64 (λ _. refl) (signed_of 63 z)
whole_kind kind.I128 z = mapped scalar.I128 kind.I128 (λ _. refl) (signed_of 127 z)
whole_kind kind.ISize z = mapped scalar.ISize kind.ISize (λ _. refl) (signed_of 63 z)
whole_kind k z = tt

-- a whole number that a text is has the kind that was asked for
whole_parsed_kind : (k : ScalarType) (refused : Bool) (written : Option ℤ) → IfSome (cond refused None (option_and_then (whole_of k) written)) (λ x. scalar_kind x ≡ k)
whole_parsed_kind k true written = tt
whole_parsed_kind k false None = tt
whole_parsed_kind k false (Some z) = whole_kind k z

-- a scalar that a text is has the kind that was asked for
parsed_kind : (k : ScalarType) (text : List ℕ) → IfSome (scalar_parsed k text) (λ x. scalar_kind x ≡ k)
unfolding scalar_parsed
parsed_kind kind.Bool text = mapped scalar.Bool kind.Bool (λ _. refl) (truth_of text)
parsed_kind kind.Char text = mapped scalar.Char kind.Char (λ _. refl) (only (chars text))
parsed_kind kind.String text = refl
parsed_kind k text = whole_parsed_kind k (has_minus text && not (has_negative k)) (number_written text)

-- a scalar that bytes are has the kind that was asked for
parsed_bytes_kind : (k : ScalarType) (text : List ℕ) → IfSome (scalar_parsed_bytes k text) (λ x. scalar_kind x ≡ k)
parsed_bytes_kind kind.String text = chosen (scalar.String text) kind.String refl (is_utf8 text)
parsed_bytes_kind k text = tt

-- a default has its kind
default_kind : (k : ScalarType) → IfSome (scalar_default k) (λ x. scalar_kind x ≡ k)
default_kind kind.Bool = refl
default_kind kind.Char = refl
default_kind kind.String = refl
default_kind k = whole_kind k (pos 0)

-- each kind that can Default has one
default_there : (k : ScalarType) → scalar_can k characteristic.Default ≡ true → IsSome (scalar_default k)
default_there kind.Unit h = absurd (true≢false (sym h))
default_there kind.Str h = absurd (true≢false (sym h))
default_there k h = refl

-- what a scalar becomes is of the kind, or the scalar itself
converted_to : (k : ScalarType) (x : Scalar) (o : Option Scalar) → IfSome o (λ y. scalar_kind y ≡ k) → IsConversion scalar_model k x (conversion_of x o)
converted_to k x None h = refl
converted_to k x (Some y) h = h

-- the same behind a test
converted_where : (k : ScalarType) (x : Scalar) (b : Bool) → IsConversion scalar_model k x (cond b (conversion_of x (whole_of k (number_of x))) (Unsupported x))
converted_where k x true = converted_to k x (whole_of k (number_of x)) (whole_kind k (number_of x))
converted_where k x false = refl

-- what is converted into a kind is of it, and what isn't is the scalar that was given
conversion : (k : ScalarType) (x : Scalar) → IsConversion scalar_model k x (scalar_converted k x)
conversion k x = converted_where k x (is_whole (scalar_kind x))

-- all the laws of leaves
pub scalar_laws : LeafLaws scalar_model
scalar_laws = record {
  stored = is_stored;
  can_debug = can_debug;
  ord_can_partial_ord = ord_can;
  partial_ord_can_partial_eq = partial_ord_can;
  same_reflexive = λ x _. equivalence.refl x;
  same_symmetric = λ x y _. equivalence.symm x y;
  same_transitive = λ x y z _ _ p q. equivalence.congr x y z p ∙ q;
  order_reversed = λ x y _. total.antisymm y x;
  order_transitive = λ x y z _ _ p q. total.trans x y z p q;
  order_equal = λ x y have. order_equal x y have.one_kind;
  partial_total = λ x y _. refl;
  partial_equal = λ x y have. partial_equal x y have.one_kind;
  partial_reversed = λ x y _. partial.antisymm y x;
  writes_same = λ x y have _ same. writes_same x y have.one_kind same;
  cloned_kind = λ x _. refl;
  cloned_same = λ x _ _. equivalence.refl x;
  parsed_kind = parsed_kind;
  parsed_bytes_kind = parsed_bytes_kind;
  default_kind = default_kind;
  default_there = default_there;
  conversion = conversion;
}
