-- What holds of the results of every leaf type.
use Rattle.std.specs.Prelude.{◌≡◌, ℕ, true, List, Some, IfSome, IsSome, option_map, ◌↔◌}
use Rattle.std.specs.Ordering.{ordering_reverse}
use Rattle.std.specs.declared.cmp.Ordering.TheVariants.{Less, Equal}
use Rattle.facet_base.specs.declared.characteristic.Characteristic.{Characteristic}
use Rattle.facet_base.specs.declared.characteristic.Characteristic.TheVariants as characteristic
use Rattle.facet_base.specs.declared.scalar_type.ScalarType.{ScalarType}
use Rattle.facet_base.specs.declared.scalar_type.ScalarType.TheVariants as kind
use Rattle.facet_leaf.specs.declared.conversion.Conversion.{Conversion}
use Rattle.facet_leaf.specs.declared.conversion.Conversion.TheVariants.{Converted, Unsupported, Failed}
use Rattle.facet_leaf.specs.LeafModel.{LeafModel}

-- a kind that leaves may be of
abbrev pub IsStored : ScalarType → Type 0
IsStored kind.Unit = ⊥
IsStored kind.Str = ⊥
IsStored _ = Unit {0}

-- what is converted into a kind is of it, and what isn't is the leaf that was given
abbrev pub IsConversion : {L : Type 0} → LeafModel L → ScalarType → L → Conversion L → Type 0
IsConversion m k x (Converted y) = m.kind y ≡ k
IsConversion m k x (Unsupported y) = y ≡ x
IsConversion m k x (Failed y) = y ≡ x

module _ {L : Type 0} (m : LeafModel L) where
  -- two leaves of one kind, which has the capability
  pub record Have (c : Characteristic) (x y : L) : Type 0 where
    pub can : m.can (m.kind x) c ≡ true
    pub one_kind : m.kind x ≡ m.kind y

  -- what every leaf type must prove of its results
  pub record LeafLaws : Type 0 where
    -- a leaf is neither of kind Unit nor of kind Str
    pub stored : (x : L) → IsStored (m.kind x)
    -- every kind can Debug, one that can Ord can PartialOrd, and one that can PartialOrd can PartialEq
    pub can_debug : (k : ScalarType) → m.can k characteristic.Debug ≡ true
    pub ord_can_partial_ord : (k : ScalarType) → m.can k characteristic.Ord ≡ true → m.can k characteristic.PartialOrd ≡ true
    pub partial_ord_can_partial_eq : (k : ScalarType) → m.can k characteristic.PartialOrd ≡ true → m.can k characteristic.PartialEq ≡ true
    -- equality is an equivalence
    pub same_reflexive : (x : L) → m.can (m.kind x) characteristic.PartialEq ≡ true → m.same x x ≡ true
    pub same_symmetric : (x y : L) → Have characteristic.PartialEq x y → m.same x y ≡ m.same y x
    pub same_transitive : (x y z : L) → Have characteristic.PartialEq x y → Have characteristic.PartialEq y z → m.same x y ≡ true → m.same y z ≡ true → m.same x z ≡ true
    -- the total order is one, and returns Equal exactly where the leaves are equal
    pub order_reversed : (x y : L) → Have characteristic.Ord x y → m.order y x ≡ ordering_reverse (m.order x y)
    pub order_transitive : (x y z : L) → Have characteristic.Ord x y → Have characteristic.Ord y z → m.order x y ≡ Less → m.order y z ≡ Less → m.order x z ≡ Less
    pub order_equal : (x y : L) → Have characteristic.Ord x y → (m.order x y ≡ Equal) ↔ (m.same x y ≡ true)
    -- the partial order returns what the total one does, where both are there; it is Equal exactly where the leaves are equal, and is reversed with its arguments
    pub partial_total : (x y : L) → Have characteristic.Ord x y → m.partial_order x y ≡ Some (m.order x y)
    pub partial_equal : (x y : L) → Have characteristic.PartialOrd x y → (m.partial_order x y ≡ Some Equal) ↔ (m.same x y ≡ true)
    pub partial_reversed : (x y : L) → Have characteristic.PartialOrd x y → m.partial_order y x ≡ option_map ordering_reverse (m.partial_order x y)
    -- equal leaves write the same
    pub writes_same : (x y : L) → Have characteristic.PartialEq x y → m.can (m.kind x) characteristic.Hash ≡ true → m.same x y ≡ true → m.writes x ≡ m.writes y
    -- a clone has its source's kind and is equal to it
    pub cloned_kind : (x : L) → m.can (m.kind x) characteristic.Clone ≡ true → m.kind (m.cloned x) ≡ m.kind x
    pub cloned_same : (x : L) → m.can (m.kind x) characteristic.Clone ≡ true → m.can (m.kind x) characteristic.PartialEq ≡ true → m.same x (m.cloned x) ≡ true
    -- what is made has the kind that was asked for
    pub parsed_kind : (k : ScalarType) (text : List ℕ) → IfSome (m.parsed k text) (λ x. m.kind x ≡ k)
    pub parsed_bytes_kind : (k : ScalarType) (bytes : List ℕ) → IfSome (m.parsed_bytes k bytes) (λ x. m.kind x ≡ k)
    pub default_kind : (k : ScalarType) → IfSome (m.default_of k) (λ x. m.kind x ≡ k)
    -- a kind that can Default has one
    pub default_there : (k : ScalarType) → m.can k characteristic.Default ≡ true → IsSome (m.default_of k)
    -- a conversion returns a leaf of the kind, or the one that was given
    pub conversion : (k : ScalarType) (x : L) → IsConversion m k x (m.converted k x)
