-- Each discriminant of an enum names one variant. It holds of each shape of a list that is well formed.
use Rattle.std.specs.Prelude.{◌≡◌, ℕ, ◌≤◌, ℤ, IsTrue, All, List, Some, length, slice_get}
use Rattle.facet_causes.specs.Reading.{kind_in}
use Rattle.facet_outline.specs.Discriminant.{IsOfRepr, discriminants_of_kind, is_rust_repr, repr_of_kind}
use Rattle.facet_shape.specs.declared.shape.Shape.{Shape}

module _ (shapes : List Shape) where
  -- the discriminants of the values of a shape, in the order of the variants
  abbrev pub discriminants_in : Shape → List ℤ
  discriminants_in shape = discriminants_of_kind (kind_in shapes shape) shape.ty

  -- variants with one discriminant are one variant, each discriminant is a number of the representation's type, and one byte tells the variants apart where Rust chooses
  pub record VariantsAreDistinct (shape : Shape) : Type 0 where
    pub one : (i j : ℕ) (z : ℤ) → slice_get (discriminants_in shape) i ≡ Some z → slice_get (discriminants_in shape) j ≡ Some z → i ≡ j
    pub fit : All (IsOfRepr (repr_of_kind (kind_in shapes shape) shape.ty)) (discriminants_in shape)
    pub few : IsTrue (is_rust_repr (repr_of_kind (kind_in shapes shape) shape.ty)) → length (discriminants_in shape) ≤ 256
