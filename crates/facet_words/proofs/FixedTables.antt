-- Words that stand for one value each are read as these values and written as these words.
use Rattle.std.proofs.Common.{◌≡◌, ℕ, Bool, true, false, cond, List, [], ◌∷◌, Some, bytes_eq, refl, sym, ap, ◌∙◌}
use Rattle.std.specs.List.{list_all}
use Rattle.std.proofs.lemmas.Bool.{and_parts}
use Rattle.std.proofs.lemmas.Option.{same_Some}
use Rattle.std.proofs.lemmas.Slice.Eq.{bytes_eq-Decides}
use Rattle.facet_base.specs.declared.scalar_type.ScalarType.{ScalarType}
use Rattle.facet_base.specs.declared.scalar_type.ScalarType.TheVariants as kind
use Rattle.facet_base.specs.declared.variance.Variance.{Variance}
use Rattle.facet_base.specs.declared.variance.Variance.TheVariants as variance
use Rattle.facet_desc.specs.declared.repr.BaseRepr.{BaseRepr}
use Rattle.facet_desc.specs.declared.repr.BaseRepr.TheVariants as base
use Rattle.facet_desc.specs.declared.repr.EnumRepr.{EnumRepr}
use Rattle.facet_desc.specs.declared.repr.EnumRepr.TheVariants as repr
use Rattle.facet_words.specs.FixedWords.{IsKind, IsRepr, base_of, bases, is_kind, is_repr, kind_of, kinds, repr_of, reprs, spell_base, spell_kind, spell_repr, spell_variance, value_of, variance_of, variances}
use Rattle.facet_words.proofs.WordBytes.{IsWord, word_tested}

-- a value that was found passes a test that all values pass, and its word was looked for
value_spelled : {X : Type 0} (spell : X → List ℕ) (test : X → Bool) (values : List X) (word : List ℕ) (x : X)
    → list_all test values ≡ true → value_of spell values word ≡ Some x → (test x ≡ true) × (spell x ≡ word)
value_spelled spell test [] word x h e = let no : ⊥ = cc in absurd no
value_spelled {X} spell test (y ∷ values) word x h e =
    let parts : (test y ≡ true) × (list_all test values ≡ true) = and_parts _ _ h in
    let cases : (same : Bool) → bytes_eq word (spell y) ≡ same → cond same (Some y) (value_of spell values word) ≡ Some x → (test x ≡ true) × (spell x ≡ word) =
    λ same. elim same as (λ same. bytes_eq word (spell y) ≡ same → cond same (Some y) (value_of spell values word) ≡ Some x → (test x ≡ true) × (spell x ≡ word)) [
      | true ↦ λ here found.
          let this : y ≡ x = same_Some y x found in
          (ap test (sym this) ∙ parts.0, ap spell (sym this) ∙ sym ((bytes_eq-Decides word (spell y)).0 here))
      | false ↦ λ here found. value_spelled spell test values word x parts.1 found
    ] in
    cases (bytes_eq word (spell y)) refl e

-- representations of enums

pub repr_spelled : (word : List ℕ) (r : EnumRepr) → repr_of word ≡ Some r → IsRepr r × (spell_repr r ≡ word)
repr_spelled word r e = value_spelled spell_repr is_repr reprs word r refl e

pub repr_read : (r : EnumRepr) → IsRepr r → repr_of (spell_repr r) ≡ Some r
repr_read repr.RustNPO h = let no : ⊥ = cc in absurd no
repr_read _ h = refl

pub repr_is_a_piece : (r : EnumRepr) → IsRepr r → IsWord (spell_repr r)
repr_is_a_piece repr.RustNPO h = let no : ⊥ = cc in absurd no
repr_is_a_piece _ h = word_tested _ refl

-- kinds of scalars

pub kind_spelled : (word : List ℕ) (k : ScalarType) → kind_of word ≡ Some k → IsKind k × (spell_kind k ≡ word)
kind_spelled word k e = value_spelled spell_kind is_kind kinds word k refl e

pub kind_read : (k : ScalarType) → IsKind k → kind_of (spell_kind k) ≡ Some k
kind_read kind.Str h = let no : ⊥ = cc in absurd no
kind_read _ h = refl

pub kind_is_a_piece : (k : ScalarType) → IsKind k → IsWord (spell_kind k)
kind_is_a_piece kind.Str h = let no : ⊥ = cc in absurd no
kind_is_a_piece _ h = word_tested _ refl

-- representations of structs, and variances: each has a word

pub base_spelled : (word : List ℕ) (b : BaseRepr) → base_of word ≡ Some b → spell_base b ≡ word
base_spelled word b e = (value_spelled spell_base (λ _. true) bases word b refl e).1

pub base_read : (b : BaseRepr) → base_of (spell_base b) ≡ Some b
base_read base.C = refl
base_read base.Rust = refl
base_read base.Transparent = refl

pub base_is_a_piece : (b : BaseRepr) → IsWord (spell_base b)
base_is_a_piece base.C = word_tested _ refl
base_is_a_piece base.Rust = word_tested _ refl
base_is_a_piece base.Transparent = word_tested _ refl

pub variance_spelled : (word : List ℕ) (v : Variance) → variance_of word ≡ Some v → spell_variance v ≡ word
variance_spelled word v e = (value_spelled spell_variance (λ _. true) variances word v refl e).1

pub variance_read : (v : Variance) → variance_of (spell_variance v) ≡ Some v
variance_read variance.Bivariant = refl
variance_read variance.Covariant = refl
variance_read variance.Contravariant = refl
variance_read variance.Invariant = refl

pub variance_is_a_piece : (v : Variance) → IsWord (spell_variance v)
variance_is_a_piece variance.Bivariant = word_tested _ refl
variance_is_a_piece variance.Covariant = word_tested _ refl
variance_is_a_piece variance.Contravariant = word_tested _ refl
variance_is_a_piece variance.Invariant = word_tested _ refl
