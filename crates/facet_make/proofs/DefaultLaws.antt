-- The laws of defaults.
use Rattle.std.proofs.Common.{◌≡◌, ℕ, zero, suc, ◌≤◌, false, if◌then◌else◌, List, [], ◌∷◌, All, Contains, Option, None, Some, IfSome, map, unwrap_or, inl, inr, refl, sym, ap, ◌∙◌, subst, arith}
use Rattle.std.specs.Option.{option_map_or}
use Rattle.std.proofs.lemmas.List.Elements.{All-contains, All-head, All-tail}
use Rattle.std.proofs.lemmas.Option.{slice_get_cases, slice_get_within}
use Rattle.facet_base.specs.declared.characteristic.Characteristic.TheVariants as trait
use Rattle.facet_base.specs.declared.layout.ShapeId.{ShapeId}
use Rattle.facet_base.specs.declared.scalar_type.ScalarType.{ScalarType}
use Rattle.facet_causes.proofs.Bounded.{heights_fall}
use Rattle.facet_causes.specs.Causes.{IsWellFormed}
use Rattle.facet_causes.specs.Reading.{inline_at}
use Rattle.facet_graph.specs.Height.{IsWithin}
use Rattle.facet_leaf.specs.LeafLaws.{LeafLaws}
use Rattle.facet_leaf.specs.LeafModel.{LeafModel}
use Rattle.facet_make.proofs.DefaultCases.{case_unoffered}
use Rattle.facet_make.proofs.InlineStructures.{AllInline, FirstIsBare, IsBare, first_is_bare, inline_of_structure}
use Rattle.facet_make.proofs.MadeInOrder.{each_made, first_made, node_made, none_made, offered_made}
use Rattle.facet_make.specs.Default.{default_by, default_case, empty_of}
use Rattle.facet_make.specs.Made.{Made, made, refused, in_order, node_of}
use Rattle.facet_outline.specs.declared.placed_fields.PlacedField.{PlacedField}
use Rattle.facet_registry.specs.Registry.{offers}
use Rattle.facet_shape.specs.Capability.{can}
use Rattle.facet_shape.specs.declared.shape.Shape.{Shape}
use Rattle.facet_trees.specs.Fits.{AllFit, Fits, HasForm}
use Rattle.facet_trees.specs.Structure.{Structure, no_values, plain, scalar, sequence, tagged, part_shapes, structure_at}
use Rattle.facet_trees.specs.Value.{Value, Values, count, depth, greatest_depth, leaf, node, none, more}
use Rattle.facet_trees.specs.declared.form.Form.{Form}
use Rattle.facet_trees.specs.declared.form.Form.TheVariants as form

module _ {L : Type 0} (m : LeafModel L) (shapes : List Shape) where
  -- the defaults of parts are the same where those of their shapes are
  same_parts : (P : ℕ → Type 0) (f g : ℕ → Made (Value L) L) → ((s : ℕ) → P s → f s ≡ g s) → (body : List PlacedField) → All (λ part. P part.shape.0) body
      → map (λ (part : PlacedField). f part.shape.0) body ≡ map (λ part. g part.shape.0) body
  same_parts P f g same [] all = refl
  same_parts P f g same (part ∷ body) all =
      let first = same part.shape.0 (All-head (λ part. P part.shape.0) part body all) in
      let rest = same_parts P f g same body (All-tail (λ part. P part.shape.0) part body all) in
      ap (λ case. case ∷ map (λ part. f part.shape.0) body) first ∙ ap (λ cases. g part.shape.0 ∷ cases) rest

  same_by : (P : ℕ → Type 0) (f g : ℕ → Made (Value L) L) → ((s : ℕ) → P s → f s ≡ g s) → (st : Structure) → AllInline P st → default_by m shapes f st ≡ default_by m shapes g st
  same_by P f g same no_values all = refl
  same_by P f g same (scalar k) all = refl
  same_by P f g same (plain form body) all = ap (λ cases. node_of form (in_order none cases)) (same_parts P f g same body all)
  same_by P f g same (tagged forms bodies) all = refl
  same_by P f g same (sequence form ids) all = refl

  -- no more levels are needed than the inline height
  pub default_higher : (h n s : ℕ) → IsWithin (inline_at shapes) h s → h ≤ n → default_case m shapes n s ≡ default_case m shapes h s
  unfolding default_case IsWithin
  default_higher zero n s within most = absurd within
  default_higher (suc h) zero s within most = absurd (omega arith)
  default_higher (suc h) (suc n) s within most =
      ap (λ case. if offers shapes s trait.Default then case else refused [])
      (same_by (Contains (inline_at shapes s)) (default_case m shapes n) (default_case m shapes h)
      (λ part among. default_higher h n part (All-contains (IsWithin (inline_at shapes) h) (inline_at shapes s) part within among) (omega arith))
      (structure_at shapes s) (inline_of_structure shapes s))

  -- the height of a sealed shape is at most 100; without a shape there is nothing
  pub default_sealed : IsWellFormed m shapes → (n s : ℕ) → 100 ≤ n → default_case m shapes n s ≡ default_case m shapes 100 s
  default_sealed well n s most = elim (slice_get_cases shapes s).1 [
    | inl at ↦ default_higher 100 n s (heights_fall m shapes well s (slice_get_within shapes s at.0 at.2)).most most
    | inr past ↦
        let none_offered = ap (λ o. option_map_or (λ shape. can shape trait.Default) o false) past.1 in
        case_unoffered m shapes n s none_offered ∙ sym (case_unoffered m shapes 100 s none_offered)
  ]

  -- values of a structure
  abbrev FitsBy : Structure → Value L → Type 0
  FitsBy st (leaf x) = st ≡ scalar (m.kind x)
  FitsBy st (node form vs) = HasForm st form × AllFit m shapes (part_shapes st form (count vs)) vs

  parts_fit : (f : ℕ → Made (Value L) L) → ((s : ℕ) (v : Value L) → f s ≡ made v → Fits m shapes s v) → (body : List PlacedField) (vs : Values L)
      → map (λ (part : PlacedField). f part.shape.0) body ≡ each_made vs → AllFit m shapes (map (λ part. part.shape.0) body) vs
  parts_fit f fit [] none e = tt
  parts_fit f fit [] (more v vs) e = absurd (cc)
  parts_fit f fit (part ∷ body) none e = absurd (none_made (f part.shape.0) (map (λ part. f part.shape.0) body) e)
  parts_fit f fit (part ∷ body) (more v vs) e =
      let both = first_made (f part.shape.0) (map (λ part. f part.shape.0) body) v vs e in
      (fit part.shape.0 v both.0, parts_fit f fit body vs both.1)

  empty_tagged : (forms : ℕ → Form) (bodies : List (List PlacedField)) (form : Form) (v : Value L) → forms 0 ≡ form → IsBare form bodies → empty_of form ≡ made v → FitsBy (tagged forms bodies) v
  empty_tagged forms bodies form.Absent v is bare e =
      let same : node form.Absent none ≡ v = cc in
      subst (FitsBy (tagged forms bodies)) same (
        (slice_get_within bodies 0 [] bare, sym is),
        subst (λ body. AllFit m shapes (map (λ part. part.shape.0) body) none) (sym (ap (λ o. unwrap_or o []) bare)) tt,
      )
  empty_tagged forms bodies form.List v is bare e = absurd bare
  empty_tagged forms bodies form.Map v is bare e = absurd bare
  empty_tagged forms bodies form.Set v is bare e = absurd bare
  empty_tagged forms bodies _ v is bare e = absurd (cc)

  no_parts : (ids : List ShapeId) (form : Form) → AllFit m shapes (part_shapes (sequence form ids) form 0) none
  no_parts [] form = tt
  no_parts (id ∷ ids) form = tt

  empty_sequence : (form : Form) (ids : List ShapeId) (v : Value L) → empty_of form ≡ made v → FitsBy (sequence form ids) v
  empty_sequence form.Absent ids v e = let same : node form.Absent none ≡ v = cc in subst (FitsBy (sequence form.Absent ids)) same (refl, no_parts ids form.Absent)
  empty_sequence form.List ids v e = let same : node form.List none ≡ v = cc in subst (FitsBy (sequence form.List ids)) same (refl, no_parts ids form.List)
  empty_sequence form.Map ids v e = let same : node form.Map none ≡ v = cc in subst (FitsBy (sequence form.Map ids)) same (refl, no_parts ids form.Map)
  empty_sequence form.Set ids v e = let same : node form.Set none ≡ v = cc in subst (FitsBy (sequence form.Set ids)) same (refl, no_parts ids form.Set)
  empty_sequence _ ids v e = absurd (cc)

  -- what is made of the leaf that a kind has
  abbrev leaf_made : Option L → Made (Value L) L
  leaf_made o = option_map_or (λ x. made (leaf x)) o (refused [])

  leaf_fits : (k : ScalarType) (o : Option L) (v : Value L) → IfSome o (λ x. m.kind x ≡ k) → leaf_made o ≡ made v → FitsBy (scalar k) v
  leaf_fits k None v of e = absurd (cc)
  leaf_fits k (Some x) v of e = let same : leaf x ≡ v = cc in subst (FitsBy (scalar k)) same (ap scalar (sym of))

  fits_by : LeafLaws m → (f : ℕ → Made (Value L) L) → ((s : ℕ) (v : Value L) → f s ≡ made v → Fits m shapes s v) → (st : Structure) → FirstIsBare st → (v : Value L)
      → default_by m shapes f st ≡ made v → FitsBy st v
  fits_by laws f fit no_values bare v e = absurd (cc)
  fits_by laws f fit (scalar k) bare v e = leaf_fits k (m.default_of k) v (laws.default_kind k) e
  fits_by laws f fit (plain form body) bare v e =
      let made_node = node_made form (map (λ part. f part.shape.0) body) v e in
      subst (FitsBy (plain form body)) made_node.value (refl, parts_fit f fit body made_node.parts made_node.is)
  fits_by laws f fit (tagged forms bodies) bare v e = empty_tagged forms bodies (forms 0) v refl bare e
  fits_by laws f fit (sequence form ids) bare v e = empty_sequence form ids v e

  fits_from : (s : ℕ) (v : Value L) → FitsBy (structure_at shapes s) v → Fits m shapes s v
  fits_from s (leaf x) fits = fits
  fits_from s (node form vs) fits = fits

  -- a default is a value of its shape
  pub default_fits : LeafLaws m → (n s : ℕ) (v : Value L) → default_case m shapes n s ≡ made v → Fits m shapes s v
  unfolding default_case
  default_fits laws zero s v e = absurd (cc)
  default_fits laws (suc n) s v e =
      fits_from s v
      (fits_by laws (default_case m shapes n) (default_fits laws n) (structure_at shapes s) (first_is_bare shapes s) v
      (offered_made (offers shapes s trait.Default) (default_by m shapes (default_case m shapes n) (structure_at shapes s)) v e).1)

  parts_shallow : (n : ℕ) (f : ℕ → Made (Value L) L) → ((s : ℕ) (v : Value L) → f s ≡ made v → depth v ≤ n) → (body : List PlacedField) (vs : Values L)
      → map (λ (part : PlacedField). f part.shape.0) body ≡ each_made vs → greatest_depth vs ≤ n
  parts_shallow n f most [] none e = omega arith
  parts_shallow n f most [] (more v vs) e = absurd (cc)
  parts_shallow n f most (part ∷ body) none e = omega arith
  parts_shallow n f most (part ∷ body) (more v vs) e =
      let both = first_made (f part.shape.0) (map (λ part. f part.shape.0) body) v vs e in
      let first = most part.shape.0 v both.0 in
      let rest = parts_shallow n f most body vs both.1 in
      omega arith

  empty_shallow : (form : Form) (v : Value L) → empty_of form ≡ made v → depth v ≡ 1
  empty_shallow form.Absent v e = let same : node form.Absent none ≡ v = cc in ap depth (sym same)
  empty_shallow form.List v e = let same : node form.List none ≡ v = cc in ap depth (sym same)
  empty_shallow form.Map v e = let same : node form.Map none ≡ v = cc in ap depth (sym same)
  empty_shallow form.Set v e = let same : node form.Set none ≡ v = cc in ap depth (sym same)
  empty_shallow _ v e = absurd (cc)

  leaf_shallow : (o : Option L) (v : Value L) → leaf_made o ≡ made v → depth v ≡ 1
  leaf_shallow None v e = absurd (cc)
  leaf_shallow (Some x) v e = let same : leaf x ≡ v = cc in ap depth (sym same)

  shallow_by : (n : ℕ) (f : ℕ → Made (Value L) L) → ((s : ℕ) (v : Value L) → f s ≡ made v → depth v ≤ n) → (st : Structure) (v : Value L) → default_by m shapes f st ≡ made v → depth v ≤ suc n
  shallow_by n f most no_values v e = absurd (cc)
  shallow_by n f most (scalar k) v e = let one = leaf_shallow (m.default_of k) v e in omega arith
  shallow_by n f most (plain form body) v e =
      let made_node = node_made form (map (λ part. f part.shape.0) body) v e in
      let parts = parts_shallow n f most body made_node.parts made_node.is in
      let same = ap depth made_node.value in
      omega arith
  shallow_by n f most (tagged forms bodies) v e = let one = empty_shallow (forms 0) v e in omega arith
  shallow_by n f most (sequence form ids) v e = let one = empty_shallow form v e in omega arith

  -- it has no more levels than were given
  pub default_shallow : (n s : ℕ) (v : Value L) → default_case m shapes n s ≡ made v → depth v ≤ n
  unfolding default_case
  default_shallow zero s v e = absurd (cc)
  default_shallow (suc n) s v e =
      shallow_by n (default_case m shapes n) (default_shallow n) (structure_at shapes s) v
      (offered_made (offers shapes s trait.Default) (default_by m shapes (default_case m shapes n) (structure_at shapes s)) v e).1
