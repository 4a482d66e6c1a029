-- The clone of the value at a place, by what is seen there.
use Rattle.std.proofs.Common.{◌≡◌, ℕ, ◌&&◌, Bool, true, false, if◌then◌else◌, List, [], ◌∷◌, map, option_map, slice_get, unwrap_or, Option, None, Some, refl, sym, ap, ◌∙◌}
use Rattle.std.specs.Option.{option_map_or}
use Rattle.std.proofs.lemmas.Option.{slice_get-map}
use Rattle.facet_base.specs.declared.characteristic.Characteristic.TheVariants as trait
use Rattle.facet_block.specs.Block.{leaf_of}
use Rattle.facet_block.specs.declared.block.Item.{Item, Leaf, Sequence, Tag}
use Rattle.facet_leaf.specs.LeafModel.{LeafModel}
use Rattle.facet_make.proofs.StructureForms.{SuitsForms, suits_forms}
use Rattle.facet_make.specs.Clone.{clone_case, clone_cases, is_cloned}
use Rattle.facet_make.specs.Cloning.{HasTag, cloning_of, part_clone}
use Rattle.facet_make.specs.Made.{Made, made, refused, in_order, node_of}
use Rattle.facet_make.specs.declared.cloning.Cloning.TheVariants as cloning
use Rattle.facet_outline.specs.declared.placed_fields.PlacedField.{PlacedField}
use Rattle.facet_registry.specs.Registry.{offers}
use Rattle.facet_shape.specs.declared.shape.Shape.{Shape}
use Rattle.facet_trees.specs.Structure.{Structure, no_values, plain, scalar, sequence, tagged, body_under, part_shapes, structure_at, tag_of_form}
use Rattle.facet_trees.specs.Value.{Value, Values, count, leaf, node, none}
use Rattle.facet_trees.specs.declared.form.Form.{Form}
use Rattle.facet_trees.specs.declared.form.Form.TheVariants as form
use Rattle.facet_values.proofs.StructureRows.{sequence_found, tag_found}
use Rattle.facet_values.specs.Place.{Place, own_item, part_place, part_places}
use Rattle.facet_values.specs.Reading.{value_at, value_by, values_by}
use Rattle.facet_values.specs.Replaced.{body_at, body_by}
use Rattle.facet_values.specs.Seen.{a_leaf, a_node, no_value, seen, seen_by}

leaf_no_node : {L : Type 0} (found : Option (Item L)) (form : Form) (parts : List (Place L)) → option_map_or a_leaf (leaf_of found) no_value ≡ a_node form parts → ⊥
leaf_no_node None form parts e = cc
leaf_no_node (Some (Leaf y)) form parts e = cc
leaf_no_node (Some (Tag n)) form parts e = cc
leaf_no_node (Some (Sequence s)) form parts e = cc

-- the place at an index among those of parts is that of the part at the index
pub record IsPlaceOfPart {L : Type 0} (p : Place L) (body : List PlacedField) (i : ℕ) (q : Place L) : Type 0 where
  pub part : PlacedField
  pub there : slice_get body i ≡ Some part
  pub is : part_place p part ≡ q

pub part_of_place : {L : Type 0} (p : Place L) (body : List PlacedField) (i : ℕ) (q : Place L) → slice_get (part_places p body) i ≡ Some q → IsPlaceOfPart p body i q
part_of_place {L} p body i q e = go (slice_get body i) refl (sym (slice_get-map (part_place p) body i) ∙ e)
  where
    go : (o : Option PlacedField) → slice_get body i ≡ o → option_map (part_place p) o ≡ Some q → IsPlaceOfPart p body i q
    go None there e = absurd (cc)
    go (Some part) there e = let same : part_place p part ≡ q = cc in record { part = part; there = there; is = same }

module _ {L : Type 0} (m : LeafModel L) (shapes : List Shape) where
  pub clone_refused : (s : ℕ) (v : Value L) → false ≡ offers shapes s trait.Clone → clone_case m shapes s v ≡ refused []
  unfolding clone_case
  clone_refused s (leaf x) none_offered = rw (← none_offered) refl
  clone_refused s (node form vs) none_offered = rw (← none_offered) refl

  pub clone_of_leaf : (s : ℕ) (x : L) → true ≡ offers shapes s trait.Clone → clone_case m shapes s (leaf x) ≡ made (leaf (m.cloned x))
  unfolding clone_case
  clone_of_leaf s x offered = rw (← offered) refl

  clone_by_test : (test : Bool) (form : Form) (parts : Made (Values L) L) → is_cloned form ≡ true → true ≡ test → (if test && is_cloned form then node_of form parts else refused []) ≡ node_of form parts
  clone_by_test test form parts is offered = rw (← offered, is) refl

  no_clone_by_test : (test : Bool) (form : Form) (case : Made (Value L) L) → is_cloned form ≡ false → true ≡ test → (if test && is_cloned form then case else refused []) ≡ refused []
  no_clone_by_test test form case is offered = rw (← offered, is) refl

  clone_of_node : (s : ℕ) (form : Form) (vs : Values L) → true ≡ offers shapes s trait.Clone → is_cloned form ≡ true
      → clone_case m shapes s (node form vs) ≡ node_of form (in_order none (clone_cases m shapes (part_shapes (structure_at shapes s) form (count vs)) vs))
  unfolding clone_case
  clone_of_node s form vs offered is = clone_by_test (offers shapes s trait.Clone) form (in_order none (clone_cases m shapes (part_shapes (structure_at shapes s) form (count vs)) vs)) is offered

  pub clone_of_other : (s : ℕ) (form : Form) (vs : Values L) → true ≡ offers shapes s trait.Clone → is_cloned form ≡ false → clone_case m shapes s (node form vs) ≡ refused []
  unfolding clone_case
  clone_of_other s form vs offered is =
      no_clone_by_test (offers shapes s trait.Clone) form (node_of form (in_order none (clone_cases m shapes (part_shapes (structure_at shapes s) form (count vs)) vs))) is offered

  clones_of_parts : (levels : ℕ) (p : Place L) (body : List PlacedField) → clone_cases m shapes (map (λ part. part.shape.0) body) (values_by (value_at shapes levels) (part_places p body)) ≡ map (part_clone m shapes levels p) body
  unfolding clone_cases
  clones_of_parts levels p [] = refl
  clones_of_parts levels p (part ∷ body) = ap (λ cases. part_clone m shapes levels p part ∷ cases) (clones_of_parts levels p body)

-- which forms are cloned
pub parts_cloned : (form : Form) → cloning.Parts ≡ cloning_of form → is_cloned form ≡ true
parts_cloned form.Unit is = refl
parts_cloned form.Record is = refl
parts_cloned form.Array is = refl
parts_cloned (form.Variant k) is = refl
parts_cloned _ is = absurd (cc)

pub variant_cloned : (own : Form) (k : ℕ) → cloning.TagAndParts k ≡ cloning_of own → own ≡ form.Variant k
variant_cloned (form.Variant j) k is = let same : j ≡ k = cc in ap form.Variant same
variant_cloned _ k is = absurd (cc)

pub nothing_cloned : (form : Form) → cloning.Nothing ≡ cloning_of form → is_cloned form ≡ false
nothing_cloned form.Unit is = absurd (cc)
nothing_cloned form.Record is = absurd (cc)
nothing_cloned form.Array is = absurd (cc)
nothing_cloned (form.Variant k) is = absurd (cc)
nothing_cloned _ is = refl

-- a node that is seen at a place, and whose parts are cloned
module _ {L : Type 0} (shapes : List Shape) (p : Place L) where
  -- its parts are the inline parts of the value at the place
  pub record IsInline (form : Form) (parts : List (Place L)) : Type 0 where
    pub places : part_places p (body_at shapes p) ≡ parts
    pub part_shapes_are : (n : ℕ) → part_shapes (structure_at shapes p.shape) form n ≡ map (λ part. part.shape.0) (body_at shapes p)

  record IsInlineBy (st : Structure) (form : Form) (parts : List (Place L)) : Type 0 where
    places : part_places p (body_by st (own_item p)) ≡ parts
    shapes_are : (n : ℕ) → part_shapes st form n ≡ map (λ part. part.shape.0) (body_by st (own_item p))

  inline_by : (st : Structure) → SuitsForms st → (form : Form) (parts : List (Place L)) → is_cloned form ≡ true → seen_by shapes st p (own_item p) ≡ a_node form parts → IsInlineBy st form parts
  inline_by no_values suits form parts is e = absurd (cc)
  inline_by (scalar k) suits form parts is e = absurd (leaf_no_node (own_item p) form parts e)
  inline_by (plain own body) suits form parts is e = record { places = (let same : part_places p body ≡ parts = cc in same); shapes_are = λ n. refl }
  inline_by (tagged forms bodies) suits form parts is e =
      let s = tag_found shapes p forms bodies (own_item p) form parts e in
      let body_is : body_by (tagged forms bodies) (own_item p) ≡ s.body = ap (body_by (tagged forms bodies)) s.item ∙ ap (λ o. unwrap_or o []) s.there in
      let tag_is : tag_of_form form ≡ s.tag = ap tag_of_form (sym s.form_is ∙ suits s.tag (ap is_cloned s.form_is ∙ is)) in
      record {
        places = ap (part_places p) body_is ∙ s.parts_are;
        shapes_are = λ n. ap (λ body. map (λ part. part.shape.0) body) (ap (body_under bodies) tag_is ∙ ap (λ o. unwrap_or o []) s.there ∙ sym body_is);
      }
  inline_by (sequence own ids) suits form parts is e =
      let s = sequence_found shapes p own ids (own_item p) form parts e in
      let e = sym suits ∙ ap is_cloned s.form_is ∙ is in absurd (cc)

  pub inline_seen : (form : Form) (parts : List (Place L)) → is_cloned form ≡ true → a_node form parts ≡ seen shapes p → IsInline form parts
  unfolding seen
  inline_seen form parts is e =
      let by = inline_by (structure_at shapes p.shape) (suits_forms shapes p.shape) form parts is (sym e) in
      record { places = by.places; part_shapes_are = by.shapes_are }

  -- without a tag the parts are those of the shape
  pub record IsPlainHere (form : Form) : Type 0 where
    pub body : List PlacedField
    pub of : structure_at shapes p.shape ≡ plain form body

  plain_by : (st : Structure) → SuitsForms st → structure_at shapes p.shape ≡ st → (form : Form) (parts : List (Place L)) → cloning.Parts ≡ cloning_of form → seen_by shapes st p (own_item p) ≡ a_node form parts → IsPlainHere form
  plain_by no_values suits of form parts is e = absurd (cc)
  plain_by (scalar k) suits of form parts is e = absurd (leaf_no_node (own_item p) form parts e)
  plain_by (plain own body) suits of form parts is e = let same : own ≡ form = cc in record { body = body; of = of ∙ ap (λ f. plain f body) same }
  plain_by (tagged forms bodies) suits of form parts is e =
      let s = tag_found shapes p forms bodies (own_item p) form parts e in
      let never = is ∙ ap cloning_of (sym s.form_is ∙ suits s.tag (ap is_cloned s.form_is ∙ parts_cloned form is)) in absurd (cc)
  plain_by (sequence own ids) suits of form parts is e =
      let s = sequence_found shapes p own ids (own_item p) form parts e in
      let e = sym suits ∙ ap is_cloned s.form_is ∙ parts_cloned form is in absurd (cc)

  pub plain_seen : (form : Form) (parts : List (Place L)) → cloning.Parts ≡ cloning_of form → a_node form parts ≡ seen shapes p → IsPlainHere form
  unfolding seen
  plain_seen form parts is e = plain_by (structure_at shapes p.shape) (suits_forms shapes p.shape) refl form parts is (sym e)

  -- the tag of a variant lies there
  tag_by : (st : Structure) → SuitsForms st → structure_at shapes p.shape ≡ st → (k : ℕ) (parts : List (Place L)) → seen_by shapes st p (own_item p) ≡ a_node (form.Variant k) parts → HasTag shapes p k
  tag_by no_values suits of k parts e = absurd (cc)
  tag_by (scalar j) suits of k parts e = absurd (leaf_no_node (own_item p) (form.Variant k) parts e)
  tag_by (plain own body) suits of k parts e = let same : own ≡ form.Variant k = cc in let e = suits ∙ ap cloning_of same in absurd (cc)
  tag_by (tagged forms bodies) suits of k parts e =
      let s = tag_found shapes p forms bodies (own_item p) (form.Variant k) parts e in
      let tag_is : k ≡ s.tag = ap tag_of_form (sym s.form_is ∙ suits s.tag (ap is_cloned s.form_is)) in
      record {
        forms = forms;
        bodies = bodies;
        body = s.body;
        of = of;
        there = ap (slice_get bodies) tag_is ∙ s.there;
        form_is = ap forms tag_is ∙ s.form_is;
        item = s.item ∙ ap (λ n. Some (Tag n)) (sym tag_is);
      }
  tag_by (sequence own ids) suits of k parts e =
      let s = sequence_found shapes p own ids (own_item p) (form.Variant k) parts e in
      let e = sym suits ∙ ap is_cloned s.form_is in absurd (cc)

  pub tag_seen : (form : Form) (k : ℕ) (parts : List (Place L)) → cloning.TagAndParts k ≡ cloning_of form → a_node form parts ≡ seen shapes p → HasTag shapes p k
  unfolding seen
  tag_seen form k parts is e =
      tag_by (structure_at shapes p.shape) (suits_forms shapes p.shape) refl k parts
      (sym e ∙ ap (λ f. a_node f parts) (variant_cloned form k is))

module _ {L : Type 0} (m : LeafModel L) (shapes : List Shape) (p : Place L) (levels : ℕ) where
  -- what the clone of such a node is
  pub clone_of_parts : (form : Form) (parts : List (Place L)) → true ≡ offers shapes p.shape trait.Clone → is_cloned form ≡ true → IsInline shapes p form parts
      → clone_case m shapes p.shape (value_by (value_at shapes levels) (a_node form parts)) ≡ node_of form (in_order none (map (part_clone m shapes levels p) (body_at shapes p)))
  clone_of_parts form parts offered is inline =
      let vs = values_by (value_at shapes levels) parts in
      let ws = values_by (value_at shapes levels) (part_places p (body_at shapes p)) in
      clone_of_node m shapes p.shape form vs offered is
      ∙ ap (λ ss. node_of form (in_order none (clone_cases m shapes ss vs))) (inline.part_shapes_are (count vs))
      ∙ ap (λ ps. node_of form (in_order none (clone_cases m shapes (map (λ part. part.shape.0) (body_at shapes p)) (values_by (value_at shapes levels) ps)))) (sym inline.places)
      ∙ ap (λ cases. node_of form (in_order none cases)) (clones_of_parts m shapes levels p (body_at shapes p))
