-- The tag of a variant is put where an empty range begins, and its fields lie behind it.
use Rattle.std.proofs.Common.{◌≡◌, ◌≢◌, ℕ, ◌+◌, ◌<◌, ◌≤◌, inl, inr, zero, suc, All, List, [], ◌∷◌, None, Some, Option, length, map, option_map, slice_get, refl, sym, ap, ◌∙◌, subst, arith}
use Rattle.std.specs.Option.{option_map_or}
use Rattle.std.proofs.lemmas.List.Elements.{All-head, All-tail}
use Rattle.std.proofs.lemmas.Option.{slice_get-map}
use Rattle.facet_base.proofs.Lists.{All_at}
use Rattle.facet_block.proofs.Ranges.{item_elsewhere, item_there, size_with_item}
use Rattle.facet_block.specs.Block.{item_at, size_of, with_item}
use Rattle.facet_block.specs.Span.{IsApart, IsBeside, IsChanged, IsVacant, IsWithin, span}
use Rattle.facet_block.specs.declared.block.Block.{Block}
use Rattle.facet_block.specs.declared.block.Item.{Tag}
use Rattle.facet_causes.specs.Causes.{IsWellFormed}
use Rattle.facet_causes.specs.Arrangement.{arrangements, arrangements_of_kind}
use Rattle.facet_causes.specs.Reading.{kind_in, layout_at}
use Rattle.facet_desc.specs.declared.ty.Ty.{Ty}
use Rattle.facet_desc.specs.declared.ty.Ty.TheVariants as ty
use Rattle.facet_desc.specs.declared.ty.UserType.TheVariants as user
use Rattle.facet_desc.specs.declared.variant.Variant.{Variant}
use Rattle.facet_init.proofs.MadeSequences.{not_first, not_here}
use Rattle.facet_init.specs.Variants.{HasFields, variants_at, variants_of}
use Rattle.facet_leaf.specs.LeafModel.{LeafModel}
use Rattle.facet_outline.specs.Field.{bodies, placed}
use Rattle.facet_outline.specs.declared.placed_fields.PlacedField.{PlacedField}
use Rattle.facet_outline.specs.declared.value_kind.ValueKind.TheVariants as kind
use Rattle.facet_registry.specs.Registry.{kind_at, size_at}
use Rattle.facet_shape.specs.declared.shape.Shape.{Shape}
use Rattle.facet_trees.specs.Structure.{structure_at, tagged}
use Rattle.facet_trees.specs.Value.{Values, node, none}
use Rattle.facet_trees.specs.declared.form.Form.TheVariants as form
use Rattle.facet_values.proofs.KindRows.{structure_is}
use Rattle.facet_values.proofs.LaidOut.{laid_out}
use Rattle.facet_values.proofs.StructureRows.{reads_from_tagged}
use Rattle.facet_values.specs.Laid.{LieApart, LieBesideTag, LiesBehindTag, bodies_of, has_own_item}
use Rattle.facet_values.specs.Place.{part_place, part_places, place_in, range_of}
use Rattle.facet_values.specs.Reading.{ReadAll, Reads, own_span, part_spans}

-- the fields of each variant of an enum's type
bodies_are : (t : Ty) → bodies kind.Enum t ≡ map (λ v. placed v.body) (variants_of t)
bodies_are (ty.User (user.Enum e)) = refl
bodies_are _ = refl

module _ (shapes : List Shape) (s : ℕ) (of : kind_at shapes s ≡ kind.Enum) where
  pub enum_made_up : structure_at shapes s ≡ tagged form.Variant (map (λ v. placed v.body) (variants_at shapes s))
  unfolding arrangements
  enum_made_up = go (slice_get shapes s) refl of
    where
      go : (o : Option Shape) → slice_get shapes s ≡ o → option_map_or (kind_in shapes) o kind.NoValue ≡ kind.Enum → structure_at shapes s ≡ tagged form.Variant (map (λ v. placed v.body) (variants_at shapes s))
      go None is found = absurd (cc)
      go (Some shape) is found =
          structure_is shapes s shape is kind.Enum found
          ∙ ap (tagged form.Variant) (ap (λ k. arrangements_of_kind (layout_at shapes) k shape.def shape.ty) found ∙ bodies_are shape.ty)
          ∙ ap (λ o. tagged form.Variant (map (λ v. placed v.body) (option_map_or (λ (t : Shape). variants_of t.ty) o []))) (sym is)

from_start : (at start len : ℕ) → IsApart own_span (span start len) → IsBeside at (span (at + start) len)
from_start at start len apart = elim (apart 0) [
  | inl (inl before) ↦ absurd (omega arith)
  | inl (inr behind) ↦ absurd (omega arith)
  | inr (inl before) ↦ inl (omega (arith, before))
  | inr (inr behind) ↦ inr (omega (arith, behind))
]

moved_on : (at i start len : ℕ) → IsBeside i (span start len) → IsBeside (at + i) (span (at + start) len)
moved_on at i start len (inl before) = inl (omega (arith, before))
moved_on at i start len (inr behind) = inr (omega (arith, behind))

aside : (at i start len whole : ℕ) → start + len ≤ whole → IsBeside i (span at whole) → IsBeside i (span (at + start) len)
aside at i start len whole inside (inl before) = inl (omega (arith, before))
aside at i start len whole inside (inr behind) = inr (omega (arith, behind, inside))

not_within : (at i start len : ℕ) → IsBeside at (span (at + start) len) → IsWithin i (span (at + start) len) → i ≢ at
not_within at i start len (inl before) within = omega (arith, within.0, before)
not_within at i start len (inr behind) within = omega (arith, within.1, behind)

module _ {L : Type 0} (m : LeafModel L) (shapes : List Shape) (well : IsWellFormed m shapes) (s : ℕ) (sealed : s < length shapes) (of : kind_at shapes s ≡ kind.Enum) (old : Block L) (at : ℕ)
    (vacant : IsVacant old (span at (size_at shapes s))) where
  abbrev all : List (List PlacedField)
  all = map (λ v. placed v.body) (variants_at shapes s)

  made_up : structure_at shapes s ≡ tagged form.Variant all
  made_up = enum_made_up shapes s of

  has_byte : 0 < size_at shapes s
  has_byte = (laid_out m shapes well s sealed).own (ap has_own_item made_up)

  pub tag_below : at < size_of old
  tag_below = omega (arith, vacant.inside, has_byte)

  pub tag_empty : item_at old at ≡ None
  tag_empty = vacant.empty at (omega arith, omega (arith, has_byte))

  module _ (tag : ℕ) where
    abbrev put : Block L
    put = with_item old at (Some (Tag tag))

    pub tag_changes : IsChanged old put (span at (size_at shapes s))
    tag_changes = record {
      size = size_with_item old at (Some (Tag tag));
      outside = λ i beside. item_elsewhere old at (Some (Tag tag)) i (not_first i at (size_at shapes s) has_byte beside);
    }

    module _ (v : Variant) (there : slice_get (variants_at shapes s) tag ≡ Some v) where
      abbrev body : List PlacedField
      body = placed v.body

      body_there : slice_get all tag ≡ Some body
      body_there = slice_get-map (λ (w : Variant). placed w.body) (variants_at shapes s) tag ∙ ap (option_map (λ (w : Variant). placed w.body)) there

      apart : LieApart shapes (size_at shapes s) body
      apart = All_at (LieApart shapes (size_at shapes s)) all tag body (subst (λ st. All (LieApart shapes (size_at shapes s)) (bodies_of st)) made_up (laid_out m shapes well s sealed).bodies) body_there

      beside_tag : LieBesideTag shapes body
      beside_tag = All_at (LieBesideTag shapes) all tag body (subst (LiesBehindTag shapes) made_up (laid_out m shapes well s sealed).beside) body_there

      pub fields_vacant : All (λ field. IsVacant put (range_of shapes (part_place (place_in s put at) field))) body
      fields_vacant k d below =
          let inside = apart.inside k d below in
          let beside = beside_tag k d below in
          record {
            inside = omega (arith, inside, vacant.inside, size_with_item old at (Some (Tag tag)));
            empty = λ i within.
                item_elsewhere old at (Some (Tag tag)) i (not_within at i _ _ (from_start at _ _ beside) within)
                ∙ vacant.empty i (omega (arith, within.0), omega (arith, within.1, inside));
          }

      pub fields_filled : (later : Block L) (vs : Values L) → HasFields m shapes body (place_in s put at) later vs → Reads m shapes (place_in s later at) (node (form.Variant tag) vs)
      fields_filled later vs has =
          reads_from_tagged m shapes (place_in s later at) form.Variant all made_up (node (form.Variant tag) vs)
          (record {
            tag = tag;
            body = body;
            there = body_there;
            is = record {
              item = has.outside at (λ k d below. from_start at _ _ (beside_tag k d below)) ∙ item_there old at (Some (Tag tag)) tag_below;
              behind = record {
                parts = vs;
                reads = has.reads;
                holds = record {
                  inside = omega (arith, vacant.inside, has.size, size_with_item old at (Some (Tag tag)));
                  alone = λ i below beside.
                      has.outside (at + i) (beside_each i body (All-tail (IsBeside i) own_span (part_spans shapes body) beside))
                      ∙ item_elsewhere old at (Some (Tag tag)) (at + i) (not_here at i (All-head (IsBeside i) own_span (part_spans shapes body) beside))
                      ∙ vacant.empty (at + i) (omega arith, omega (arith, below));
                };
                value = refl;
              };
            };
          })
        where
          beside_each : (i : ℕ) (fields : List PlacedField) → All (IsBeside i) (part_spans shapes fields) → All (λ field. IsBeside (at + i) (range_of shapes (part_place (place_in s put at) field))) fields
          beside_each i [] beside k d below = absurd (omega (arith, below))
          beside_each i (field ∷ fields) beside zero d below = moved_on at i field.offset (size_at shapes field.shape.0) (All-head (IsBeside i) _ (part_spans shapes fields) beside)
          beside_each i (field ∷ fields) beside (suc k) d below = beside_each i fields (All-tail (IsBeside i) _ (part_spans shapes fields) beside) k d (omega (arith, below))

      pub made_at_once : body ≡ [] → Reads m shapes (place_in s put at) (node (form.Variant tag) none)
      made_at_once nothing =
          fields_filled put none (record {
            size = refl;
            outside = λ i beside. refl;
            reads = subst (λ fields. ReadAll m shapes (part_places (place_in s put at) fields) none) (sym nothing) tt;
          })
