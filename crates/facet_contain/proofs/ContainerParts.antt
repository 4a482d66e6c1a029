-- What the calls find at a readable place of a container, by the kind of its shape.
use Rattle.std.proofs.Common.{◌≡◌, ℕ, ◌+◌, ◌<◌, ◌≤◌, ◌==◌, ◌*◌, Bool, true, false, not, List, [], ◌∷◌, Option, None, Some, length, option_map, slice_get, refl, sym, subst}
use Rattle.std.specs.Prelude.{IfSome}
use Rattle.facet_block.specs.declared.block.Block.{Block}
use Rattle.facet_block.specs.declared.block.Item.{Sequence, Tag}
use Rattle.facet_block.specs.declared.block.ItemKind.TheVariants as item
use Rattle.facet_block.specs.declared.block.Seq.{Seq}
use Rattle.facet_block.specs.declared.ptr_const.PtrConst.{PtrConst}
use Rattle.facet_block.specs.Block.{item_kind, size_of}
use Rattle.facet_block.specs.Seq.{filled_of}
use Rattle.facet_causes.specs.Arrangement.{single}
use Rattle.facet_causes.specs.Causes.{IsWellFormed}
use Rattle.facet_leaf.specs.LeafModel.{LeafModel}
use Rattle.facet_outline.specs.declared.value_kind.ValueKind.TheVariants as kind
use Rattle.facet_registry.specs.Offsets.{part_offset_at}
use Rattle.facet_registry.specs.Registry.{kind_at}
use Rattle.facet_shape.specs.declared.shape.Shape.{Shape}
use Rattle.facet_trees.specs.Structure.{option_form, result_form}
use Rattle.facet_trees.specs.Value.{Value}
use Rattle.facet_trees.specs.declared.form.Form.{Form}
use Rattle.facet_trees.specs.declared.form.Form.TheVariants as form
use Rattle.facet_values.proofs.LaidOut.{laid_out}
use Rattle.facet_values.specs.Place.{Place, own_item, place_in, start_of}
use Rattle.facet_values.specs.Reading.{IsReadable, Reads}
use Rattle.facet_contain.proofs.ContainerKinds.{IsSequenceOfOne, enum_is, map_is, option_is, result_is}
use Rattle.facet_contain.proofs.HeldParts.{ReadsAs, begins_inside, behind_known, box_filled, element_known, element_points, element_shape, elements_counted, err_reads, err_shape, leads_to, ok_reads, ok_shape, one_of_two, option_test, pairs_counted, pairs_there, place_at, points_behind, present_reads, present_shape, result_test, sequence_there, tag_there, variant_is}
use Rattle.facet_contain.specs.Parts.{LeadsToValue, Points, first_part_if, is_err, is_ok, is_present, part_shape, parts_of, variant_in}

module _ {L : Type 0} {m : LeafModel L} {shapes : List Shape} {p : Place L} (r : IsReadable m shapes p) where
  -- a sequence of elements
  module _ (form : Form) (is : IsSequenceOfOne shapes p.shape form) where
    pub holds_sequence : item_kind (own_item p) ≡ item.Sequence
    holds_sequence = sequence_there m shapes p form is.0 is.1 r.value r.reads

    module _ (blocks : Seq L) (there : own_item p ≡ Some (Sequence blocks)) where
      pub counted : (v : Value L) → Reads m shapes p v → length (filled_of blocks) ≡ length (parts_of v)
      counted v reads = elements_counted m shapes p form is.0 is.1 v reads blocks there

      module _ (i : ℕ) (q : Option (PtrConst L)) (starts : option_map (place_at 0) q ≡ option_map (start_of 0) (slice_get (filled_of blocks) i)) where
        pub points : (v : Value L) → Reads m shapes p v → Points m shapes (part_shape shapes p.shape form i) (slice_get (parts_of v) i) q
        points v reads =
            subst (λ id. Points m shapes id (slice_get (parts_of v) i) q) (sym (element_shape m shapes p form is.0 is.1 i))
            (element_points m shapes p form is.0 is.1 v reads blocks there i q starts)

        pub leads : IsWellFormed m shapes → p.shape < length shapes → IfSome q (LeadsToValue m shapes (part_shape shapes p.shape form i))
        leads well known =
            leads_to m shapes (part_shape shapes p.shape form i) r.value i q
            (subst (λ id. id < length shapes) (sym (element_shape m shapes p form is.0 is.1 i)) (element_known m shapes p form is.0 is.1 (laid_out m shapes well p.shape known)))
            r.shallow (points r.value r.reads)

  -- the one block of a box is there
  pub content_there : (is : IsSequenceOfOne shapes p.shape form.Box) (blocks : Seq L) → own_item p ≡ Some (Sequence blocks) → None ≡ option_map (start_of 0) (slice_get (filled_of blocks) 0) → ⊥
  content_there is blocks there nothing = go (filled_of blocks) (box_filled m shapes p is.0 is.1 r.value r.reads blocks there) nothing
    where
      go : (filled : List (Block L)) → length filled ≡ 1 → None ≡ option_map (start_of 0) (slice_get filled 0) → ⊥
      go [] one nothing = absurd (cc)
      go (b ∷ filled) one nothing = absurd (cc)

  -- a map
  module _ (of : kind_at shapes p.shape ≡ kind.Map) where
    pub holds_pairs : item_kind (own_item p) ≡ item.Sequence
    holds_pairs = let (key, (value, is)) = map_is shapes p.shape of in pairs_there m shapes p form.Map key value is r.value r.reads

    pub pairs : (blocks : Seq L) → own_item p ≡ Some (Sequence blocks) → (v : Value L) → Reads m shapes p v → 2 * length (filled_of blocks) ≡ length (parts_of v)
    pairs blocks there v reads = let (key, (value, is)) = map_is shapes p.shape of in pairs_counted m shapes p form.Map key value is v reads blocks there

  -- an enum
  module _ (of : kind_at shapes p.shape ≡ kind.Enum) where
    pub enum_tag : item_kind (own_item p) ≡ item.Tag
    enum_tag = let (bodies, is) = enum_is shapes p.shape of in tag_there m shapes p form.Variant bodies is r.value r.reads

    pub variant : (tag : ℕ) → own_item p ≡ Some (Tag tag) → (v : Value L) → Reads m shapes p v → variant_in v ≡ Some tag
    variant tag there v reads = let (bodies, is) = enum_is shapes p.shape of in variant_is m shapes p bodies is v reads tag there

  -- an option
  module _ (of : kind_at shapes p.shape ≡ kind.Option) where
    pub option_tag : item_kind (own_item p) ≡ item.Tag
    option_tag = let (part, is) = option_is shapes p.shape of in tag_there m shapes p option_form ([] ∷ single part (part_offset_at shapes p.shape) ∷ []) is r.value r.reads

    pub tests_present : (tag : ℕ) → own_item p ≡ Some (Tag tag) → (v : Value L) → Reads m shapes p v → (tag == 1) ≡ is_present v
    tests_present tag there v reads = let (part, is) = option_is shapes p.shape of in sym (option_test m shapes p part (part_offset_at shapes p.shape) is v reads tag there)

  -- a result
  module _ (of : kind_at shapes p.shape ≡ kind.Result) where
    pub result_tag : item_kind (own_item p) ≡ item.Tag
    result_tag =
        let (value, (error, is)) = result_is shapes p.shape of in
        tag_there m shapes p result_form (single value (part_offset_at shapes p.shape) ∷ single error (part_offset_at shapes p.shape) ∷ []) is r.value r.reads

    pub tests_ok : (tag : ℕ) → own_item p ≡ Some (Tag tag) → (v : Value L) → Reads m shapes p v → (tag == 0) ≡ is_ok v
    tests_ok tag there v reads = let (value, (error, is)) = result_is shapes p.shape of in sym (result_test m shapes p value error (part_offset_at shapes p.shape) is v reads tag there)

    pub err_unless_ok : (v : Value L) → Reads m shapes p v → is_err v ≡ not (is_ok v)
    err_unless_ok v reads = let (value, (error, is)) = result_is shapes p.shape of in one_of_two m shapes p value error (part_offset_at shapes p.shape) is v reads

-- the values at a place that a test holds of have one part, of a shape, so many bytes behind the place
pub record HoldsBehind {L : Type 0} (m : LeafModel L) (shapes : List Shape) (p : Place L) (test : Value L → Bool) (shape offset : ℕ) : Type 0 where
  pub id : ℕ
  pub same : shape ≡ id
  pub known : IsWellFormed m shapes → p.shape < length shapes → id < length shapes
  pub holds : (v : Value L) → Reads m shapes p v → test v ≡ true → ReadsAs m shapes (Some (place_in id p.block (p.offset + offset))) (slice_get (parts_of v) 0)

module _ {L : Type 0} (m : LeafModel L) (shapes : List Shape) (p : Place L) where
  pub option_holds : kind_at shapes p.shape ≡ kind.Option → HoldsBehind m shapes p is_present (part_shape shapes p.shape form.Present 0) (part_offset_at shapes p.shape)
  option_holds of =
      let (part, is) = option_is shapes p.shape of in
      let offset = part_offset_at shapes p.shape in
      record {
        id = part.0;
        same = present_shape m shapes p part offset is;
        known = λ well known. behind_known m shapes p option_form ([] ∷ single part offset ∷ []) is (laid_out m shapes well p.shape known) 1 part offset refl;
        holds = present_reads m shapes p part offset is;
      }

  pub ok_holds : kind_at shapes p.shape ≡ kind.Result → HoldsBehind m shapes p is_ok (part_shape shapes p.shape form.Ok 0) (part_offset_at shapes p.shape)
  ok_holds of =
      let (value, (error, is)) = result_is shapes p.shape of in
      let offset = part_offset_at shapes p.shape in
      record {
        id = value.0;
        same = ok_shape m shapes p value error offset is;
        known = λ well known. behind_known m shapes p result_form (single value offset ∷ single error offset ∷ []) is (laid_out m shapes well p.shape known) 0 value offset refl;
        holds = ok_reads m shapes p value error offset is;
      }

  pub err_holds : kind_at shapes p.shape ≡ kind.Result → HoldsBehind m shapes p is_err (part_shape shapes p.shape form.Err 0) (part_offset_at shapes p.shape)
  err_holds of =
      let (value, (error, is)) = result_is shapes p.shape of in
      let offset = part_offset_at shapes p.shape in
      record {
        id = error.0;
        same = err_shape m shapes p value error offset is;
        known = λ well known. behind_known m shapes p result_form (single value offset ∷ single error offset ∷ []) is (laid_out m shapes well p.shape known) 1 error offset refl;
        holds = err_reads m shapes p value error offset is;
      }

module _ {L : Type 0} {m : LeafModel L} {shapes : List Shape} {p : Place L} {test : Value L → Bool} {shape offset : ℕ} (has : HoldsBehind m shapes p test shape offset) (r : IsReadable m shapes p) where
  -- where the test holds of the values there
  module _ (is : (v : Value L) → Reads m shapes p v → test v ≡ true) where
    pub behind_inside : p.offset + offset ≤ size_of p.block
    behind_inside = begins_inside m shapes (place_in has.id p.block (p.offset + offset)) (slice_get (parts_of r.value) 0) (has.holds r.value r.reads (is r.value r.reads))

    module _ (q : PtrConst L) (block : q.block.now ≡ p.block) (at : q.offset ≡ p.offset + offset) where
      points_first : (v : Value L) → Reads m shapes p v → Points m shapes shape (slice_get (parts_of v) 0) (Some q)
      points_first v reads = points_behind m shapes p shape has.id offset has.same (slice_get (parts_of v) 0) (has.holds v reads (is v reads)) q block at

      pub behind_points : (v : Value L) → Reads m shapes p v → Points m shapes shape (first_part_if (test v) v) (Some q)
      behind_points v reads = subst (λ b. Points m shapes shape (first_part_if b v) (Some q)) (sym (is v reads)) (points_first v reads)

      pub behind_leads : IsWellFormed m shapes → p.shape < length shapes → LeadsToValue m shapes shape q
      behind_leads well known =
          leads_to m shapes shape r.value 0 (Some q) (subst (λ id. id < length shapes) (sym has.same) (has.known well known)) r.shallow (points_first r.value r.reads)

-- where a test fails there is no part
pub no_part : {L : Type 0} (m : LeafModel L) (shapes : List Shape) (shape : ℕ) (b : Bool) (v : Value L) → b ≡ false → Points m shapes shape (first_part_if b v) None
no_part m shapes shape b v is = subst (λ c. Points m shapes shape (first_part_if c v) None) (sym is) tt
