-- The rows of the kinds: each is the structure of the kind's values, and the row of that structure.
use Rattle.std.proofs.Common.{◌≡◌, ◌⊎◌, ℕ, zero, suc, List, [], ◌∷◌, Option, None, Some, inl, inr, length, map, option_map, slice_get, refl, sym, ap, ◌∙◌, subst, arith}
use Rattle.std.specs.Prelude.{◌↔◌}
use Rattle.std.specs.Option.{option_map_or}
use Rattle.std.proofs.lemmas.Option.{slice_get-map}
use Rattle.facet_base.specs.declared.layout.ShapeId.{ShapeId}
use Rattle.facet_base.specs.declared.scalar_type.ScalarType.{ScalarType}
use Rattle.facet_block.specs.Seq.{filled_of}
use Rattle.facet_block.specs.declared.block.Block.{Block}
use Rattle.facet_causes.specs.Arrangement.{arrangements, arrangements_of_kind, in_a_row, part_at, single}
use Rattle.facet_causes.specs.Reading.{element_of, kind_in, layout_at}
use Rattle.facet_def.specs.declared.array_def.ArrayDef.{ArrayDef}
use Rattle.facet_def.specs.declared.def.Def.TheVariants as def
use Rattle.facet_def.specs.declared.list_def.ListDef.{ListDef}
use Rattle.facet_def.specs.declared.map_def.MapDef.{MapDef}
use Rattle.facet_def.specs.declared.option_def.OptionDef.{OptionDef}
use Rattle.facet_def.specs.declared.pointer_def.PointerDef.{PointerDef}
use Rattle.facet_def.specs.declared.result_def.ResultDef.{ResultDef}
use Rattle.facet_def.specs.declared.set_def.SetDef.{SetDef}
use Rattle.std.specs.Option.{option_to_list}
use Rattle.facet_desc.specs.declared.enum_type.EnumType.{EnumType}
use Rattle.facet_desc.specs.declared.struct_type.StructType.{StructType}
use Rattle.facet_desc.specs.declared.ty.Ty.TheVariants as ty
use Rattle.facet_desc.specs.declared.ty.UserType.TheVariants as user
use Rattle.facet_desc.specs.declared.variant.Variant.{Variant}
use Rattle.facet_leaf.specs.LeafModel.{LeafModel}
use Rattle.facet_outline.specs.Field.{placed}
use Rattle.facet_outline.specs.Layout.{option_offset, pair_layout, result_offset, value_offset}
use Rattle.facet_outline.specs.Part.{parts, parts_of_kind}
use Rattle.facet_outline.specs.declared.placed_fields.PlacedField.{PlacedField}
use Rattle.facet_outline.specs.declared.value_kind.ValueKind.{ValueKind}
use Rattle.facet_outline.specs.declared.value_kind.ValueKind.TheVariants as kind
use Rattle.facet_shape.specs.declared.shape.Shape.{Shape}
use Rattle.facet_trees.specs.Ascending.{AreAscending, IsInOrder}
use Rattle.facet_trees.specs.Structure.{no_values, plain, sequence, tagged, block_body, block_size, body_under, option_form, result_form, structure_at, structure_of_kind}
use Rattle.facet_trees.specs.Value.{Value, Values, count, every_second, listed, node, none, more}
use Rattle.facet_trees.specs.declared.form.Form.{Form}
use Rattle.facet_trees.specs.declared.form.Form.TheVariants as form
use Rattle.facet_values.proofs.StructureRows.{IsTaggedBy, leaf_from_reads, parts_from_reads, reads_from_leaf, reads_from_parts, reads_from_sequence, reads_from_tagged, reads_nothing, sequence_from_reads, tagged_from_reads}
use Rattle.facet_values.specs.Place.{Place, block_places}
use Rattle.facet_values.specs.Reading.{IsLengthOf, Reads, ReadAll}
use Rattle.facet_values.specs.Rows.{ArePartsAt, IsLeafAt, IsSequenceAt, IsSequenceWith, IsTaggedAt, IsUnitAt, IsVariantAt, pair_body}

-- the structure of the values of a shape of each kind
module _ (shapes : List Shape) (s : ℕ) (shape : Shape) (found : slice_get shapes s ≡ Some shape) where
  module _ (k : ValueKind) (of : kind_in shapes shape ≡ k) where
    pub structure_is : structure_at shapes s ≡ structure_of_kind shapes k shape
    unfolding structure_at
    structure_is = ap (λ o. option_map_or (λ x. structure_of_kind shapes (kind_in shapes x) x) o no_values) found ∙ ap (λ q. structure_of_kind shapes q shape) of

    arrangements_are : arrangements shapes shape ≡ arrangements_of_kind (layout_at shapes) k shape.def shape.ty
    unfolding arrangements
    arrangements_are = ap (λ q. arrangements_of_kind (layout_at shapes) q shape.def shape.ty) of

    parts_are : parts (element_of shapes shape.def) shape ≡ parts_of_kind k (element_of shapes shape.def) shape.def shape.ty
    unfolding parts
    parts_are = ap (λ q. parts_of_kind q (element_of shapes shape.def) shape.def shape.ty) of

  pub struct_structure : (st : StructType) → kind_in shapes shape ≡ kind.Struct → shape.ty ≡ ty.User (user.Struct st) → structure_at shapes s ≡ plain form.Record (placed st)
  struct_structure st of type =
      structure_is kind.Struct of
      ∙ ap (λ bodies. plain form.Record (body_under bodies 0)) (arrangements_are kind.Struct of ∙ ap (λ t. arrangements_of_kind (layout_at shapes) kind.Struct shape.def t) type)

  pub array_structure : (a : ArrayDef) → kind_in shapes shape ≡ kind.Array → shape.def ≡ def.Array a
      → structure_at shapes s ≡ plain form.Array (in_a_row a.t a.n (part_at shapes a.t).size)
  array_structure a of is =
      structure_is kind.Array of
      ∙ ap (λ bodies. plain form.Array (body_under bodies 0)) (arrangements_are kind.Array of ∙ ap (λ d. arrangements_of_kind (layout_at shapes) kind.Array d shape.ty) is)

  pub enum_structure : (e : EnumType) → kind_in shapes shape ≡ kind.Enum → shape.ty ≡ ty.User (user.Enum e)
      → structure_at shapes s ≡ tagged form.Variant (map (λ v. placed v.body) e.variants.items)
  enum_structure e of type =
      structure_is kind.Enum of
      ∙ ap (λ bodies. tagged form.Variant bodies) (arrangements_are kind.Enum of ∙ ap (λ t. arrangements_of_kind (layout_at shapes) kind.Enum shape.def t) type)

  pub option_structure : (o : OptionDef) → kind_in shapes shape ≡ kind.Option → shape.def ≡ def.Option o
      → structure_at shapes s ≡ tagged option_form ([] ∷ single o.t (option_offset (part_at shapes o.t)) ∷ [])
  option_structure o of is =
      structure_is kind.Option of
      ∙ ap (λ bodies. tagged option_form bodies) (arrangements_are kind.Option of ∙ ap (λ d. arrangements_of_kind (layout_at shapes) kind.Option d shape.ty) is)

  pub result_structure : (r : ResultDef) → kind_in shapes shape ≡ kind.Result → shape.def ≡ def.Result r
      → structure_at shapes s ≡ tagged result_form
      (single r.t (result_offset (part_at shapes r.t) (part_at shapes r.e)) ∷ single r.e (result_offset (part_at shapes r.t) (part_at shapes r.e)) ∷ [])
  result_structure r of is =
      structure_is kind.Result of
      ∙ ap (λ bodies. tagged result_form bodies) (arrangements_are kind.Result of ∙ ap (λ d. arrangements_of_kind (layout_at shapes) kind.Result d shape.ty) is)

  pub list_structure : (d : ListDef) → kind_in shapes shape ≡ kind.List → shape.def ≡ def.List d → structure_at shapes s ≡ sequence form.List (d.t ∷ [])
  list_structure d of is =
      structure_is kind.List of
      ∙ ap (λ ids. sequence form.List ids) (parts_are kind.List of ∙ ap (λ x. parts_of_kind kind.List (element_of shapes shape.def) x shape.ty) is)

  pub boxed_slice_structure : (element : ShapeId) → kind_in shapes shape ≡ kind.BoxedSlice → element_of shapes shape.def ≡ Some element
      → structure_at shapes s ≡ sequence form.BoxedSlice (element ∷ [])
  boxed_slice_structure element of is =
      structure_is kind.BoxedSlice of
      ∙ ap (λ ids. sequence form.BoxedSlice ids) (parts_are kind.BoxedSlice of ∙ ap (λ o. parts_of_kind kind.BoxedSlice o shape.def shape.ty) is)

  pub box_structure : (d : PointerDef) (id : ShapeId) → kind_in shapes shape ≡ kind.Box → shape.def ≡ def.Pointer d → d.pointee ≡ Some id
      → structure_at shapes s ≡ sequence form.Box (id ∷ [])
  box_structure d id of is points =
      structure_is kind.Box of
      ∙ ap (λ ids. sequence form.Box ids) (parts_are kind.Box of ∙ (ap (λ x. parts_of_kind kind.Box (element_of shapes shape.def) x shape.ty) is ∙ ap option_to_list points))

  pub set_structure : (d : SetDef) → kind_in shapes shape ≡ kind.Set → shape.def ≡ def.Set d → structure_at shapes s ≡ sequence form.Set (d.t ∷ [])
  set_structure d of is =
      structure_is kind.Set of
      ∙ ap (λ ids. sequence form.Set ids) (parts_are kind.Set of ∙ ap (λ x. parts_of_kind kind.Set (element_of shapes shape.def) x shape.ty) is)

  pub map_structure : (d : MapDef) → kind_in shapes shape ≡ kind.Map → shape.def ≡ def.Map d → structure_at shapes s ≡ sequence form.Map (d.k ∷ d.v ∷ [])
  map_structure d of is =
      structure_is kind.Map of
      ∙ ap (λ ids. sequence form.Map ids) (parts_are kind.Map of ∙ ap (λ x. parts_of_kind kind.Map (element_of shapes shape.def) x shape.ty) is)

variant_found : (o : Option Variant) (body : List PlacedField) → option_map (λ v. placed v.body) o ≡ Some body → (w : Variant) × (o ≡ Some w) × (placed w.body ≡ body)
variant_found None body e = absurd (cc)
variant_found (Some w) body e = let same : placed w.body ≡ body = cc in (w, refl, same)

blocks_of_one : {L : Type 0} (part : PlacedField) (blocks : List (Block L)) → length (block_places (part ∷ []) blocks) ≡ length blocks
blocks_of_one part [] = refl
blocks_of_one part (b ∷ blocks) = ap suc (blocks_of_one part blocks)

module _ {L : Type 0} (m : LeafModel L) (shapes : List Shape) where
  -- as many parts as places
  pub count_read : (ps : List (Place L)) (vs : Values L) → ReadAll m shapes ps vs → count vs ≡ length ps
  count_read [] none reads = refl
  count_read [] (more v vs) reads = absurd reads
  count_read (p ∷ ps) none reads = absurd reads
  count_read (p ∷ ps) (more v vs) reads = ap suc (count_read ps vs reads.1)

  -- two tags
  module _ (forms : ℕ → Form) (first second : List PlacedField) (p : Place L) (v : Value L) where
    abbrev IsOneOf : Type 0
    IsOneOf = IsTaggedAt m shapes 0 first p (forms 0) v ⊎ IsTaggedAt m shapes 1 second p (forms 1) v

    by_tag : (tag : ℕ) (body : List PlacedField) → slice_get (first ∷ second ∷ []) tag ≡ Some body → IsTaggedAt m shapes tag body p (forms tag) v → IsOneOf
    by_tag zero body there is = let same : body ≡ first = cc in inl (subst (λ b. IsTaggedAt m shapes 0 b p (forms 0) v) same is)
    by_tag (suc zero) body there is = let same : body ≡ second = cc in inr (subst (λ b. IsTaggedAt m shapes 1 b p (forms 1) v) same is)
    by_tag (suc (suc n)) body there is = absurd (cc)

    two_from : IsTaggedBy m shapes forms (first ∷ second ∷ []) p v → IsOneOf
    two_from by = by_tag by.tag by.body by.there by.is

    two_to : IsOneOf → IsTaggedBy m shapes forms (first ∷ second ∷ []) p v
    two_to (inl is) = record { tag = 0; body = first; there = refl; is = is }
    two_to (inr is) = record { tag = 1; body = second; there = refl; is = is }

  module _ (p : Place L) (v : Value L) (shape : Shape) (found : slice_get shapes p.shape ≡ Some shape) where
    pub no_value_row : kind_in shapes shape ≡ kind.NoValue → Reads m shapes p v → ⊥
    no_value_row of = reads_nothing m shapes p (structure_is shapes p.shape shape found kind.NoValue of) v

    unit_from : ArePartsAt m shapes [] [] p form.Unit v → IsUnitAt m shapes p v
    unit_from is = record { holds = is.holds; value = is.value ∙ ap (λ vs. node form.Unit vs) (nothing is.parts is.reads) }
      where
        nothing : (vs : Values L) → ReadAll m shapes [] vs → vs ≡ none
        nothing none reads = refl
        nothing (more w vs) reads = absurd reads

    pub unit_row : kind_in shapes shape ≡ kind.Unit → Reads m shapes p v ↔ IsUnitAt m shapes p v
    unit_row of =
        let st = structure_is shapes p.shape shape found kind.Unit of in (
          λ reads. unit_from (parts_from_reads m shapes p form.Unit [] st v reads),
          λ is. reads_from_parts m shapes p form.Unit [] st v (record { parts = none; reads = tt; holds = is.holds; value = is.value }),
        )

    pub leaf_row : (k : ScalarType) → kind_in shapes shape ≡ kind.Leaf k → Reads m shapes p v ↔ IsLeafAt m shapes k p v
    leaf_row k of =
        let st = structure_is shapes p.shape shape found (kind.Leaf k) of in
        (leaf_from_reads m shapes p k st v, reads_from_leaf m shapes p k st v)

    pub struct_row : (st : StructType) → kind_in shapes shape ≡ kind.Struct → shape.ty ≡ ty.User (user.Struct st)
        → Reads m shapes p v ↔ ArePartsAt m shapes [] (placed st) p form.Record v
    struct_row st of type =
        let e = struct_structure shapes p.shape shape found st of type in
        (parts_from_reads m shapes p form.Record (placed st) e v, reads_from_parts m shapes p form.Record (placed st) e v)

    pub array_row : (a : ArrayDef) → kind_in shapes shape ≡ kind.Array → shape.def ≡ def.Array a
        → Reads m shapes p v ↔ ArePartsAt m shapes [] (in_a_row a.t a.n (part_at shapes a.t).size) p form.Array v
    array_row a of is =
        let body = in_a_row a.t a.n (part_at shapes a.t).size in
        let e = array_structure shapes p.shape shape found a of is in
        (parts_from_reads m shapes p form.Array body e v, reads_from_parts m shapes p form.Array body e v)

    module _ (e : EnumType) where
      abbrev bodies : List (List PlacedField)
      bodies = map (λ w. placed w.body) e.variants.items

      variant_from : IsTaggedBy m shapes form.Variant bodies p v → IsVariantAt m shapes e p v
      variant_from by =
          let variant = variant_found (slice_get e.variants.items by.tag) by.body (sym (slice_get-map (λ w. placed w.body) e.variants.items by.tag) ∙ by.there) in
          record {
            tag = by.tag;
            variant = variant.0;
            found = variant.1;
            is = subst (λ b. IsTaggedAt m shapes by.tag b p (form.Variant by.tag) v) (sym variant.2) by.is;
          }

      variant_to : IsVariantAt m shapes e p v → IsTaggedBy m shapes form.Variant bodies p v
      variant_to is = record {
        tag = is.tag;
        body = placed is.variant.body;
        there = slice_get-map (λ w. placed w.body) e.variants.items is.tag ∙ ap (option_map (λ w. placed w.body)) is.found;
        is = is.is;
      }

      pub enum_row : kind_in shapes shape ≡ kind.Enum → shape.ty ≡ ty.User (user.Enum e) → Reads m shapes p v ↔ IsVariantAt m shapes e p v
      enum_row of type =
          let st = enum_structure shapes p.shape shape found e of type in (
            λ reads. variant_from (tagged_from_reads m shapes p form.Variant bodies st v reads),
            λ is. reads_from_tagged m shapes p form.Variant bodies st v (variant_to is),
          )

    pub option_row : (o : OptionDef) → kind_in shapes shape ≡ kind.Option → shape.def ≡ def.Option o
        → Reads m shapes p v ↔ (IsTaggedAt m shapes 0 [] p form.Absent v ⊎ IsTaggedAt m shapes 1 (single o.t (option_offset (part_at shapes o.t))) p form.Present v)
    option_row o of is =
        let part = single o.t (option_offset (part_at shapes o.t)) in
        let st = option_structure shapes p.shape shape found o of is in (
          λ reads. two_from option_form [] part p v (tagged_from_reads m shapes p option_form ([] ∷ part ∷ []) st v reads),
          λ one. reads_from_tagged m shapes p option_form ([] ∷ part ∷ []) st v (two_to option_form [] part p v one),
        )

    pub result_row : (r : ResultDef) → kind_in shapes shape ≡ kind.Result → shape.def ≡ def.Result r
        → Reads m shapes p v ↔ (IsTaggedAt m shapes 0 (single r.t (result_offset (part_at shapes r.t) (part_at shapes r.e))) p form.Ok v
        ⊎ IsTaggedAt m shapes 1 (single r.e (result_offset (part_at shapes r.t) (part_at shapes r.e))) p form.Err v)
    result_row r of is =
        let part = single r.t (result_offset (part_at shapes r.t) (part_at shapes r.e)) in
        let error = single r.e (result_offset (part_at shapes r.t) (part_at shapes r.e)) in
        let st = result_structure shapes p.shape shape found r of is in (
          λ reads. two_from result_form part error p v (tagged_from_reads m shapes p result_form (part ∷ error ∷ []) st v reads),
          λ one. reads_from_tagged m shapes p result_form (part ∷ error ∷ []) st v (two_to result_form part error p v one),
        )

    -- a sequence, where what its form asks of the number and the order of the parts is the same as this
    module _ (Holds : Values L → Type 0) (form : Form) (ids : List ShapeId) (of : structure_at shapes p.shape ≡ sequence form ids) where
      sequence_row :
          (to : (parts : Values L) (is : IsSequenceAt m shapes (block_size shapes ids) (block_body shapes ids) p form parts v)
          → IsLengthOf form (length (filled_of is.blocks)) → IsInOrder m shapes (sequence form ids) parts → Holds parts)
          (from : (parts : Values L) (is : IsSequenceAt m shapes (block_size shapes ids) (block_body shapes ids) p form parts v)
          → Holds parts → IsLengthOf form (length (filled_of is.blocks)) × IsInOrder m shapes (sequence form ids) parts)
          → Reads m shapes p v ↔ IsSequenceWith m shapes Holds (block_size shapes ids) (block_body shapes ids) p form v
      sequence_row to from = (
        λ reads.
            let by = sequence_from_reads m shapes p form ids of v reads in
            record { parts = by.parts; holds = to by.parts by.is by.many by.ordered; is = by.is },
        λ row.
            let more_of = from row.parts row.is row.holds in
            reads_from_sequence m shapes p form ids of v (record { parts = row.parts; is = row.is; many = more_of.0; ordered = more_of.1 }),
      )

    none_ascend : (s : ℕ) → AreAscending m shapes s []
    none_ascend s i j d before within = absurd (omega arith)

    pub list_row : (d : ListDef) → kind_in shapes shape ≡ kind.List → shape.def ≡ def.List d
        → Reads m shapes p v ↔ IsSequenceWith m shapes (λ parts. Unit {0}) (part_at shapes d.t).size (single d.t 0) p form.List v
    list_row d of is =
        sequence_row (λ parts. Unit {0}) form.List (d.t ∷ []) (list_structure shapes p.shape shape found d of is)
        (λ parts there many ordered. tt) (λ parts there holds. (tt, none_ascend d.t.0))

    pub boxed_slice_row : (element : ShapeId) → kind_in shapes shape ≡ kind.BoxedSlice → element_of shapes shape.def ≡ Some element
        → Reads m shapes p v ↔ IsSequenceWith m shapes (λ parts. Unit {0}) (part_at shapes element).size (single element 0) p form.BoxedSlice v
    boxed_slice_row element of is =
        sequence_row (λ parts. Unit {0}) form.BoxedSlice (element ∷ []) (boxed_slice_structure shapes p.shape shape found element of is)
        (λ parts there many ordered. tt) (λ parts there holds. (tt, none_ascend element.0))

    pub box_row : (d : PointerDef) (id : ShapeId) → kind_in shapes shape ≡ kind.Box → shape.def ≡ def.Pointer d → d.pointee ≡ Some id
        → Reads m shapes p v ↔ IsSequenceWith m shapes (λ parts. count parts ≡ 1) (part_at shapes id).size (single id 0) p form.Box v
    box_row d id of is points =
        sequence_row (λ parts. count parts ≡ 1) form.Box (id ∷ []) (box_structure shapes p.shape shape found d id of is points)
        (λ parts there many ordered. as_many id parts there ∙ many)
        (λ parts there holds. (sym (as_many id parts there) ∙ holds, none_ascend id.0))
      where
        as_many : (id : ShapeId) (parts : Values L) (there : IsSequenceAt m shapes (part_at shapes id).size (single id 0) p form.Box parts v) → count parts ≡ length (filled_of there.blocks)
        as_many id parts there = count_read (block_places (single id 0) (filled_of there.blocks)) parts there.reads ∙ blocks_of_one (record { shape = id; offset = 0 }) (filled_of there.blocks)

    pub set_row : (d : SetDef) → kind_in shapes shape ≡ kind.Set → shape.def ≡ def.Set d
        → Reads m shapes p v ↔ IsSequenceWith m shapes (λ parts. AreAscending m shapes d.t.0 (listed parts)) (part_at shapes d.t).size (single d.t 0) p form.Set v
    set_row d of is =
        sequence_row (λ parts. AreAscending m shapes d.t.0 (listed parts)) form.Set (d.t ∷ []) (set_structure shapes p.shape shape found d of is)
        (λ parts there many ordered. ordered) (λ parts there holds. (tt, holds))

    pub map_row : (d : MapDef) → kind_in shapes shape ≡ kind.Map → shape.def ≡ def.Map d
        → Reads m shapes p v ↔ IsSequenceWith m shapes (λ parts. AreAscending m shapes d.k.0 (every_second parts))
        (pair_layout (part_at shapes d.k) (part_at shapes d.v)).size (pair_body d.k d.v (value_offset (part_at shapes d.k) (part_at shapes d.v))) p form.Map v
    map_row d of is =
        sequence_row (λ parts. AreAscending m shapes d.k.0 (every_second parts)) form.Map (d.k ∷ d.v ∷ []) (map_structure shapes p.shape shape found d of is)
        (λ parts there many ordered. ordered) (λ parts there holds. (tt, holds))
