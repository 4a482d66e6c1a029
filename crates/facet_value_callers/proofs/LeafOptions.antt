-- Options whose part is a leaf: what is put, and what is taken.
use Rattle.std.proofs.Common.{◌≡◌, ◌≢◌, ◌⊎◌, ℕ, ◌+◌, ◌<◌, ◌≤◌, inl, inr, All, List, [], ◌∷◌, length, None, Some, slice_get, refl, sym, ap, ◌∙◌, subst, arith}
use Rattle.std.specs.Prelude.{◌↔◌}
use Rattle.std.proofs.lemmas.List.Elements.{All-head, All-tail}
use Rattle.facet_base.specs.declared.layout.ShapeId.{ShapeId}
use Rattle.facet_block.proofs.Ranges.{item_elsewhere, item_there, size_with_item}
use Rattle.facet_block.specs.Block.{item_at, size_of, with_item}
use Rattle.facet_block.specs.Span.{IsApart, IsBeside, IsVacant, IsWithin, span}
use Rattle.facet_block.specs.declared.block.Block.{Block}
use Rattle.facet_block.specs.declared.block.Item.{Leaf, Tag}
use Rattle.facet_causes.specs.Arrangement.{part_at, single}
use Rattle.facet_leaf.specs.LeafModel.{LeafModel}
use Rattle.facet_outline.specs.Layout.{option_offset}
use Rattle.facet_outline.specs.declared.value_kind.ValueKind.TheVariants as kind
use Rattle.facet_registry.specs.Registry.{kind_at, size_at}
use Rattle.facet_shape.specs.declared.shape.Shape.{Shape}
use Rattle.facet_trees.specs.Structure.{option_form, structure_at, tagged}
use Rattle.facet_trees.specs.Value.{Value, leaf, node, none, more}
use Rattle.facet_trees.specs.declared.form.Form.TheVariants as form
use Rattle.facet_value_callers.proofs.Leaves.{leaf_reads, not_first}
use Rattle.facet_value_callers.specs.ShapesOf.{IsOptionOf}
use Rattle.facet_values.proofs.KindRows.{option_row, option_structure}
use Rattle.facet_values.proofs.KindStructures.{structure_of_leaf}
use Rattle.facet_base.proofs.Lists.{All_at}
use Rattle.facet_values.proofs.StructureRows.{leaf_item}
use Rattle.facet_values.specs.Laid.{IsLaidOut, LieApart, LieBesideTag, LiesBehindTag, bodies_of, has_own_item}
use Rattle.facet_values.specs.Place.{Place, part_place, place_in}
use Rattle.facet_values.specs.Reading.{ReadAll, Reads, own_span}
use Rattle.facet_values.specs.Rows.{HoldsOnly, IsTaggedAt}

-- a part apart from the tag lies behind it
behind_tag : (start len : ℕ) → 0 < len → IsApart own_span (span start len) → 0 < start
behind_tag start len some apart = elim (apart 0) [
  | inl (inl before) ↦ absurd (omega arith)
  | inl (inr behind) ↦ absurd (omega arith)
  | inr (inl before) ↦ before
  | inr (inr behind) ↦ absurd (omega arith)
]

module _ (shapes : List Shape) (s : ℕ) (part : ShapeId) (offset : ℕ) (of : IsOptionOf shapes s part offset) where
  body_is : single of.option.t (option_offset (part_at shapes of.option.t)) ≡ single part offset
  body_is = ap (λ t. single t (option_offset (part_at shapes t))) of.part_is ∙ ap (λ n. single part n) (sym of.offset_is)

  structure : structure_at shapes s ≡ tagged option_form ([] ∷ single part offset ∷ [])
  structure = option_structure shapes s of.shape of.found of.option of.is_option of.definition ∙ ap (λ body. tagged option_form ([] ∷ body ∷ [])) body_is

  module _ (laid : IsLaidOut shapes s) where
    pub tag_inside : 0 < size_at shapes s
    tag_inside = laid.own (ap has_own_item structure)

    -- the part is of a shape that is there, and ends inside
    part_lies : LieApart shapes (size_at shapes s) (single part offset)
    part_lies =
        let bodies = subst (λ st. All (LieApart shapes (size_at shapes s)) (bodies_of st)) structure laid.bodies in
        All_at (LieApart shapes (size_at shapes s)) ([] ∷ single part offset ∷ []) 1 (single part offset) bodies refl

    pub part_known : part.0 < length shapes
    part_known = All-head (λ x. x.shape.0 < length shapes) (record { shape = part; offset = offset }) [] part_lies.known

    pub part_inside : offset + size_at shapes part.0 ≤ size_at shapes s
    part_inside = All-head (λ x. x.offset + size_at shapes x.shape.0 ≤ size_at shapes s) (record { shape = part; offset = offset }) [] part_lies.inside

    pub part_behind : 0 < size_at shapes part.0 → 0 < offset
    part_behind some =
        let beside = subst (λ st. LiesBehindTag shapes st) structure laid.beside in
        let body = All_at (λ b. LieBesideTag shapes b) ([] ∷ single part offset ∷ []) 1 (single part offset) beside refl in
        behind_tag offset (size_at shapes part.0) some (All-head (λ x. IsApart own_span (span x.offset (size_at shapes x.shape.0))) (record { shape = part; offset = offset }) [] body)

module _ {L : Type 0} (m : LeafModel L) (shapes : List Shape) (all_laid : (s : ℕ) → s < length shapes → IsLaidOut shapes s) where
  -- a leaf has a byte
  pub leaf_some : (s : ℕ) (x : L) → s < length shapes → kind_at shapes s ≡ kind.Leaf (m.kind x) → 0 < size_at shapes s
  leaf_some s x known of = (all_laid s known).own (ap has_own_item (structure_of_leaf shapes s (m.kind x) of))

module _ {L : Type 0} (m : LeafModel L) (shapes : List Shape) (s : ℕ) (part : ShapeId) (offset : ℕ) (of : IsOptionOf shapes s part offset) where
  -- the row of options, for this shape
  row : (p : Place L) (v : Value L) → p.shape ≡ s → Reads m shapes p v ↔ (IsTaggedAt m shapes 0 [] p form.Absent v ⊎ IsTaggedAt m shapes 1 (single part offset) p form.Present v)
  row p v same =
      subst (λ body. Reads m shapes p v ↔ (IsTaggedAt m shapes 0 [] p form.Absent v ⊎ IsTaggedAt m shapes 1 body p form.Present v)) (body_is shapes s part offset of)
      (option_row m shapes p v of.shape (subst (λ t. slice_get shapes t ≡ Some of.shape) (sym same) of.found) of.option of.is_option of.definition)

  module _ (old : Block L) (at : ℕ) (vacant : IsVacant old (span at (size_at shapes s))) where
    -- the tag 0 alone reads as None
    pub absent_reads : 0 < size_at shapes s → Reads m shapes (place_in s (with_item old at (Some (Tag 0))) at) (node form.Absent none)
    absent_reads some =
        let new = with_item old at (Some (Tag 0)) in
        let same = size_with_item old at (Some (Tag 0)) in
        (row (place_in s new at) (node form.Absent none) refl).1
        (inl (record {
          item = item_there old at (Some (Tag 0)) (omega (arith, some, vacant.inside));
          behind = record {
            parts = none;
            reads = tt;
            holds = record {
              inside = omega (arith, vacant.inside, same);
              alone = λ i below beside.
                  let other = not_first i 0 1 (omega arith) (All-head (IsBeside i) (span 0 1) [] beside) in
                  item_elsewhere old at (Some (Tag 0)) (at + i) (omega (arith, other)) ∙ vacant.empty (at + i) (omega arith, omega (arith, below));
            };
            value = refl;
          };
        }))

    module _ (x : L) (kind_is : kind_at shapes part.0 ≡ kind.Leaf (m.kind x)) (some : 0 < size_at shapes part.0) (behind : 0 < offset) (inside : offset + size_at shapes part.0 ≤ size_at shapes s) where
      abbrev with_tag : Block L
      with_tag = with_item old at (Some (Tag 1))

      abbrev with_leaf : Block L
      with_leaf = with_item with_tag (at + offset) (Some (Leaf x))

      same_size : size_of with_leaf ≡ size_of old
      same_size = size_with_item with_tag (at + offset) (Some (Leaf x)) ∙ size_with_item old at (Some (Tag 1))

      tag_there : item_at with_leaf at ≡ Some (Tag 1)
      tag_there = item_elsewhere with_tag (at + offset) (Some (Leaf x)) at (omega (arith, behind)) ∙ item_there old at (Some (Tag 1)) (omega (arith, vacant.inside, inside, some))

      leaf_there : item_at with_leaf (at + offset) ≡ Some (Leaf x)
      leaf_there = item_there with_tag (at + offset) (Some (Leaf x)) (omega (arith, vacant.inside, inside, some, size_with_item old at (Some (Tag 1))))

      others : (i : ℕ) → i ≢ at → i ≢ at + offset → IsWithin i (span at (size_at shapes s)) → item_at with_leaf i ≡ None
      others i not_tag not_leaf within =
          item_elsewhere with_tag (at + offset) (Some (Leaf x)) i not_leaf ∙ (item_elsewhere old at (Some (Tag 1)) i not_tag ∙ vacant.empty i within)

      leaf_alone : HoldsOnly m shapes (place_in part.0 with_leaf (at + offset)) (span 0 1 ∷ [])
      leaf_alone = record {
        inside = omega (arith, vacant.inside, inside, same_size);
        alone = λ i below beside.
            let other = not_first i 0 1 (omega arith) (All-head (IsBeside i) (span 0 1) [] beside) in
            others (at + offset + i) (omega (arith, behind)) (omega (arith, other)) (omega arith, omega (arith, below, inside));
      }

      -- the tag 1 and a leaf read as the option that holds the leaf
      pub present_reads : Reads m shapes (place_in s with_leaf at) (node form.Present (more (leaf x) none))
      present_reads =
          (row (place_in s with_leaf at) (node form.Present (more (leaf x) none)) refl).1
          (inr (record {
            item = tag_there;
            behind = record {
              parts = more (leaf x) none;
              reads = (leaf_reads m shapes (place_in part.0 with_leaf (at + offset)) x kind_is leaf_there leaf_alone, tt);
              holds = record {
                inside = omega (arith, vacant.inside, same_size);
                alone = λ i below beside.
                    let rest = All-tail (IsBeside i) (span 0 1) (span offset (size_at shapes part.0) ∷ []) beside in
                    let not_tag = not_first i 0 1 (omega arith) (All-head (IsBeside i) (span 0 1) (span offset (size_at shapes part.0) ∷ []) beside) in
                    let not_leaf = not_first i offset (size_at shapes part.0) some (All-head (IsBeside i) (span offset (size_at shapes part.0)) [] rest) in
                    others (at + i) (omega (arith, not_tag)) (omega (arith, not_leaf)) (omega arith, omega (arith, below));
              };
              value = refl;
            };
          }))

  -- the leaf that an option holds lies behind its tag
  pub held_there : (p : Place L) (x : L) → p.shape ≡ s → Reads m shapes p (node form.Present (more (leaf x) none)) → item_at p.block (p.offset + offset) ≡ Some (Leaf x)
  held_there p x same reads = elim ((row p (node form.Present (more (leaf x) none)) same).0 reads) [
    | inl is ↦ let e = is.behind.value in absurd (cc)
    | inr is ↦
        let parts : is.behind.parts ≡ more (leaf x) none = (let e = is.behind.value in cc) in
        let all = subst (λ vs. ReadAll m shapes (part_place p (record { shape = part; offset = offset }) ∷ []) vs) parts is.behind.reads in
        leaf_item m shapes (part_place p (record { shape = part; offset = offset })) x all.0
  ]
