-- What is seen at a place of a shape whose values have inline parts and nothing else.
use Rattle.std.proofs.Common.{◌≡◌, ℕ, zero, suc, ◌+◌, ◌<◌, ◌≤◌, All, true, List, [], ◌∷◌, IsSomeAnd, Some, length, slice_get, refl, sym, ap, ◌∙◌, subst, arith}
use Rattle.std.proofs.lemmas.List.Elements.{All-head}
use Rattle.facet_base.proofs.Lists.{All_at}
use Rattle.facet_block.specs.Block.{size_of}
use Rattle.facet_block.specs.declared.block.Block.{Block}
use Rattle.facet_causes.specs.Causes.{IsWellFormed}
use Rattle.facet_leaf.specs.LeafModel.{LeafModel}
use Rattle.facet_make.proofs.DefaultSteps.{is_plain_of, plain_form}
use Rattle.facet_make.proofs.PartsMade.{part_found}
use Rattle.facet_make.specs.Initial.{is_plain, plain_body}
use Rattle.facet_outline.specs.declared.placed_fields.PlacedField.{PlacedField}
use Rattle.facet_registry.specs.Registry.{size_at}
use Rattle.facet_shape.specs.declared.shape.Shape.{Shape}
use Rattle.facet_trees.specs.Structure.{plain, structure_at}
use Rattle.facet_trees.specs.declared.form.Form.{Form}
use Rattle.facet_values.proofs.LaidOut.{laid_out}
use Rattle.facet_values.proofs.StructureRows.{seen_there}
use Rattle.facet_values.specs.Laid.{LieApart, bodies_of}
use Rattle.facet_values.specs.Place.{LiesInBlock, Place, part_places, place_in}
use Rattle.facet_values.specs.Seen.{a_leaf, a_node, no_value, seen}
use Rattle.facet_walk.specs.Look.{IsInside}

module _ {L : Type 0} (m : LeafModel L) (shapes : List Shape) (p : Place L) (is : is_plain (structure_at shapes p.shape) ≡ true) where
  plain_seen : seen shapes p ≡ a_node (plain_form (structure_at shapes p.shape)) (part_places p (plain_body (structure_at shapes p.shape)))
  plain_seen = seen_there m shapes p (plain (plain_form (structure_at shapes p.shape)) (plain_body (structure_at shapes p.shape))) (is_plain_of (structure_at shapes p.shape) is)

  pub plain_parts_seen : (form : Form) (parts : List (Place L)) → a_node form parts ≡ seen shapes p → parts ≡ part_places p (plain_body (structure_at shapes p.shape))
  plain_parts_seen form parts e = let f = e ∙ plain_seen in cc

  pub no_leaf_seen : (x : L) → a_leaf x ≡ seen shapes p → ⊥
  no_leaf_seen x e = let f = e ∙ plain_seen in cc

  pub some_value_seen : no_value ≡ seen shapes p → ⊥
  some_value_seen e = let f = e ∙ plain_seen in cc

inside_by : {L : Type 0} (shapes : List Shape) (size : ℕ) (p : Place L) (body : List PlacedField) (i : ℕ) → p.offset + size ≤ size_of p.block → ((k : ℕ) (part : PlacedField) → slice_get body k ≡ Some part → part.offset ≤ size)
    → i < length body → IsSomeAnd (slice_get (part_places p body) i) IsInside
inside_by shapes size p [] i lies ends below = absurd (omega arith)
inside_by shapes size p (part ∷ body) zero lies ends below = omega (arith, ends 0 part refl)
inside_by shapes size p (part ∷ body) (suc i) lies ends below = inside_by shapes size p body i lies (λ k. ends (suc k)) (omega arith)

-- each part begins in the block where the value lies in it
pub plain_part_inside : {L : Type 0} (m : LeafModel L) (shapes : List Shape) → IsWellFormed m shapes → (s at : ℕ) (b : Block L) → s < length shapes → is_plain (structure_at shapes s) ≡ true → LiesInBlock shapes (place_in s b at)
    → (i : ℕ) → i < length (plain_body (structure_at shapes s)) → IsSomeAnd (slice_get (part_places (place_in s b at) (plain_body (structure_at shapes s))) i) IsInside
plain_part_inside m shapes well s at b below is lies i within =
    let st = structure_at shapes s in
    let size = size_at shapes s in
    let bodies = subst (λ t. All (LieApart shapes size) (bodies_of t)) (is_plain_of st is) (laid_out m shapes well s below).bodies in
    let apart = All-head (LieApart shapes size) (plain_body st) [] bodies in
    inside_by shapes size (place_in s b at) (plain_body st) i lies
    (λ k part there. omega (arith, All_at (λ x. x.offset + size_at shapes x.shape.0 ≤ size) (plain_body st) k part apart.inside there)) within

-- the place of a part is known by its shape and its offset
pub part_place_is : {L : Type 0} (s at : ℕ) (b : Block L) (body : List PlacedField) (i : ℕ) (q : Place L) → slice_get (part_places (place_in s b at) body) i ≡ Some q
    → slice_get (part_places (place_in s b at) body) i ≡ Some (place_in q.shape b q.offset)
part_place_is s at b body i q there = there ∙ ap (λ c. Some (place_in q.shape c q.offset)) (sym (part_found (place_in s b at) body i q there).block)
