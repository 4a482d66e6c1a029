-- The hash writes of a value: where there are none, where they are finished, and that equal values have the same ones.
use Rattle.std.proofs.Common.{◌≡◌, ℕ, ◌&&◌, Bool, true, false, if◌then◌else◌, List, [], ◌∷◌, All, Option, None, Some, slice_get, refl, sym, ap, ◌∙◌, subst}
use Rattle.std.specs.Option.{option_map_or}
use Rattle.std.proofs.lemmas.Bool.{and_from, and_left, and_parts, false≢true}
use Rattle.std.proofs.lemmas.List.Elements.{All-head, All-tail}
use Rattle.facet_base.proofs.Lists.{All_at}
use Rattle.facet_base.specs.declared.characteristic.Characteristic.TheVariants as trait
use Rattle.facet_caps.specs.VTableErased.{capabilities_of}
use Rattle.facet_causes.specs.Causes.{IsWellFormed}
use Rattle.facet_causes.specs.OfferedMembers.{AreOffered, MembersAreOffered}
use Rattle.facet_causes.specs.Reading.{kind_in}
use Rattle.facet_causes.proofs.MembersOffered.{members_are_offered}
use Rattle.facet_leaf.specs.LeafLaws.{LeafLaws}
use Rattle.facet_leaf.specs.LeafModel.{LeafModel}
use Rattle.facet_outline.specs.BadLayout.{has_values}
use Rattle.facet_outline.specs.Offered.{offered_capabilities}
use Rattle.facet_outline.specs.declared.value_kind.ValueKind.{ValueKind}
use Rattle.facet_outline.specs.declared.value_kind.ValueKind.TheVariants as kind
use Rattle.facet_registry.specs.Registry.{offers}
use Rattle.facet_shape.specs.Capability.{can}
use Rattle.facet_shape.specs.declared.shape.Shape.{Shape}
use Rattle.facet_trees.proofs.EqualValues.{both_equal, equal_leaves, equal_nodes, leaf_not_node, node_not_leaf}
use Rattle.facet_trees.proofs.OfferedComparisons.{have_leaves, leaves_can, some_fits}
use Rattle.facet_trees.proofs.PartShapes.{own_offer, parts_offer}
use Rattle.facet_trees.specs.Answered.{AllOffer}
use Rattle.facet_trees.specs.Equal.{equality, equality_of_parts}
use Rattle.facet_trees.specs.Fits.{AllFit, Fits}
use Rattle.facet_trees.specs.Structure.{no_values, part_shapes, structure_at, structure_of_kind}
use Rattle.facet_trees.specs.Value.{Value, Values, leaf, node, none, more, count}
use Rattle.facet_compare.specs.Hash.{HashWrites, finished_with, form_writes, hash_writes, hash_writes_of_parts, is_hashable, no_hash, writes_then}

-- the writes where there is a hash
pub if_there : (is_there : Bool) (writes : HashWrites) → is_there ≡ true → (if is_there then writes else no_hash) ≡ writes
if_there true writes is = refl
if_there false writes is = absurd (cc)

pub if_not_there : (is_there : Bool) (writes : HashWrites) → is_there ≡ false → (if is_there then writes else no_hash) ≡ no_hash
if_not_there true writes is = absurd (cc)
if_not_there false writes is = refl

-- two are the same where they are asked for
same_if_there : (is_there : Bool) (one other : HashWrites) → (is_there ≡ true → one ≡ other) → (if is_there then one else no_hash) ≡ (if is_there then other else no_hash)
same_if_there true one other same = same refl
same_if_there false one other same = refl

-- writes after finished ones are finished where they are
then_finished : (first next : HashWrites) → first.finished ≡ true → next.finished ≡ true → (writes_then first next).finished ≡ true
then_finished first next one other = rw one other

module _ {L : Type 0} (m : LeafModel L) (shapes : List Shape) where
  abbrev Offers : ValueKind → Shape → Type 0
  Offers k shape = has_values k ≡ true → AreOffered (capabilities_of shape.vtable) (offered_capabilities m k shape.ty)

  -- the values of a kind whose capabilities have a hash can be hashed
  hashable_kind : (k : ValueKind) (shape : Shape) → Offers k shape → can shape trait.Hash ≡ true → (structure_of_kind shapes k shape ≡ no_values → ⊥)
      → is_hashable (structure_of_kind shapes k shape) ≡ true
  hashable_kind kind.Unit shape offered can some = refl
  hashable_kind (kind.Leaf _) shape offered can some = refl
  hashable_kind kind.Struct shape offered can some = refl
  hashable_kind kind.Array shape offered can some = refl
  hashable_kind kind.Enum shape offered can some = refl
  hashable_kind kind.Option shape offered can some = refl
  hashable_kind kind.Result shape offered can some = refl
  hashable_kind kind.List shape offered can some = absurd (false≢true ((offered refl).hash can))
  hashable_kind kind.BoxedSlice shape offered can some = absurd (false≢true ((offered refl).hash can))
  hashable_kind kind.Map shape offered can some = absurd (false≢true ((offered refl).hash can))
  hashable_kind kind.Set shape offered can some = absurd (false≢true ((offered refl).hash can))
  hashable_kind kind.Box shape offered can some = refl
  hashable_kind kind.NoValue shape offered can some = absurd (some refl)

  -- a shape without a hash has no writes
  pub unhashed : (s : ℕ) (v : Value L) → offers shapes s trait.Hash ≡ false → hash_writes m shapes s v ≡ no_hash
  unfolding hash_writes
  unhashed s (leaf x) is = if_not_there (offers shapes s trait.Hash && is_hashable (structure_at shapes s)) _ (and_left (offers shapes s trait.Hash) (is_hashable (structure_at shapes s)) is)
  unhashed s (node form vs) is = if_not_there (offers shapes s trait.Hash && is_hashable (structure_at shapes s)) _ (and_left (offers shapes s trait.Hash) (is_hashable (structure_at shapes s)) is)

module _ {L : Type 0} (m : LeafModel L) (shapes : List Shape) (well : IsWellFormed m shapes) where
  -- where a shape with values offers a hash, there is one
  pub hash_is_there : (s : ℕ) → (structure_at shapes s ≡ no_values → ⊥) → offers shapes s trait.Hash ≡ true → (offers shapes s trait.Hash && is_hashable (structure_at shapes s)) ≡ true
  unfolding structure_at
  hash_is_there s some offered = and_from (offers shapes s trait.Hash) _ offered (go (slice_get shapes s) refl some offered)
    where
      go : (o : Option Shape) → slice_get shapes s ≡ o → (option_map_or (λ shape. structure_of_kind shapes (kind_in shapes shape) shape) o no_values ≡ no_values → ⊥)
          → option_map_or (λ shape. can shape trait.Hash) o false ≡ true
          → is_hashable (option_map_or (λ shape. structure_of_kind shapes (kind_in shapes shape) shape) o no_values) ≡ true
      go None here some offered = absurd (some refl)
      go (Some shape) here some offered =
          hashable_kind m shapes (kind_in shapes shape) shape (All_at (MembersAreOffered m shapes) shapes s shape (members_are_offered m shapes well) here).capabilities offered some

  there_for : (s : ℕ) (v : Value L) → AllOffer shapes trait.Hash s → Fits m shapes s v → (offers shapes s trait.Hash && is_hashable (structure_at shapes s)) ≡ true
  there_for s v all fits = hash_is_there s (some_fits m shapes s v fits) (own_offer shapes trait.Hash s all)

  mutual
    unfolding hash_writes hash_writes_of_parts

    -- where each shape that is reached has a hash, the writes are finished
    pub hash_finished : (s : ℕ) (v : Value L) → AllOffer shapes trait.Hash s → Fits m shapes s v → (hash_writes m shapes s v).finished ≡ true
    hash_finished s (leaf x) all fits = ap (λ (w : HashWrites). w.finished) (if_there (offers shapes s trait.Hash && is_hashable (structure_at shapes s)) (finished_with (m.writes x)) (there_for s (leaf x) all fits))
    hash_finished s (node form vs) all fits =
        let ss = part_shapes (structure_at shapes s) form (count vs) in
        let writes = writes_then (finished_with (form_writes m shapes s form)) (hash_writes_of_parts m shapes ss vs) in
        ap (λ (w : HashWrites). w.finished) (if_there (offers shapes s trait.Hash && is_hashable (structure_at shapes s)) writes (there_for s (node form vs) all fits))
        ∙ parts_finished ss vs (parts_offer shapes trait.Hash s all form (count vs)) fits.1

    parts_finished : (ss : List ℕ) (vs : Values L) → All (AllOffer shapes trait.Hash) ss → AllFit m shapes ss vs → (hash_writes_of_parts m shapes ss vs).finished ≡ true
    parts_finished [] none all fit = refl
    parts_finished [] (more v vs) all fit = absurd fit
    parts_finished (s ∷ ss) none all fit = absurd fit
    parts_finished (s ∷ ss) (more v vs) all fit =
        let each = AllOffer shapes trait.Hash in
        then_finished (hash_writes m shapes s v) (hash_writes_of_parts m shapes ss vs) (hash_finished s v (All-head each s ss all) fit.0) (parts_finished ss vs (All-tail each s ss all) fit.1)

  module _ (laws : LeafLaws m) where
    leaves_write_the_same : (s : ℕ) (x y : L) → Fits m shapes s (leaf x) → Fits m shapes s (leaf y) → equality m shapes s (leaf x) (leaf y) ≡ Some true
        → (offers shapes s trait.Hash && is_hashable (structure_at shapes s)) ≡ true → m.writes x ≡ m.writes y
    leaves_write_the_same s x y fits also equal there =
        let both = equal_leaves m shapes s x y equal in
        laws.writes_same x y (have_leaves m shapes well s x y fits also trait.PartialEq tt both.0)
        (leaves_can m shapes well s (m.kind x) fits trait.Hash tt (and_parts (offers shapes s trait.Hash) (is_hashable (structure_at shapes s)) there).0) both.1

    mutual
      unfolding hash_writes hash_writes_of_parts equality equality_of_parts

      -- equal values have the same writes
      pub same_hash : (s : ℕ) (v w : Value L) → Fits m shapes s v → Fits m shapes s w → equality m shapes s v w ≡ Some true → hash_writes m shapes s v ≡ hash_writes m shapes s w
      same_hash s (leaf x) (leaf y) fits also equal =
          same_if_there (offers shapes s trait.Hash && is_hashable (structure_at shapes s)) (finished_with (m.writes x)) (finished_with (m.writes y))
          (λ there. ap finished_with (leaves_write_the_same s x y fits also equal there))
      same_hash s (leaf x) (node form vs) fits also equal = absurd (leaf_not_node m shapes s x form vs equal)
      same_hash s (node form vs) (leaf x) fits also equal = absurd (node_not_leaf m shapes s x form vs equal)
      same_hash s (node form vs) (node other ws) fits also equal =
          let structure = structure_at shapes s in
          let is_there = offers shapes s trait.Hash && is_hashable structure in
          let both = equal_nodes m shapes well s form other vs ws fits also equal in
          let ss = part_shapes structure form (count vs) in
          let ts = part_shapes structure other (count ws) in
          let shapes_same = ap (λ f. part_shapes structure f (count vs)) both.0 ∙ ap (part_shapes structure other) both.1 in
          let parts = same_hash_of_parts ss vs ws fits.1 (subst (λ xs. AllFit m shapes xs ws) (sym shapes_same) also.1) both.2 ∙ ap (λ xs. hash_writes_of_parts m shapes xs ws) shapes_same in
          ap (λ f. if is_there then writes_then (finished_with (form_writes m shapes s f)) (hash_writes_of_parts m shapes ss vs) else no_hash) both.0
          ∙ ap (λ rest. if is_there then writes_then (finished_with (form_writes m shapes s other)) rest else no_hash) parts

      same_hash_of_parts : (ss : List ℕ) (vs ws : Values L) → AllFit m shapes ss vs → AllFit m shapes ss ws → equality_of_parts m shapes ss vs ws ≡ Some true
          → hash_writes_of_parts m shapes ss vs ≡ hash_writes_of_parts m shapes ss ws
      same_hash_of_parts ss none none fit also equal = refl
      same_hash_of_parts [] none (more w ws) fit also equal = absurd also
      same_hash_of_parts (s ∷ ss) none (more w ws) fit also equal = absurd fit
      same_hash_of_parts [] (more v vs) ws fit also equal = absurd fit
      same_hash_of_parts (s ∷ ss) (more v vs) none fit also equal = absurd also
      same_hash_of_parts (s ∷ ss) (more v vs) (more w ws) fit also equal =
          let both = both_equal (equality m shapes s v w) (equality_of_parts m shapes ss vs ws) equal in
          ap (λ first. writes_then first (hash_writes_of_parts m shapes ss vs)) (same_hash s v w fit.0 also.0 both.0)
          ∙ ap (writes_then (hash_writes m shapes s w)) (same_hash_of_parts ss vs ws fit.1 also.1 both.1)
