-- What stays of a registry that gets a draft, loses its drafts or has them sealed.
use Rattle.std.proofs.Common.{◌≡◌, ℕ, ◌+◌, ◌^◌, ◌<◌, ◌≤◌, inl, inr, List, [], ◌∷◌, ◌++◌, length, take, drop, slice_get, Option, None, Some, refl, sym, ap, ◌∙◌, subst, arith, length-take, length-append}
use Rattle.std.proofs.lemmas.List.{append-nil, append_assoc, drop-append-le, drop_all, take-append-drop, take-append-le, take-take, take_all}
use Rattle.std.proofs.lemmas.Option.{slice_get_cases, slice_get_within}
use Rattle.facet_base.proofs.Lists.{slice_get_front}
use Rattle.facet_causes.specs.Causes.{IsWellFormed}
use Rattle.facet_causes.specs.Tables.{AreTables}
use Rattle.facet_causes.specs.declared.tables.Tables.{Tables}
use Rattle.facet_leaf.specs.LeafModel.{LeafModel}
use Rattle.facet_shape.specs.declared.shape.Shape.{Shape}
use Rattle.facet_registry.specs.Prelude.{prelude}
use Rattle.facet_registry.specs.Registry.{Registry, all_sealed, all_shapes, sealed_until, without_drafts}
use Rattle.facet_registry.specs.WellFormed.{IsRegistry, IsRegistryBeside}

-- the last of a list stands behind the others
slice_get_last : {A : Type 0} (xs : List A) (x : A) → slice_get (xs ++ x ∷ []) (length xs) ≡ Some x
slice_get_last [] x = refl
slice_get_last (y ∷ xs) x = slice_get_last xs x

-- a registry with one draft more
abbrev pub with_last : Registry → Shape → Registry
with_last registry shape = record registry { drafts = registry.drafts ++ shape ∷ [] }

-- a registry of these sealed shapes and drafts
abbrev pub registry_of : List Shape → List Shape → Registry
registry_of sealed drafts = record { sealed = sealed; drafts = drafts }

-- the shapes of a registry are those of the list that it is made of
pub all_of : (registry : Registry) (n : ℕ) (xs : List Shape) → sealed_until n xs ≡ registry → xs ≡ all_shapes registry
all_of registry n xs is = sym (take-append-drop n xs) ∙ ap all_shapes is

-- as many are sealed as are at the front
pub count_sealed : (registry : Registry) (n : ℕ) (xs : List Shape) → n ≤ length xs → sealed_until n xs ≡ registry → n ≡ length registry.sealed
count_sealed registry n xs within is = omega (arith, within, length-take n xs, ap (λ r. length r.sealed) is)

-- the list of a registry with one draft more, without drafts, and with all shapes sealed
pub until_last : (n : ℕ) (xs : List Shape) (shape : Shape) → n ≤ length xs → sealed_until n (xs ++ shape ∷ []) ≡ with_last (sealed_until n xs) shape
until_last n xs shape within = λ i. registry_of (take-append-le n xs (shape ∷ []) within i) (drop-append-le n xs (shape ∷ []) within i)

pub until_cut : (n : ℕ) (xs : List Shape) → sealed_until n (take n xs) ≡ without_drafts (sealed_until n xs)
until_cut n xs =
    let same = take-take n n xs (omega arith) in
    let none = drop_all n (take n xs) (omega (arith, length-take n xs)) in
    λ i. registry_of (same i) (none i)

pub until_end : (n : ℕ) (xs : List Shape) → sealed_until (length xs) xs ≡ all_sealed (sealed_until n xs)
until_end n xs =
    let all = take_all (length xs) xs (omega arith) ∙ sym (take-append-drop n xs) in
    let none = drop_all (length xs) xs (omega arith) in
    λ i. registry_of (all i) (none i)

module _ {L : Type 0} (m : LeafModel L) (registry : Registry) (is : IsRegistry m registry) where
  -- a shape that goes on with the ids stands under its own
  ids_with_last : (shape : Shape) → shape.id.0 ≡ length (all_shapes registry) → (s : ℕ) (found : Shape) → slice_get (all_shapes registry ++ shape ∷ []) s ≡ Some found → found.id.0 ≡ s
  ids_with_last shape next s found here =
      let xs = all_shapes registry in
      elim (slice_get_cases xs s).1 [
        | inl there ↦ is.ids s found (sym (slice_get_front xs (shape ∷ []) s there.1) ∙ here)
        | inr past ↦
            let within = slice_get_within (xs ++ shape ∷ []) s found here in
            let last : s ≡ length xs = omega (arith, past.0, within, length-append xs (shape ∷ [])) in
            let e = sym (subst (λ i. slice_get (xs ++ shape ∷ []) i ≡ Some found) last here) ∙ slice_get_last xs shape in
            let same : found ≡ shape = cc in
            ap (λ x. x.id.0) same ∙ next ∙ sym last
      ]

  registry_with_last : (shape : Shape) → shape.id.0 ≡ length (all_shapes registry) → length (all_shapes registry) + 1 < 2 ^ 32 → IsRegistry m (with_last registry shape)
  registry_with_last shape next room =
      let all : all_shapes registry ++ shape ∷ [] ≡ all_shapes (with_last registry shape) = append_assoc registry.sealed registry.drafts (shape ∷ []) in
      record {
        begins = is.begins;
        few = omega (arith, room, ap length all, length-append (all_shapes registry) (shape ∷ []));
        ids = λ s found here. ids_with_last shape next s found (ap (λ xs. slice_get xs s) all ∙ here);
        well_formed = is.well_formed;
      }

  registry_without_drafts : IsRegistry m (without_drafts registry)
  registry_without_drafts =
      let xs = registry.sealed in
      record {
        begins = is.begins;
        few = omega (arith, is.few, ap length (append-nil xs), length-append xs registry.drafts);
        ids = λ s shape here.
            let there = ap (λ ys. slice_get ys s) (sym (append-nil xs)) ∙ here in
            is.ids s shape (slice_get_front xs registry.drafts s (slice_get_within xs s shape there) ∙ there);
        well_formed = is.well_formed;
      }

  -- the sealed shapes are sixteen or more
  pub least_sealed : 16 ≤ length registry.sealed
  unfolding prelude
  least_sealed = omega (arith, length-take 16 registry.sealed, ap length is.begins)

  -- where no shape meets a cause all may be sealed
  registry_all_sealed : IsWellFormed m (all_shapes registry) → IsRegistry m (all_sealed registry)
  registry_all_sealed well =
      let xs = all_shapes registry in
      record {
        begins = take-append-le 16 registry.sealed registry.drafts least_sealed ∙ is.begins;
        few = omega (arith, is.few, ap length (append-nil xs));
        ids = λ s shape here. is.ids s shape (ap (λ ys. slice_get ys s) (sym (append-nil xs)) ∙ here);
        well_formed = well;
      }

module _ {L : Type 0} (m : LeafModel L) (n : ℕ) (xs : List Shape) (tables : Tables) (is : IsRegistryBeside m n xs tables) where
  same_count : length (all_shapes (sealed_until n xs)) ≡ length xs
  same_count = ap length (take-append-drop n xs)

  pub beside_with_draft : (shape : Shape) → shape.id.0 ≡ length xs → length xs + 1 < 2 ^ 32 → IsRegistryBeside m n (xs ++ shape ∷ []) tables
  beside_with_draft shape next room = record {
    within = omega (arith, is.within, length-append xs (shape ∷ []));
    is = subst (IsRegistry m) (sym (until_last n xs shape is.within)) (registry_with_last m (sealed_until n xs) is.is shape (next ∙ sym same_count) (omega (arith, room, same_count)));
    right = subst (λ ys. AreTables ys tables) (sym (take-append-le n xs (shape ∷ []) is.within)) is.right;
  }

  pub beside_without_drafts : IsRegistryBeside m n (take n xs) tables
  beside_without_drafts = record {
    within = omega (arith, is.within, length-take n xs);
    is = subst (IsRegistry m) (sym (until_cut n xs)) (registry_without_drafts m (sealed_until n xs) is.is);
    right = subst (λ ys. AreTables ys tables) (sym (take-take n n xs (omega arith))) is.right;
  }

  -- with the tables of all its shapes, where none meets a cause
  pub beside_all_sealed : (longer : Tables) → IsWellFormed m xs → AreTables xs longer → IsRegistryBeside m (length xs) xs longer
  beside_all_sealed longer well right = record {
    within = omega arith;
    is = subst (IsRegistry m) (sym (until_end n xs)) (registry_all_sealed m (sealed_until n xs) is.is (subst (IsWellFormed m) (sym (take-append-drop n xs)) well));
    right = subst (λ ys. AreTables ys longer) (sym (take_all (length xs) xs (omega arith))) right;
  }
