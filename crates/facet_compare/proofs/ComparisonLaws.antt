-- Equality is transitive where the total order is there, and the partial order is the total one there.
use Rattle.std.proofs.Common.{◌≡◌, ℕ, ℤ, ◌||◌, ◌&&◌, Bool, true, false, not, int_cmp, List, [], ◌∷◌, All, Option, None, Some, slice_get, refl, sym, ap, ◌∙◌, subst}
use Rattle.std.specs.Option.{option_map_or}
use Rattle.std.specs.Ordering.{is_eq}
use Rattle.std.specs.declared.cmp.Ordering.TheVariants.{Less, Equal, Greater}
use Rattle.std.proofs.lemmas.Bool.{false_from_ne_true, or_parts}
use Rattle.std.proofs.lemmas.Bool.Decides.{Decides-int_eq}
use Rattle.std.proofs.lemmas.List.Elements.{All-head, All-tail}
use Rattle.std.proofs.lemmas.Option.{slice_get_within}
use Rattle.facet_base.specs.declared.characteristic.Characteristic.TheVariants as trait
use Rattle.facet_caps.specs.VTableErased.{capabilities_of}
use Rattle.facet_causes.specs.Causes.{IsWellFormed, ShapeMeets}
use Rattle.facet_causes.specs.Reading.{OfShape, layout_at}
use Rattle.facet_causes.specs.declared.cause.SealCause.TheVariants as cause
use Rattle.facet_leaf.specs.LeafLaws.{LeafLaws}
use Rattle.facet_leaf.specs.LeafModel.{LeafModel}
use Rattle.facet_outline.specs.Mismatch.{has_order_alone, is_mismatched}
use Rattle.facet_registry.specs.Registry.{offers}
use Rattle.facet_shape.specs.Capability.{can}
use Rattle.facet_shape.specs.declared.shape.Shape.{Shape}
use Rattle.facet_trees.proofs.AnswersAgree.{agree_iff}
use Rattle.facet_trees.proofs.OfferedComparisons.{have_leaves, is_there, some_fits}
use Rattle.facet_trees.proofs.OrderLaws.{ordering_agrees, ordering_chain}
use Rattle.facet_trees.proofs.PartShapes.{Alike, parts_offer}
use Rattle.facet_trees.specs.Answered.{AllOffer, answer_if, is_answered, rank_at}
use Rattle.facet_trees.specs.Equal.{equality}
use Rattle.facet_trees.specs.Fits.{AllFit, Fits}
use Rattle.facet_trees.specs.Order.{Answer, by_partial, by_total, order_then, ordered, ordering, ordering_of_parts}
use Rattle.facet_trees.specs.Structure.{part_shapes, structure_at}
use Rattle.facet_trees.specs.Value.{Value, Values, leaf, node, none, more, count}
use Rattle.facet_compare.proofs.AlikeParts.{parts_alike}

-- a total order comes with a partial one
with_partial : (equal partial total : Bool) → (((partial || total) && not equal) || (total && not partial)) ≡ false → total ≡ true → partial ≡ true
with_partial equal true total not_alone is = refl
with_partial true false true not_alone is = absurd (cc)
with_partial false false true not_alone is = absurd (cc)
with_partial equal false false not_alone is = is

-- of two answers that begin alike, what is behind counts only where that is Equal
same_next : (first next after : Answer) → (first ≡ ordered Equal → next ≡ after) → order_then first next ≡ order_then first after
same_next None next after same = refl
same_next (Some None) next after same = refl
same_next (Some (Some Less)) next after same = refl
same_next (Some (Some Equal)) next after same = same refl
same_next (Some (Some Greater)) next after same = refl

both_there : {A : Type 0} (here there : Bool) (one other : Option A) → here ≡ true → there ≡ true → one ≡ other → answer_if here one ≡ answer_if there other
both_there true true one other is also same = same
both_there true false one other is also same = absurd (cc)
both_there false there one other is also same = absurd (cc)

ranks_same : (a b : ℤ) → ordered (int_cmp a b) ≡ ordered Equal → a ≡ b
ranks_same a b same = let equal : int_cmp a b ≡ Equal = cc in (Decides-int_eq a b).0 (ap is_eq equal)

module _ {L : Type 0} (m : LeafModel L) (laws : LeafLaws m) (shapes : List Shape) (well : IsWellFormed m shapes) where
  order_not_alone : (s : ℕ) (shape : Shape) → slice_get shapes s ≡ Some shape → has_order_alone (capabilities_of shape.vtable) ≡ false
  unfolding is_mismatched
  order_not_alone s shape is =
      (or_parts _ _ (false_from_ne_true (is_mismatched (layout_at shapes) shape)
      (λ met. well cause.Mismatch s (slice_get_within shapes s shape is) (subst (OfShape (ShapeMeets m shapes cause.Mismatch s)) (sym is) met)))).1

  offers_partial : (s : ℕ) → offers shapes s trait.Ord ≡ true → offers shapes s trait.PartialOrd ≡ true
  offers_partial s offered = go (slice_get shapes s) refl offered
    where
      go : (o : Option Shape) → slice_get shapes s ≡ o → option_map_or (λ shape. can shape trait.Ord) o false ≡ true → option_map_or (λ shape. can shape trait.PartialOrd) o false ≡ true
      go None is offered = absurd (cc)
      go (Some shape) is offered =
          let v = capabilities_of shape.vtable in with_partial v.partial_eq v.partial_cmp v.cmp (order_not_alone s shape is) offered

  all_offer_partial : (s : ℕ) → AllOffer shapes trait.Ord s → AllOffer shapes trait.PartialOrd s
  all_offer_partial s all part reached = offers_partial part (all part reached)

  -- both orders answer
  answered_both : (s : ℕ) (v : Value L) (partial total : Answer) → AllOffer shapes trait.Ord s → Fits m shapes s v → partial ≡ total
      → answer_if (is_answered shapes trait.PartialOrd s) partial ≡ answer_if (is_answered shapes trait.Ord s) total
  answered_both s v partial total all fits same =
      let some = some_fits m shapes s v fits in
      both_there (is_answered shapes trait.PartialOrd s) (is_answered shapes trait.Ord s) partial total
      (is_there m shapes well s some trait.PartialOrd tt (all_offer_partial s all)) (is_there m shapes well s some trait.Ord tt all) same

  mutual
    unfolding ordering ordering_of_parts

    -- where each shape that is reached has the total order, the partial one answers the same
    pub orders_same : (s : ℕ) (v w : Value L) → AllOffer shapes trait.Ord s → Fits m shapes s v → Fits m shapes s w → ordering m shapes by_partial s v w ≡ ordering m shapes by_total s v w
    orders_same s (leaf x) (leaf y) all fits also =
        answered_both s (leaf x) (Some (m.partial_order x y)) (ordered (m.order x y)) all fits
        (ap Some (laws.partial_total x y (have_leaves m shapes well s x y fits also trait.Ord tt (is_there m shapes well s (some_fits m shapes s (leaf x) fits) trait.Ord tt all))))
    orders_same s (leaf x) (node other ws) all fits also = answered_both s (leaf x) (ordered Less) (ordered Less) all fits refl
    orders_same s (node form vs) (leaf y) all fits also = answered_both s (node form vs) (ordered Greater) (ordered Greater) all fits refl
    orders_same s (node form vs) (node other ws) all fits also =
        let r = rank_at shapes s form in
        let r' = rank_at shapes s other in
        let ss = part_shapes (structure_at shapes s) form (count vs) in
        let ts = part_shapes (structure_at shapes s) other (count ws) in
        let partial = ordering_of_parts m shapes by_partial ss vs ws in
        let total = ordering_of_parts m shapes by_total ss vs ws in
        answered_both s (node form vs) (order_then (ordered (int_cmp r r')) partial) (order_then (ordered (int_cmp r r')) total) all fits
        (same_next (ordered (int_cmp r r')) partial total
        (λ same. parts_same ss ts vs ws (parts_alike m shapes well s form other (count vs) (count ws) fits.0 also.0 (ranks_same r r' same))
        (parts_offer shapes trait.Ord s all form (count vs)) fits.1 also.1))

    parts_same : (ss ts : List ℕ) (vs ws : Values L) → Alike ss ts → All (AllOffer shapes trait.Ord) ss → AllFit m shapes ss vs → AllFit m shapes ts ws
        → ordering_of_parts m shapes by_partial ss vs ws ≡ ordering_of_parts m shapes by_total ss vs ws
    parts_same ss ts none none alike all fit also = refl
    parts_same ss ts none (more w ws) alike all fit also = refl
    parts_same ss ts (more v vs) none alike all fit also = refl
    parts_same [] ts (more v vs) (more w ws) alike all fit also = absurd fit
    parts_same (s ∷ ss) [] (more v vs) (more w ws) alike all fit also = absurd also
    parts_same (s ∷ ss) (t ∷ ts) (more v vs) (more w ws) alike all fit also =
        let each = AllOffer shapes trait.Ord in
        let partial = ordering_of_parts m shapes by_partial ss vs ws in
        let total = ordering_of_parts m shapes by_total ss vs ws in
        let first = orders_same s v w (All-head each s ss all) fit.0 (subst (λ u. Fits m shapes u w) (sym alike.0) also.0) in
        same_next (ordering m shapes by_partial s v w) partial total (λ same. parts_same ss ts vs ws alike.1 (All-tail each s ss all) fit.1 also.1)
        ∙ ap (λ answer. order_then answer total) first

  -- there what is equal to one of two equal values is equal to the other
  pub equality_transitive : (s : ℕ) (u v w : Value L) → AllOffer shapes trait.Ord s → Fits m shapes s u → Fits m shapes s v → Fits m shapes s w
      → equality m shapes s u v ≡ Some true → equality m shapes s v w ≡ Some true → equality m shapes s u w ≡ Some true
  equality_transitive s u v w all f g h one other =
      let uv = (agree_iff (ordering m shapes by_total s u v) (equality m shapes s u v) (ordering_agrees m laws shapes well by_total s u v all f g)).1 one in
      let vw = (agree_iff (ordering m shapes by_total s v w) (equality m shapes s v w) (ordering_agrees m laws shapes well by_total s v w all g h)).1 other in
      let chain = rw (uv, vw) at (ordering_chain m laws shapes well s u v w f g h) in
      (agree_iff (ordering m shapes by_total s u w) (equality m shapes s u w) (ordering_agrees m laws shapes well by_total s u w all f h)).0 chain
