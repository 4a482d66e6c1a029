-- What a search rests on, where the keys stand at the starts of blocks.
use Rattle.std.proofs.Common.{◌≡◌, ℕ, zero, suc, List, [], ◌∷◌, Option, None, Some, length, map, option_map, slice_get, refl, sym, ap, ◌∙◌, subst}
use Rattle.std.specs.Prelude.{IsSomeAnd}
use Rattle.std.proofs.lemmas.List.{length-map}
use Rattle.std.proofs.lemmas.Option.{slice_get-map}
use Rattle.facet_base.specs.declared.characteristic.Characteristic.TheVariants as trait
use Rattle.facet_base.specs.declared.layout.ShapeId.{ShapeId}
use Rattle.facet_block.specs.declared.block.Block.{Block}
use Rattle.facet_block.specs.declared.ptr_const.PtrConst.{PtrConst}
use Rattle.facet_causes.specs.Causes.{IsWellFormed}
use Rattle.facet_leaf.specs.LeafLaws.{LeafLaws}
use Rattle.facet_leaf.specs.LeafModel.{LeafModel}
use Rattle.facet_lookup.specs.Find.{AreKeys, keys_at}
use Rattle.facet_shape.specs.declared.shape.Shape.{Shape}
use Rattle.facet_trees.proofs.OrderLaws.{ordering_answers}
use Rattle.facet_trees.specs.Answered.{AllOffer}
use Rattle.facet_trees.specs.Fits.{Fits}
use Rattle.facet_trees.specs.Order.{by_total, ordering}
use Rattle.facet_trees.specs.Value.{Value}
use Rattle.facet_values.proofs.FittingValues.{reading_fits}
use Rattle.facet_values.proofs.ValueAt.{readable_value}
use Rattle.facet_values.specs.Place.{Place, place_in, start_of}
use Rattle.facet_values.specs.Reading.{IsReadable, value_at}
use Rattle.facet_walk.specs.Look.{pointed}
use Rattle.facet_lookup.proofs.KeySearch.{IsBetween, IsSearched, between_all}

-- what there is, where some element has a property
pub some_is : {A : Type 0} (P : A → Type 0) (o : Option A) → IsSomeAnd o P → (x : A) × (o ≡ Some x) × P x
some_is P None h = absurd h
some_is P (Some x) h = (x, refl, h)

pub some_from : {A : Type 0} (P : A → Type 0) (o : Option A) (x : A) → o ≡ Some x → P x → IsSomeAnd o P
some_from P o x is holds = subst (λ o. IsSomeAnd o P) (sym is) holds

map_get : {A B : Type 0} (f : A → B) (xs : List A) (i : ℕ) (y : B) → slice_get (map f xs) i ≡ Some y → (x : A) × (slice_get xs i ≡ Some x) × (f x ≡ y)
map_get f [] i y e = absurd (cc)
map_get f (x ∷ xs) zero y e = (x, refl, cc)
map_get f (x ∷ xs) (suc i) y e = map_get f xs i y e

-- a pointer to the start of a block
pub begins : {L : Type 0} (id : ShapeId) (found : Option (Block L)) (at : PtrConst L) → Some (place_in 0 at.block.now at.offset) ≡ option_map (start_of 0) found
    → (b : Block L) × (found ≡ Some b) × (pointed id at ≡ start_of id.0 b)
begins id None at is = absurd (cc)
begins id (Some b) at is =
    let same : place_in 0 at.block.now at.offset ≡ start_of 0 b = cc in (b, refl, ap (λ p. place_in id.0 p.block p.offset) same)

pub absent : {L : Type 0} (found : Option (Block L)) → None ≡ option_map (start_of 0) found → None ≡ found
absent None is = refl
absent (Some b) is = absurd (cc)

module _ {L : Type 0} (m : LeafModel L) (shapes : List Shape) where
  readable_fits : (p : Place L) → IsReadable m shapes p → Fits m shapes p.shape (value_at shapes 100 p)
  readable_fits p r = subst (Fits m shapes p.shape) (sym (readable_value m shapes 100 p r)) (reading_fits m shapes p r.value r.reads)

  -- two keys are ordered
  pub never_unanswered : LeafLaws m → IsWellFormed m shapes → (s : ℕ) → AllOffer shapes trait.Ord s → (a b : Place L) → a.shape ≡ s → b.shape ≡ s → IsReadable m shapes a → IsReadable m shapes b
      → None ≡ ordering m shapes by_total s (value_at shapes 100 a) (value_at shapes 100 b) → ⊥
  never_unanswered laws well s all a b one other first second nothing =
      let is = ordering_answers m laws shapes well by_total s (value_at shapes 100 a) (value_at shapes 100 b) all
      (subst (λ t. Fits m shapes t (value_at shapes 100 a)) one (readable_fits a first))
      (subst (λ t. Fits m shapes t (value_at shapes 100 b)) other (readable_fits b second)) in
      let e = nothing ∙ is.is in
      absurd (cc)

  module _ (s : ℕ) (blocks : List (Block L)) where
    pub key_at : (i : ℕ) (b : Block L) → slice_get blocks i ≡ Some b → slice_get (keys_at shapes s blocks) i ≡ Some (value_at shapes 100 (start_of s b))
    key_at i b e = slice_get-map (λ (b : Block L). value_at shapes 100 (start_of s b)) blocks i ∙ ap (option_map (λ (b : Block L). value_at shapes 100 (start_of s b))) e

    -- a search among the keys in blocks for the key at a place
    pub searched : (p : Place L) → p.shape ≡ s → LeafLaws m → IsWellFormed m shapes → AreKeys m shapes s blocks → IsReadable m shapes p
        → IsSearched m shapes s (value_at shapes 100 p) (keys_at shapes s blocks)
    searched p same laws well keys key = record {
      laws = laws;
      well = well;
      key_fits = subst (λ t. Fits m shapes t (value_at shapes 100 p)) same (readable_fits p key);
      keys_fit = λ j v e.
          let at = map_get (λ (b : Block L). value_at shapes 100 (start_of s b)) blocks j v e in
          subst (Fits m shapes s) at.2 (readable_fits (start_of s at.0) (keys.readable j at.0 at.1));
      ascending = keys.ascending;
    }

    -- before the first comparison nothing is known
    pub between_first : (n : ℕ) (key : Value L) → n ≡ length blocks → IsSearched m shapes s key (keys_at shapes s blocks) → IsBetween m shapes s key (keys_at shapes s blocks) 0 n
    between_first n key long h =
        subst (λ k. IsBetween m shapes s key (keys_at shapes s blocks) 0 k)
        (length-map blocks (λ (b : Block L). value_at shapes 100 (start_of s b)) ∙ sym long) (between_all h)
