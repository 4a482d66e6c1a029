-- `Split` as a type that may hold the type that holds it.
use mathlib.Core.Path.{◌≡◌, refl, sym, ap}
use mathlib.Core.List.{List, [], ◌∷◌}
use mathlib.Core.Former.{Former, Count, Row, none_left, one_more, this, list, pair, const, via}
use Prim.Native.Nat.{ℕ, zero, suc}
use lib.ListN.{take, drop, length-map}
use base.Stored.{code_map, gcons}
use denote.RattleType.{RattleType}
use denote.HoleLaws.{Alike}
use denote.HolePlaces.{Recodes, struct_places, laid}
use denote.Hole.Fix.{over}
use denote.Param.Weighed.{Weighed, w_list, w_pair}
use denote.Model.Placed.{view_places, Held}
use Rattle.std.proofs.Math.Bridge.{le_prop}
use Rattle.std.specs.formers.vec.Vec as vec
use Rattle.std.specs.declared.alloc.Global.{Global}
use Rattle.std.specs.contracts.alloc.Global as heap
use Rattle.std.specs.contracts.impls.GlobalAllocator.TheImpl.{ghosts}
use Rattle.facet_block.specs.declared.split.Split.TheInside.{Inside}
use Rattle.facet_block.specs.declared.split.Split.TheView.{view, invariant}
use Rattle.facet_block.specs.contracts.split.Split as C
use Rattle.facet_block.specs.contracts.split.Split.TheInside as I

-- two lists of what the type argument holds
abbrev pub the_former : Former {0} → Former {0}
the_former g = pair (list g) (list g)

-- the two lists are weighed by their items
abbrev pub the_weighed : {g : Former {0}} → Weighed g → Weighed (the_former g)
the_weighed w = w_pair (w_list w) (w_list w)

-- the two lists of no item
pub the_empty : List ⊥ × List ⊥
the_empty = ([], [])

-- the fields, of which the vector alone holds items
abbrev fields : Former {0}
fields = via (pair (vec.the_former this Global) (const ℕ)) Inside (λ X a. (a.items, a.front)) (λ X v. record { items = v.0; front = v.1 }) (λ X a. refl) (λ X v. refl)

module _ (X : Type 0) (k : Count) (t : Row X k) where
  -- the items of the two parts are those of the whole, in order
  parts_put : (n : ℕ) (xs : List X)
      → ◌≡◌ {A = Held X} (
        (list this).count ((list this).shape X (take n xs)) ((list this).count ((list this).shape X (drop n xs)) k),
        (list this).put X (take n xs) ((list this).count ((list this).shape X (drop n xs)) k) ((list this).put X (drop n xs) k t),
      )
      ((list this).count ((list this).shape X xs) k, (list this).put X xs k t)
  parts_put zero xs = refl
  parts_put (suc n) [] = refl
  parts_put (suc n) (x ∷ xs) = ap (λ (r : Held X). (one_more r.0, (x, r.1))) (parts_put n xs)

module _ (X Y : Type 0) (h : X → Y) where
  -- a map of the whole maps the two parts
  parts_map : (n : ℕ) (xs : List X)
      → ◌≡◌ {A = List Y × List Y} (take n ((list this).map X Y h xs), drop n ((list this).map X Y h xs)) ((list this).map X Y h (take n xs), (list this).map X Y h (drop n xs))
  parts_map zero xs = refl
  parts_map (suc n) [] = refl
  parts_map (suc n) (x ∷ xs) = ap (λ (r : List Y × List Y). (h x ∷ r.0, r.1)) (parts_map n xs)

module _ (R S : RattleType) (h : R.Denot → S.Denot) where
  -- a map of the items keeps where they lie
  pub the_places : Alike R S h → Alike (C.the_row R) (C.the_row S) ((the_former this).map R.Denot S.Denot h)
  the_places a = view_places fields (the_former this) view (λ X Y k u. parts_map X Y k u.front u.items.items) (λ X u. parts_put X none_left tt u.front u.items.items) R.Denot S.Denot h (C.the_row R).coded (C.the_row S).coded
      (invariant R.Denot) (invariant S.Denot) (λ u. le_prop) (λ u. le_prop) (λ u p. rw (length-map) p) (λ u p. rw length-map at p)
      (over (I.the_row R)) (over (I.the_row S))
      (struct_places (I.the_type R) (I.the_type S) (vec.mapped h, ((λ n. n), tt)) _ (λ d. refl) refl (laid _ _ _ (vec.the_places heap.the_row ghosts R S h a), ((refl, (λ n. refl, λ n. refl)), tt)))

  -- a map of the items keeps how the two lists are stored
  pub the_codes_placed : Recodes R S h → Recodes (C.the_row R) (C.the_row S) ((the_former this).map R.Denot S.Denot h)
  the_codes_placed e d =
      λ i. gcons (sym (code_map R.coded.code S.coded.code h (λ x. sym (e x)) d.0) i) (sym (code_map R.coded.code S.coded.code h (λ x. sym (e x)) d.1) i)
