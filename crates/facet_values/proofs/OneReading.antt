-- One place reads as one value.
use Rattle.std.proofs.Common.{◌≡◌, List, [], ◌∷◌, refl, subst}
use Rattle.facet_leaf.specs.LeafModel.{LeafModel}
use Rattle.facet_shape.specs.declared.shape.Shape.{Shape}
use Rattle.facet_trees.specs.Value.{Value, Values, leaf, node, none, more}
use Rattle.facet_values.specs.Place.{Place}
use Rattle.facet_values.specs.Reading.{Reads, ReadAll}

module _ {L : Type 0} (m : LeafModel L) (shapes : List Shape) where
  mutual
    pub one_value : (p : Place L) (v w : Value L) → Reads m shapes p v → Reads m shapes p w → v ≡ w
    one_value p (leaf x) (leaf y) r s = let e = r.1 in let f = s.1 in cc
    one_value p (leaf x) (node form ws) r s = let e = r.1 in let f = s.2 in cc
    one_value p (node form vs) (leaf y) r s = let e = r.2 in let f = s.1 in cc
    one_value p (node form vs) (node other ws) r s =
        let e = r.2 in
        let f = s.2 in
        let same_form : form ≡ other = cc in
        let same_parts : s.0 ≡ r.0 = cc in
        let same = one_list r.0 vs ws r.3 (subst (λ ps. ReadAll m shapes ps ws) same_parts s.3) in
        cc

    pub one_list : (ps : List (Place L)) (vs ws : Values L) → ReadAll m shapes ps vs → ReadAll m shapes ps ws → vs ≡ ws
    one_list [] none none r s = refl
    one_list [] none (more w ws) r s = absurd s
    one_list [] (more v vs) ws r s = absurd r
    one_list (p ∷ ps) none ws r s = absurd r
    one_list (p ∷ ps) (more v vs) none r s = absurd s
    one_list (p ∷ ps) (more v vs) (more w ws) r s =
        let e = one_value p v w r.0 s.0 in
        let f = one_list ps vs ws r.1 s.1 in
        cc
