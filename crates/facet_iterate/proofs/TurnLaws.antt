-- What calls from the front and from the back return, by the values that are read in turn.
use Rattle.std.proofs.Common.{◌≡◌, ℕ, List, [], ◌∷◌, ◌++◌, Option, None, Some, refl, ap, subst}
use Rattle.std.specs.Iterator.{YieldsFirstBy, YieldsLastBy}
use Rattle.facet_block.specs.declared.ptr_const.PtrConst.{PtrConst}
use Rattle.facet_leaf.specs.LeafModel.{LeafModel}
use Rattle.facet_shape.specs.declared.shape.Shape.{Shape}
use Rattle.facet_trees.specs.Value.{Value}
use Rattle.facet_iterate.specs.Elements.{Position, ReadInPairs, ReadInTurn, ReturnsFirst, ReturnsFirstPair, ReturnsLast, ReturnsLastPair, pair_of, position_of}

module _ {L : Type 0} (m : LeafModel L) (shapes : List Shape) where
  module _ (id : ℕ) where
    none_read : (vs : List (Value L)) → ReadInTurn m shapes id [] vs → vs ≡ []
    none_read [] reads = refl
    none_read (v ∷ vs) reads = absurd reads

    first_read : (q : PtrConst L) (rest : List (Position L)) (vs : List (Value L)) → ReadInTurn m shapes id (position_of q ∷ rest) vs → ReturnsFirst m shapes id vs (Some q) rest
    first_read q rest [] reads = absurd reads
    first_read q rest (v ∷ vs) reads = (v, vs, refl, reads.0, reads.1)

    last_read : (q : PtrConst L) (rest : List (Position L)) (vs : List (Value L)) → ReadInTurn m shapes id (rest ++ position_of q ∷ []) vs → ReturnsLast m shapes id vs (Some q) rest
    last_read q [] [] reads = absurd reads
    last_read q [] (v ∷ []) reads = ([], v, refl, reads.0, tt)
    last_read q [] (v ∷ w ∷ vs) reads = absurd reads.1
    last_read q (at ∷ rest) [] reads = absurd reads
    last_read q (at ∷ rest) (v ∷ vs) reads =
        let (others, last, are, here, behind) = last_read q rest vs reads.1 in (v ∷ others, last, ap (λ ws. v ∷ ws) are, here, (reads.0, behind))

    pub returns_first : (old new : List (Position L)) (vs : List (Value L)) (result : Option (PtrConst L))
        → ReadInTurn m shapes id old vs → YieldsFirstBy position_of (λ (rest : List (Position L)). rest) old result new → ReturnsFirst m shapes id vs result new
    returns_first old new vs None reads yields = (none_read vs (subst (λ ats. ReadInTurn m shapes id ats vs) yields.0 reads), yields.1)
    returns_first old new vs (Some q) reads yields = first_read q new vs (subst (λ ats. ReadInTurn m shapes id ats vs) yields reads)

    pub returns_last : (old new : List (Position L)) (vs : List (Value L)) (result : Option (PtrConst L))
        → ReadInTurn m shapes id old vs → YieldsLastBy position_of (λ (rest : List (Position L)). rest) old result new → ReturnsLast m shapes id vs result new
    returns_last old new vs None reads yields = (none_read vs (subst (λ ats. ReadInTurn m shapes id ats vs) yields.0 reads), yields.1)
    returns_last old new vs (Some q) reads yields = last_read q new vs (subst (λ ats. ReadInTurn m shapes id ats vs) yields reads)

  module _ (key value : ℕ) where
    no_pair_read : (vs : List (Value L)) → ReadInPairs m shapes key value [] vs → vs ≡ []
    no_pair_read [] reads = refl
    no_pair_read (v ∷ vs) reads = absurd reads

    first_pair_read : (q : PtrConst L × PtrConst L) (rest : List (Position L × Position L)) (vs : List (Value L)) → ReadInPairs m shapes key value (pair_of q ∷ rest) vs
        → ReturnsFirstPair m shapes key value vs (Some q) rest
    first_pair_read q rest [] reads = absurd reads
    first_pair_read q rest (k ∷ []) reads = absurd reads
    first_pair_read q rest (k ∷ v ∷ vs) reads = (k, v, vs, refl, reads.0, reads.1, reads.2)

    last_pair_read : (q : PtrConst L × PtrConst L) (rest : List (Position L × Position L)) (vs : List (Value L)) → ReadInPairs m shapes key value (rest ++ pair_of q ∷ []) vs
        → ReturnsLastPair m shapes key value vs (Some q) rest
    last_pair_read q [] [] reads = absurd reads
    last_pair_read q [] (k ∷ []) reads = absurd reads
    last_pair_read q [] (k ∷ v ∷ []) reads = ([], k, v, refl, reads.0, reads.1, tt)
    last_pair_read q [] (k ∷ v ∷ w ∷ vs) reads = absurd reads.2
    last_pair_read q (pair ∷ rest) [] reads = absurd reads
    last_pair_read q (pair ∷ rest) (k ∷ []) reads = absurd reads
    last_pair_read q (pair ∷ rest) (k ∷ v ∷ vs) reads =
        let (others, k', v', are, key_here, value_here, behind) = last_pair_read q rest vs reads.2 in
        (k ∷ v ∷ others, k', v', ap (λ ws. k ∷ v ∷ ws) are, key_here, value_here, (reads.0, reads.1, behind))

    pub returns_first_pair : (old new : List (Position L × Position L)) (vs : List (Value L)) (result : Option (PtrConst L × PtrConst L))
        → ReadInPairs m shapes key value old vs → YieldsFirstBy pair_of (λ (rest : List (Position L × Position L)). rest) old result new → ReturnsFirstPair m shapes key value vs result new
    returns_first_pair old new vs None reads yields = (no_pair_read vs (subst (λ pairs. ReadInPairs m shapes key value pairs vs) yields.0 reads), yields.1)
    returns_first_pair old new vs (Some q) reads yields = first_pair_read q new vs (subst (λ pairs. ReadInPairs m shapes key value pairs vs) yields reads)

    pub returns_last_pair : (old new : List (Position L × Position L)) (vs : List (Value L)) (result : Option (PtrConst L × PtrConst L))
        → ReadInPairs m shapes key value old vs → YieldsLastBy pair_of (λ (rest : List (Position L × Position L)). rest) old result new → ReturnsLastPair m shapes key value vs result new
    returns_last_pair old new vs None reads yields = (no_pair_read vs (subst (λ pairs. ReadInPairs m shapes key value pairs vs) yields.0 reads), yields.1)
    returns_last_pair old new vs (Some q) reads yields = last_pair_read q new vs (subst (λ pairs. ReadInPairs m shapes key value pairs vs) yields reads)
