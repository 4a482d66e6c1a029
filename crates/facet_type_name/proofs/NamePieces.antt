-- The pieces of a name by its form: how many bytes they have of their own, and which children.
use Rattle.std.proofs.Common.{◌≡◌, ℕ, zero, suc, ◌+◌, ◌-◌, ◌*◌, min, true, List, [], ◌∷◌, ◌++◌, length, take, map, codes, refl, sym, ap, ◌∙◌, append-nil, sum_by, flat_map, arith}
use Rattle.std.proofs.lemmas.Grind.{flat_map-append}
use Rattle.std.proofs.lemmas.List.{length-take, take-map, take_min}
use Rattle.std.proofs.lemmas.List.Sums.{sum_by-append, sum_by-cons}
use Rattle.facet_base.specs.declared.layout.ShapeId.{ShapeId}
use Rattle.facet_desc.specs.declared.parameter.TypeParam.{TypeParam}
use Rattle.facet_type_name.specs.Name.{NamePiece, bracketed, child, child_of, child_piece, field_pieces, generic_name, listed, own_bytes, own_text}

-- each piece behind a comma and a space
abbrev pub behind_commas : List NamePiece → List NamePiece
behind_commas pieces = flat_map (λ p. own_text (codes ", ") ∷ p ∷ []) pieces

own_behind_commas : (ids : List ShapeId) → sum_by own_bytes (behind_commas (map child ids)) ≡ 2 * length ids
own_behind_commas [] = refl
own_behind_commas (id ∷ ids) =
    let rest = behind_commas (map child ids) in
    sum_by-cons own_bytes (own_text (codes ", ")) (child id ∷ rest)
    ∙ ap (λ n. 2 + n) (sum_by-cons own_bytes (child id) rest ∙ ap (λ n. 0 + n) (own_behind_commas ids))
    ∙ omega arith

own_listed : (ids : List ShapeId) → sum_by own_bytes (listed (map child ids)) ≡ 2 * (length ids - 1)
own_listed [] = refl
own_listed (id ∷ ids) =
    sum_by-cons own_bytes (child id) (behind_commas (map child ids)) ∙ ap (λ n. 0 + n) (own_behind_commas ids) ∙ omega arith

children_behind_commas : (ids : List ShapeId) → flat_map child_of (behind_commas (map child ids)) ≡ ids
children_behind_commas [] = refl
children_behind_commas (id ∷ ids) = ap (λ rest. id ∷ rest) (children_behind_commas ids)

children_listed : (ids : List ShapeId) → flat_map child_of (listed (map child ids)) ≡ ids
children_listed [] = refl
children_listed (id ∷ ids) = ap (λ rest. id ∷ rest) (children_behind_commas ids)

-- text before and behind pieces
own_between : (before behind : List ℕ) (pieces : List NamePiece) → sum_by own_bytes (own_text before ∷ pieces ++ own_text behind ∷ []) ≡ length before + sum_by own_bytes pieces + length behind
own_between before behind pieces =
    sum_by-cons own_bytes (own_text before) (pieces ++ own_text behind ∷ [])
    ∙ ap (λ n. length before + n) (sum_by-append own_bytes pieces (own_text behind ∷ []) ∙ ap (λ n. sum_by own_bytes pieces + n) (sum_by-cons own_bytes (own_text behind) []))
    ∙ omega arith

children_between : (before behind : List ℕ) (pieces : List NamePiece) → flat_map child_of (own_text before ∷ pieces ++ own_text behind ∷ []) ≡ flat_map child_of pieces
children_between before behind pieces = flat_map-append child_of pieces (own_text behind ∷ []) ∙ append-nil (flat_map child_of pieces)

pub own_generic : (word : List ℕ) (n : ℕ) (ids : List ShapeId) → sum_by own_bytes (generic_name word n true ids) ≡ length word + 2 + 2 * (min n (length ids) - 1)
own_generic word n ids =
    let pieces = listed (map child (take n ids)) in
    sum_by-cons own_bytes (own_text word) (own_text (codes "<") ∷ pieces ++ own_text (codes ">") ∷ [])
    ∙ ap (λ n. length word + n) (own_between (codes "<") (codes ">") pieces ∙ ap (λ n. 1 + n + 1) (own_listed (take n ids) ∙ ap (λ k. 2 * (k - 1)) (length-take n ids)))
    ∙ omega arith

pub children_generic : (word : List ℕ) (n : ℕ) (ids : List ShapeId) → flat_map child_of (generic_name word n true ids) ≡ take n ids
children_generic word n ids = children_between (codes "<") (codes ">") (listed (map child (take n ids))) ∙ children_listed (take n ids)

pub own_of_one : (ids : List ShapeId) → length ids ≡ 1 → sum_by own_bytes (bracketed true ids) ≡ 3
own_of_one [] one = absurd (omega (arith, one))
own_of_one (id ∷ []) one = refl
own_of_one (id ∷ next ∷ ids) one = absurd (omega (arith, one))

pub own_of_others : (ids : List ShapeId) → ¬ (length ids ≡ 1) → sum_by own_bytes (bracketed true ids) ≡ 2 + 2 * (length ids - 1)
own_of_others [] others = refl
own_of_others (id ∷ []) others = absurd (others refl)
own_of_others (id ∷ next ∷ ids) others =
    own_between (codes "(") (codes ")") (listed (map child (id ∷ next ∷ ids))) ∙ ap (λ n. 1 + n + 1) (own_listed (id ∷ next ∷ ids)) ∙ omega arith

pub children_bracketed : (ids : List ShapeId) → flat_map child_of (bracketed true ids) ≡ ids
children_bracketed [] = refl
children_bracketed (id ∷ []) = refl
children_bracketed (id ∷ next ∷ ids) =
    children_between (codes "(") (codes ")") (listed (map child (id ∷ next ∷ ids))) ∙ children_listed (id ∷ next ∷ ids)

-- the shapes of the first n parameters, or of all where there are fewer
pub shapes_of_first : (n : ℕ) (parameters : List TypeParam) → map (λ p. p.shape) (take (min n (length parameters)) parameters) ≡ take n (map (λ p. p.shape) parameters)
shapes_of_first n parameters = ap (map (λ p. p.shape)) (take_min n parameters) ∙ sym (take-map (λ p. p.shape) n parameters)
