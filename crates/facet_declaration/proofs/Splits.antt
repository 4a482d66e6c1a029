-- A text and its pieces, which a byte separates.
use Rattle.std.proofs.Common.{◌≡◌, ℕ, Bool, true, false, cond, List, [], ◌∷◌, All, Option, None, Some, option_map, refl, subst, ap, ◌∙◌, ◌==◌, nat_eq}
use Rattle.std.specs.List.{list_any, onto_first, join_with_byte}
use Rattle.std.proofs.lemmas.Bool.{or_parts, or_from, both_ways, false_from_ne_true, eq-eqb}
use Rattle.std.proofs.lemmas.Option.{same_Some}
use Rattle.std.proofs.lemmas.List.Folds.{list_any_at}
use Rattle.std.proofs.lemmas.List.Splits.{slice_split_none, slice_split_at}
use Rattle.facet_words.proofs.Numbers.{map_some}
use Rattle.facet_declaration.specs.Cuts.{cut_at, pieces_at}
use Rattle.facet_declaration.proofs.CutTexts.{Lacks}

-- none of the pieces has a `b`
abbrev pub AllLack : ℕ → List (List ℕ) → Type 0
AllLack b pieces = list_any (list_any (λ c. c == b)) pieces ≡ false

-- a text has a first piece
pub split_some : (b : ℕ) (s : List ℕ) → (first : List ℕ × List (List ℕ)) × (pieces_at b s ≡ first.0 ∷ first.1)
split_some b [] = (([], []), refl)
split_some b (c ∷ s) =
    let rest = split_some b s in
    elim (nat_eq c b) as (λ t. (first : List ℕ × List (List ℕ)) × (cond t ([] ∷ pieces_at b s) (onto_first c (pieces_at b s)) ≡ first.0 ∷ first.1))
    [ true ↦ (([], pieces_at b s), refl) | false ↦ ((c ∷ rest.0.0, rest.0.1), ap (onto_first c) rest.1) ]

-- no byte of such a piece is `b`
lacks_each : (b : ℕ) (s : List ℕ) → Lacks b s → All (λ c. (c == b) ≡ false) s
lacks_each b s h k d within = false_from_ne_true _ (λ e. both_ways (list_any (λ c. c == b) s) h (list_any_at (λ c. c == b) s k d within e))

-- pieces without the byte that joins them are those of the joined text
pub split_joined : (b : ℕ) (piece : List ℕ) (pieces : List (List ℕ)) → AllLack b (piece ∷ pieces) → pieces_at b (join_with_byte b (piece ∷ pieces)) ≡ piece ∷ pieces
split_joined b piece [] h = slice_split_none (λ c. c == b) piece (lacks_each b piece (or_parts _ _ h).0)
split_joined b piece (next ∷ pieces) h =
    let parts = or_parts _ _ h in
    slice_split_at (λ c. c == b) piece b (join_with_byte b (next ∷ pieces)) (lacks_each b piece parts.0) (eq-eqb b b refl) ∙ ap (λ rest. piece ∷ rest) (split_joined b next pieces parts.1)

-- another byte, put before the pieces
onto_pieces : (b c : ℕ) (pieces : List (List ℕ)) → nat_eq c b ≡ false → AllLack b pieces → AllLack b (onto_first c pieces)
onto_pieces b c [] here h = or_from _ _ (or_from _ _ here refl) refl
onto_pieces b c (piece ∷ pieces) here h =
    let parts = or_parts _ _ h in
    or_from _ _ (or_from _ _ here parts.0) parts.1

-- no piece of a text has the byte that separates them
pub split_lacks : (b : ℕ) (s : List ℕ) → AllLack b (pieces_at b s)
split_lacks b [] = refl
split_lacks b (c ∷ s) =
    let tested : (t : Bool) → nat_eq c b ≡ t → AllLack b (cond t ([] ∷ pieces_at b s) (onto_first c (pieces_at b s))) =
    λ t. elim t as (λ t. nat_eq c b ≡ t → AllLack b (cond t ([] ∷ pieces_at b s) (onto_first c (pieces_at b s)))) [ true ↦ λ e. split_lacks b s | false ↦ λ e. onto_pieces b c (pieces_at b s) e (split_lacks b s) ] in
    tested (nat_eq c b) refl

-- the front of a cut and the pieces of its back are the pieces
pub cut_pieces : (b : ℕ) (s : List ℕ) (parts : List ℕ × List ℕ) → cut_at b s ≡ Some parts → parts.0 ∷ pieces_at b parts.1 ≡ pieces_at b s
cut_pieces b [] parts e = let no : ⊥ = cc in absurd no
cut_pieces b (c ∷ s) parts e = by (nat_eq c b) (cut_pieces b s) e
  where
    by : (t : Bool) → ((parts : List ℕ × List ℕ) → cut_at b s ≡ Some parts → parts.0 ∷ pieces_at b parts.1 ≡ pieces_at b s)
        → cond t (Some ([], s)) (option_map {T = List ℕ × List ℕ} {U = List ℕ × List ℕ} (λ p. (c ∷ p.0, p.1)) (cut_at b s)) ≡ Some parts → parts.0 ∷ pieces_at b parts.1 ≡ cond t ([] ∷ pieces_at b s) (onto_first c (pieces_at b s))
    by true rest e = subst (λ p. p.0 ∷ pieces_at b p.1 ≡ [] ∷ pieces_at b s) (same_Some _ _ e) refl
    by false rest e =
        let found = map_some {A = List ℕ × List ℕ} {B = List ℕ × List ℕ} (λ p. (c ∷ p.0, p.1)) (cut_at b s) parts e in
        subst (λ p. p.0 ∷ pieces_at b p.1 ≡ onto_first c (pieces_at b s)) found.2 (ap (onto_first c) (rest found.0 found.1))

-- a mapped value that isn't there
map_none : {A B : Type 0} (f : A → B) (o : Option A) → option_map f o ≡ None → o ≡ None
map_none f None e = refl
map_none f (Some x) e = let no : ⊥ = cc in absurd no

-- a text without a cut is one piece
pub uncut_piece : (b : ℕ) (s : List ℕ) → cut_at b s ≡ None → s ∷ [] ≡ pieces_at b s
uncut_piece b [] e = refl
uncut_piece b (c ∷ s) e = by (nat_eq c b) (uncut_piece b s) e
  where
    by : (t : Bool) → (cut_at b s ≡ None → s ∷ [] ≡ pieces_at b s)
        → cond t (Some ([], s)) (option_map {T = List ℕ × List ℕ} {U = List ℕ × List ℕ} (λ p. (c ∷ p.0, p.1)) (cut_at b s)) ≡ None → (c ∷ s) ∷ [] ≡ cond t ([] ∷ pieces_at b s) (onto_first c (pieces_at b s))
    by true rest e = let no : ⊥ = cc in absurd no
    by false rest e = ap (onto_first c) (rest (map_none {A = List ℕ × List ℕ} {B = List ℕ × List ℕ} (λ p. (c ∷ p.0, p.1)) (cut_at b s) e))
