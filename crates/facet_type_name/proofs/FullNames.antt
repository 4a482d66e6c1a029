-- Full names: their length, how many levels they have, and that they are the names under options that show all levels.
use Rattle.std.proofs.Common.{◌≡◌, ℕ, zero, suc, ◌+◌, ◌<◌, pos, negsuc, ℤ, ◌<ℤ◌, true, List, [], ◌∷◌, ◌++◌, length, get_or, Option, None, Some, slice_get, refl, sym, ap, ◌∙◌, ltb→lt, All, Contains, sum_by, flat_map, arith}
use Rattle.std.specs.Option.{option_map_or}
use Rattle.std.proofs.lemmas.List.{length-append}
use Rattle.std.proofs.lemmas.List.Elements.{All-contains, All-contains_itself, All-head, All-tail}
use Rattle.std.proofs.lemmas.List.Sums.{sum_by-cons}
use Rattle.facet_base.specs.declared.layout.ShapeId.{ShapeId}
use Rattle.facet_base.specs.declared.type_name.TypeNameOpts.{TypeNameOpts}
use Rattle.facet_type_name.specs.Name.{IsWhole, NamePiece, bytes_of, child, child_of, full_name, name_children, name_pieces, name_text, own_bytes, own_name_bytes, own_text, piece_bytes}
use Rattle.facet_outline.specs.References.{LeadLower, eager_references}
use Rattle.facet_type_name.proofs.NameChildren.{child_is_eager}
use Rattle.facet_shape.specs.declared.shape.Shape.{Shape}

-- the length of pieces is what they have of their own, and the lengths of the children
length_of_bytes : (name : ShapeId → List ℕ) (pieces : List NamePiece) → length (bytes_of name pieces) ≡ sum_by own_bytes pieces + sum_by (λ c. length (name c)) (flat_map child_of pieces)
length_of_bytes name [] = refl
length_of_bytes name (own_text bytes ∷ pieces) =
    length-append bytes (bytes_of name pieces)
    ∙ ap (λ n. length bytes + n) (length_of_bytes name pieces)
    ∙ grind (arith, sum_by-cons own_bytes (own_text bytes) pieces)
length_of_bytes name (child id ∷ pieces) =
    length-append (name id) (bytes_of name pieces)
    ∙ ap (λ n. length (name id) + n) (length_of_bytes name pieces)
    ∙ grind (arith, sum_by-cons own_bytes (child id) pieces, sum_by-cons (λ c. length (name c)) id (flat_map child_of pieces))

-- names that are the same for the children give the same bytes
same_bytes : (f g : ShapeId → List ℕ) (pieces : List NamePiece) → All (λ c. f c ≡ g c) (flat_map child_of pieces) → bytes_of f pieces ≡ bytes_of g pieces
same_bytes f g [] same = refl
same_bytes f g (own_text bytes ∷ pieces) same = ap (λ rest. bytes ++ rest) (same_bytes f g pieces same)
same_bytes f g (child id ∷ pieces) same =
    let first = All-head (λ c. f c ≡ g c) id (flat_map child_of pieces) same in
    let others = same_bytes f g pieces (All-tail (λ c. f c ≡ g c) id (flat_map child_of pieces) same) in
    λ i. first i ++ others i

module _ (shapes : List Shape) where
  -- the full name of a shape that is there, and of one that isn't
  pub name_of_shape : (k : ℕ) (id : ShapeId) (s : Shape) → slice_get shapes id.0 ≡ Some s → full_name shapes (suc k) id ≡ bytes_of (full_name shapes k) (name_pieces true s)
  unfolding full_name
  name_of_shape k id s found = ap (λ o. option_map_or (λ t. bytes_of (full_name shapes k) (name_pieces true t)) o []) found

  pub name_of_none : (k : ℕ) (id : ShapeId) → slice_get shapes id.0 ≡ None → full_name shapes k id ≡ []
  unfolding full_name
  name_of_none zero id missing = refl
  name_of_none (suc k) id missing = ap (λ o. option_map_or (λ t. bytes_of (full_name shapes k) (name_pieces true t)) o []) missing

  pub name_length : (k : ℕ) (id : ShapeId) (s : Shape) → slice_get shapes id.0 ≡ Some s → length (full_name shapes (suc k) id) ≡ own_name_bytes s + sum_by (λ c. length (full_name shapes k c)) (name_children s)
  unfolding own_name_bytes name_children
  name_length k id s found = ap length (name_of_shape k id s found) ∙ length_of_bytes (full_name shapes k) (name_pieces true s)

  -- a name whose children have at most k levels has at most one more
  pub one_level_more : (k : ℕ) (id : ShapeId) (s : Shape) → slice_get shapes id.0 ≡ Some s → All (IsWhole shapes k) (name_children s) → IsWhole shapes (suc k) id
  unfolding name_children
  one_level_more k id s found whole deeper =
      let levels : suc k + deeper ≡ suc (k + deeper) = omega arith in
      let below : All (λ c. full_name shapes (k + deeper) c ≡ full_name shapes k c) (name_children s) = λ i d inside. whole i d inside deeper in
      ap (λ n. full_name shapes n id) levels
      ∙ name_of_shape (k + deeper) id s found
      ∙ same_bytes (full_name shapes (k + deeper)) (full_name shapes k) (name_pieces true s) below
      ∙ sym (name_of_shape k id s found)

  none_is_whole : (k : ℕ) (id : ShapeId) → slice_get shapes id.0 ≡ None → IsWhole shapes k id
  none_is_whole k id missing deeper = name_of_none (k + deeper) id missing ∙ sym (name_of_none k id missing)

  each_whole : (k : ℕ) → ((id : ShapeId) → id.0 < k → IsWhole shapes k id) → (s : ℕ) (children : List ShapeId) → s < suc k → ((c : ShapeId) → Contains children c → c.0 < s) → All (IsWhole shapes k) children
  each_whole k before s children inside lower i d at =
      let c = get_or children i d in
      let below = lower c (All-contains_itself children i d at) in
      before c (omega (arith, below, inside))

  whole_where : LeadLower shapes → (k : ℕ) → ((id : ShapeId) → id.0 < k → IsWhole shapes k id) → (id : ShapeId) (found : Option Shape) → slice_get shapes id.0 ≡ found → id.0 < suc k → IsWhole shapes (suc k) id
  whole_where lower k before id None missing inside = none_is_whole (suc k) id missing
  whole_where lower k before id (Some s) found inside =
      let child_below : (c : ShapeId) → Contains (name_children s) c → c.0 < id.0 = λ c among. All-contains (λ r. r.0 < id.0) (eager_references s) c (lower id.0 s found) (child_is_eager s c among) in
      one_level_more k id s found (each_whole k before id.0 (name_children s) inside child_below)

  whole_below : LeadLower shapes → (k : ℕ) (id : ShapeId) → id.0 < k → IsWhole shapes k id
  whole_below lower zero id inside = absurd (omega (arith, inside))
  whole_below lower (suc k) id inside = whole_where lower k (whole_below lower k) id (slice_get shapes id.0) refl inside

  pub whole_at_its_id : LeadLower shapes → (id : ShapeId) → IsWhole shapes (suc id.0) id
  whole_at_its_id lower id = let inside : id.0 < suc id.0 = omega arith in whole_below lower (suc id.0) id inside

  -- where all levels are shown, they are shown for the children
  text_is_full_name : (n k : ℕ) (id : ShapeId) → name_text shapes k (record { recurse_ttl = negsuc n }) id ≡ full_name shapes k id
  unfolding name_text full_name
  text_is_full_name n zero id = refl
  text_is_full_name n (suc k) id = λ i. option_map_or (λ s. bytes_of (λ c. text_is_full_name n k c i) (name_pieces true s)) (slice_get shapes id.0) []

  text_by_levels : (levels : ℤ) → levels <ℤ pos 0 → (k : ℕ) (id : ShapeId) → name_text shapes k (record { recurse_ttl = levels }) id ≡ full_name shapes k id
  text_by_levels (pos n) below k id = absurd (omega (arith, ltb→lt n 0 below.lt))
  text_by_levels (negsuc n) below k id = text_is_full_name n k id

  pub all_levels_shown : (opts : TypeNameOpts) → opts.recurse_ttl <ℤ pos 0 → (k : ℕ) (id : ShapeId) → name_text shapes k opts id ≡ full_name shapes k id
  all_levels_shown opts below k id = text_by_levels opts.recurse_ttl below k id
