-- The text of the leaves at places, part by part.
use Rattle.std.proofs.Common.{◌≡◌, ℕ, ◌+◌, ◌≤◌, List, [], ◌∷◌, ◌++◌, Some, drop, length, slice_get, Result, Ok, Err, refl, sym, ap, ◌∙◌, subst, append_assoc, lit<}
use Rattle.std.specs.Prelude.{codes}
use Rattle.std.specs.Result.{OnOk}
use Rattle.std.specs.Str.{IsUtf8}
use Rattle.std.proofs.lemmas.List.{append-nil, drop_all}
use Rattle.std.proofs.lemmas.List.Concat.{flat_map-append}
use Rattle.std.proofs.lemmas.Str.{IsUtf8-append, IsUtf8-from_ascii, IsUtf8-nil}
use Rattle.std.proofs.lemmas.Str.Ascii.{IsAscii-cons, IsAscii-nil}
use Rattle.facet_base.specs.Write.{HoldsText}
use Rattle.facet_drop.proofs.PartsLeft.{rest_from}
use Rattle.facet_drop.specs.InlineParts.{leaves_at}
use Rattle.facet_drop.specs.LeavesText.{leaves_text}
use Rattle.facet_leaf.proofs.TextsInParts.{IsBegun, IsLeft, begun_within_part, left_after_part}
use Rattle.facet_leaf.specs.LeafModel.{LeafModel}
use Rattle.facet_shape.specs.declared.shape.Shape.{Shape}
use Rattle.facet_trees.specs.Value.{leaves}
use Rattle.facet_values.specs.Place.{Place}
use Rattle.facet_values.specs.Reading.{value_at}

-- the text of a single leaf
pub one_text : {L : Type 0} (m : LeafModel L) (x : L) → leaves_text m (x ∷ []) ≡ codes ", " ++ m.debug x
one_text m x = append-nil (codes ", " ++ m.debug x)

module _ {L : Type 0} (m : LeafModel L) (shapes : List Shape) (levels : ℕ) (places : List (Place L)) where
  -- the text of the places from an index on
  abbrev pub text_from : ℕ → List ℕ
  text_from i = leaves_text m (leaves_at shapes levels (drop i places))

  abbrev text_of : Place L → List ℕ
  text_of p = leaves_text m (leaves (value_at shapes levels p))

  -- it is that of this place, and then that of those behind it
  pub text_step : (i : ℕ) (p : Place L) → slice_get places i ≡ Some p → text_from i ≡ text_of p ++ text_from (i + 1)
  text_step i p is =
      ap (λ ps. leaves_text m (leaves_at shapes levels ps)) (rest_from places i p is)
      ∙ flat_map-append (λ x. codes ", " ++ m.debug x) (leaves (value_at shapes levels p)) (leaves_at shapes levels (drop (i + 1) places))

  -- some places are written: the text from the next on is left, and is what the whole text still needs to be UTF-8
  pub record TextLeft (before now : List ℕ) (i : ℕ) : Type 0 where
    pub left : IsLeft before now (text_from i) (text_from 0)
    pub utf8 : IsUtf8 (text_from i) → IsUtf8 (text_from 0)

  pub none_written : (before : List ℕ) → TextLeft before before 0
  none_written before = record { left = record { front = []; written = sym (append-nil before); parts = refl }; utf8 = λ all. all }

  module _ (before now : List ℕ) (i : ℕ) (p : Place L) (is : slice_get places i ≡ Some p) (h : TextLeft before now i) where
    next_left : IsLeft before now (text_of p ++ text_from (i + 1)) (text_from 0)
    next_left = subst (λ text. IsLeft before now text (text_from 0)) (text_step i p is) h.left

    pub place_written : (after : List ℕ) → after ≡ now ++ text_of p → IsUtf8 (text_of p) → TextLeft before after (i + 1)
    place_written after written utf8 = record {
      left = left_after_part before now after (text_of p) (text_from (i + 1)) (text_from 0) next_left written;
      utf8 = λ rest. h.utf8 (subst IsUtf8 (sym (text_step i p is)) (IsUtf8-append (text_of p) (text_from (i + 1)) utf8 rest));
    }

    pub place_begun : (after : List ℕ) → IsBegun now after (text_of p) → IsBegun before after (text_from 0)
    place_begun after begun = begun_within_part before now after (text_of p) (text_from (i + 1)) (text_from 0) next_left begun

  module _ (before now : List ℕ) (i : ℕ) (past : length places ≤ i) (h : TextLeft before now i) where
    nothing_left : text_from i ≡ []
    nothing_left = ap (λ ps. leaves_text m (leaves_at shapes levels ps)) (drop_all i places past)

    pub all_written : now ≡ before ++ text_from 0
    all_written = h.left.written ∙ ap (λ xs. before ++ xs) (sym (h.left.parts ∙ ap (λ xs. h.left.front ++ xs) nothing_left ∙ append-nil h.left.front))

    pub all_utf8 : IsUtf8 (text_from 0)
    all_utf8 = h.utf8 (subst IsUtf8 (sym nothing_left) IsUtf8-nil)

-- a text behind a part that was written
pub written_behind : {T E : Type 0} (r : Result T E) (before between now part text : List ℕ) → between ≡ before ++ part → HoldsText between now text r → HoldsText before now (part ++ text) r
written_behind (Ok _) before between now part text first all = all ∙ ap (λ xs. xs ++ text) first ∙ append_assoc before part text
written_behind (Err _) before between now part text first begun =
    begun_within_part before between now text [] (part ++ text) (record { front = part; written = first; parts = ap (λ xs. part ++ xs) (sym (append-nil text)) }) begun

-- the part itself is not written
pub none_begun : (before text : List ℕ) → IsBegun before before text
none_begun before text = ([], (text, refl), sym (append-nil before))

-- what holds whatever the result
pub on_each_ok : {T E P : Type 0} (r : Result T E) → P → OnOk r P
on_each_ok (Ok _) p = p
on_each_ok (Err _) p = tt

-- a comma and a space, and then a text
pub separated_utf8 : (text : List ℕ) → IsUtf8 text → IsUtf8 (codes ", " ++ text)
separated_utf8 text utf8 = IsUtf8-append (codes ", ") text (IsUtf8-from_ascii (codes ", ") (IsAscii-cons 44 (32 ∷ []) (lit< tt) (IsAscii-cons 32 [] (lit< tt) IsAscii-nil))) utf8
