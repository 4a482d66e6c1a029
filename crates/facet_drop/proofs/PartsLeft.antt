-- The parts and the blocks that are left to be dropped, while those before them are gone.
use Rattle.std.proofs.Common.{◌≡◌, ℕ, zero, suc, ◌+◌, ◌<◌, ◌≤◌, List, [], ◌∷◌, ◌++◌, Some, drop, length, map, slice_get, slice_set, refl, sym, ap, ◌∙◌, subst, append_assoc, append-nil, length-append, arith}
use Rattle.std.proofs.lemmas.List.{drop_all, drop-set-lt, length-set}
use Rattle.facet_block.specs.Block.{size_of}
use Rattle.facet_block.specs.DropLog.{LeafLog}
use Rattle.facet_block.specs.Seq.{element_size_of, filled_of, spare_of, with_filled}
use Rattle.facet_block.specs.Span.{IsCleared}
use Rattle.facet_block.specs.declared.block.Block.{Block}
use Rattle.facet_block.specs.declared.block.Seq.{Seq}
use Rattle.facet_drop.proofs.ClearedRanges.{cleared_before, none_cleared}
use Rattle.facet_drop.proofs.KeptPlaces.{AreApartFrom, pairs_first, pairs_rest, ranges_are, rest_leaves, rest_readable, span_from}
use Rattle.facet_drop.proofs.Readables.{back_readable, first_readable, front_readable, leaves_of_both, others_readable}
use Rattle.facet_drop.specs.Cleared.{AreCleared}
use Rattle.facet_drop.specs.InlineParts.{leaves_at, ranges_of}
use Rattle.facet_drop.specs.Logged.{IsLogged}
use Rattle.facet_leaf.specs.LeafModel.{LeafModel}
use Rattle.facet_outline.specs.declared.placed_fields.PlacedField.{PlacedField}
use Rattle.facet_shape.specs.declared.shape.Shape.{Shape}
use Rattle.facet_trees.specs.Value.{leaves}
use Rattle.facet_values.proofs.StructureRows.{filled_made}
use Rattle.facet_values.specs.Laid.{IsLaidOut}
use Rattle.facet_values.specs.Place.{Place, block_places, part_place, part_places, place_in, start_of}
use Rattle.facet_values.specs.Reading.{IsReadableWithin, value_at}
use Rattle.facet_walk.specs.Look.{AreReadable}
use Rattle.facet_block.specs.Span.{IsApart}

-- some leaves, and then others
pub nothing_logged : {L : Type 0} (log : LeafLog L) → IsLogged log log []
nothing_logged log = record { leaves = sym (append-nil log.leaves); spare = omega arith }

pub logged_then : {L : Type 0} (log next end : LeafLog L) (xs ys : List L) → IsLogged log next xs → IsLogged next end ys → IsLogged log end (xs ++ ys)
logged_then log next end xs ys first second = record {
  leaves = second.leaves ∙ ap (λ all. all ++ ys) first.leaves ∙ append_assoc log.leaves xs ys;
  spare = omega (arith, first.spare, second.spare, length-append xs ys);
}

-- the rest from an index on begins with what stands there
pub rest_from : {X : Type 0} (xs : List X) (i : ℕ) (x : X) → slice_get xs i ≡ Some x → drop i xs ≡ x ∷ drop (i + 1) xs
rest_from [] i x is = absurd (cc)
rest_from (y ∷ xs) zero x is = let same : y ≡ x = cc in ap (λ z. z ∷ xs) same
rest_from (y ∷ xs) (suc i) x is = let next : suc i + 1 ≡ suc (i + 1) = omega arith in rw next (rest_from xs i x is)

module _ {L : Type 0} (m : LeafModel L) (shapes : List Shape) (levels : ℕ) where
  -- the place with another block
  abbrev pub now_at : Place L → Block L → Place L
  now_at p now = place_in p.shape now p.offset

  -- some parts of a value are left: they read, and once they are dropped too, all are
  pub record PartsLeft (p : Place L) (body : List PlacedField) (begin : LeafLog L) (left : List PlacedField) (now : Block L) (log : LeafLog L) : Type 0 where
    pub reads : AreReadable m shapes levels (part_places (now_at p now) left)
    pub apart : AreApartFrom shapes p.offset left
    pub room : length (leaves_at shapes levels (part_places (now_at p now) left)) ≤ log.spare
    pub size : size_of now ≡ size_of p.block
    pub logs : (end : LeafLog L) → IsLogged log end (leaves_at shapes levels (part_places (now_at p now) left)) → IsLogged begin end (leaves_at shapes levels (part_places p body))
    pub clears : (end : Block L) → AreCleared now end (map (span_from shapes p.offset) left) → AreCleared p.block end (map (span_from shapes p.offset) body)

  -- at first all are
  pub all_parts_left : (p : Place L) (body : List PlacedField) (log : LeafLog L) → AreReadable m shapes levels (part_places p body) → AreApartFrom shapes p.offset body
      → length (leaves_at shapes levels (part_places p body)) ≤ log.spare → PartsLeft p body log body p.block log
  all_parts_left p body log reads apart room = record { reads = reads; apart = apart; room = room; size = refl; logs = λ end logged. logged; clears = λ end cleared. cleared }

  module _ (p : Place L) (body : List PlacedField) (begin : LeafLog L) where
    module _ (part : PlacedField) (left : List PlacedField) (now : Block L) (log : LeafLog L) (h : PartsLeft p body begin (part ∷ left) now log) where
      -- the first of them reads, and the log has room for its leaves
      pub part_reads : ((part_place (now_at p now) part).shape < length shapes) × IsReadableWithin m shapes levels (part_place (now_at p now) part)
      part_reads = first_readable (part_place (now_at p now) part) (part_places (now_at p now) left) h.reads

      pub part_has_room : length (leaves (value_at shapes levels (part_place (now_at p now) part))) ≤ log.spare
      part_has_room =
          omega (arith, h.room, length-append (leaves (value_at shapes levels (part_place (now_at p now) part))) (leaves_at shapes levels (part_places (now_at p now) left)))

      -- once it is dropped, those behind it are left
      pub part_gone : ((s : ℕ) → s < length shapes → IsLaidOut shapes s) → (next : Block L) (after : LeafLog L) → IsCleared now next (span_from shapes p.offset part)
          → IsLogged log after (leaves (value_at shapes levels (part_place (now_at p now) part))) → PartsLeft p body begin left next after
      part_gone laid next after cleared logged =
          let range = span_from shapes p.offset part in
          let apart = pairs_first (λ a b. IsApart (span_from shapes p.offset a) (span_from shapes p.offset b)) part left h.apart in
          let rest = others_readable (part_place (now_at p now) part) (part_places (now_at p now) left) h.reads in
          let xs = leaves (value_at shapes levels (part_place (now_at p now) part)) in
          let ys = leaves_at shapes levels (part_places (now_at p now) left) in
          let same : leaves_at shapes levels (part_places (now_at p next) left) ≡ ys = rest_leaves m shapes laid levels p.shape p.offset now next range cleared left apart rest in
          record {
            reads = rest_readable m shapes laid levels p.shape p.offset now next range cleared left apart rest;
            apart = pairs_rest (λ a b. IsApart (span_from shapes p.offset a) (span_from shapes p.offset b)) part left h.apart;
            room = omega (arith, ap length same, h.room, logged.spare, length-append xs ys);
            size = cleared.size ∙ h.size;
            logs = λ end further. h.logs end (logged_then log after end xs ys logged (subst (IsLogged after end) same further));
            clears = λ end further. h.clears end (cleared_before now next end range (map (span_from shapes p.offset) left) cleared further);
          }

    -- where none is left, all are dropped
    module _ (now : Block L) (log : LeafLog L) (h : PartsLeft p body begin [] now log) where
      pub parts_logged : IsLogged begin log (leaves_at shapes levels (part_places p body))
      parts_logged = h.logs log (nothing_logged log)

      pub parts_cleared : AreCleared p.block now (ranges_of shapes (part_places p body))
      parts_cleared = subst (AreCleared p.block now) (sym (ranges_are shapes p body)) (h.clears now (none_cleared now))

  -- the same of the filled blocks of a sequence
  pub record BlocksLeft (body : List PlacedField) (blocks : List (Block L)) (begin : LeafLog L) (left : List (Block L)) (log : LeafLog L) : Type 0 where
    pub reads : AreReadable m shapes levels (block_places body left)
    pub room : length (leaves_at shapes levels (block_places body left)) ≤ log.spare
    pub logs : (end : LeafLog L) → IsLogged log end (leaves_at shapes levels (block_places body left)) → IsLogged begin end (leaves_at shapes levels (block_places body blocks))

  module _ (body : List PlacedField) (blocks : List (Block L)) (begin : LeafLog L) where
    module _ (b : Block L) (left : List (Block L)) (log : LeafLog L) (h : BlocksLeft body blocks begin (b ∷ left) log) where
      abbrev here : List (Place L)
      here = part_places (start_of 0 b) body

      both : leaves_at shapes levels (block_places body (b ∷ left)) ≡ leaves_at shapes levels here ++ leaves_at shapes levels (block_places body left)
      both = leaves_of_both shapes levels here (block_places body left)

      pub block_reads : AreReadable m shapes levels here
      block_reads = front_readable here (block_places body left) h.reads

      pub block_has_room : length (leaves_at shapes levels here) ≤ log.spare
      block_has_room = omega (arith, h.room, ap length both, length-append (leaves_at shapes levels here) (leaves_at shapes levels (block_places body left)))

      pub block_gone : (after : LeafLog L) → IsLogged log after (leaves_at shapes levels here) → BlocksLeft body blocks begin left after
      block_gone after logged =
          let xs = leaves_at shapes levels here in
          let ys = leaves_at shapes levels (block_places body left) in
          record {
            reads = back_readable here (block_places body left) h.reads;
            room = omega (arith, h.room, ap length both, logged.spare, length-append xs ys);
            logs = λ end further. h.logs end (subst (IsLogged log end) (sym both) (logged_then log after end xs ys logged further));
          }

    -- the blocks of a sequence from one on: the first of them, and what is left where another stands in its place
    module _ (s : Seq L) (i : ℕ) (b : Block L) (is : slice_get (filled_of s) i ≡ Some b) (log : LeafLog L) where
      pub next_block : BlocksLeft body blocks begin (drop i (filled_of s)) log → BlocksLeft body blocks begin (b ∷ drop (i + 1) (filled_of s)) log
      next_block = subst (λ left. BlocksLeft body blocks begin left log) (rest_from (filled_of s) i b is)

      pub others_stay : (w : Block L) → BlocksLeft body blocks begin (drop (i + 1) (filled_of s)) log
          → BlocksLeft body blocks begin (drop (i + 1) (filled_of (with_filled s (slice_set (filled_of s) i w)))) log
      others_stay w =
          subst (λ left. BlocksLeft body blocks begin left log)
          (sym (ap (drop (i + 1)) (filled_made (element_size_of s) (slice_set (filled_of s) i w) (spare_of s)) ∙ drop-set-lt (i + 1) (filled_of s) i w (omega arith)))

    pub blocks_logged : (xs : List (Block L)) (i : ℕ) (log : LeafLog L) → length xs ≤ i → BlocksLeft body blocks begin (drop i xs) log
        → IsLogged begin log (leaves_at shapes levels (block_places body blocks))
    blocks_logged xs i log past h =
        let last = subst (λ left. BlocksLeft body blocks begin left log) (drop_all i xs past) h in
        last.logs log (nothing_logged log)

-- a sequence with another block in place of one has as many
pub as_many_filled : {L : Type 0} (s : Seq L) (i : ℕ) (w : Block L) → length (filled_of (with_filled s (slice_set (filled_of s) i w))) ≡ length (filled_of s)
as_many_filled s i w = ap length (filled_made (element_size_of s) (slice_set (filled_of s) i w) (spare_of s)) ∙ length-set (filled_of s) i w
