-- The inline parts of a value, and those in a block, are dropped one after another.
use Rattle.std.proofs.Common.{◌≡◌, ℕ, ◌+◌, ◌<◌, ◌≤◌, List, [], ◌∷◌, AllPairs, IsSomeAnd, Option, None, Some, drop, length, option_map, slice_get, take, refl, sym, ap, ◌∙◌, subst, arith}
use Rattle.std.proofs.lemmas.List.{drop_all, length-map, length-take, take-map}
use Rattle.std.proofs.lemmas.Option.{slice_get-map}
use Rattle.facet_base.proofs.Lists.{slice_get_take, some_there}
use Rattle.facet_base.specs.declared.layout.ShapeId.{ShapeId}
use Rattle.facet_block.specs.DropLog.{LeafLog}
use Rattle.facet_block.specs.Span.{IsApart, IsCleared, span}
use Rattle.facet_block.specs.declared.block.Block.{Block}
use Rattle.facet_drop.proofs.HeldValues.{body_apart, body_stays}
use Rattle.facet_drop.proofs.KeptPlaces.{apart_from, pairs_taken, span_from}
use Rattle.facet_drop.proofs.PartsLeft.{PartsLeft, all_parts_left, now_at, part_gone, part_has_room, part_reads, parts_cleared, parts_logged, rest_from}
use Rattle.facet_drop.proofs.Readables.{IsThere}
use Rattle.facet_drop.specs.Cleared.{AreCleared}
use Rattle.facet_drop.specs.InlineParts.{first_places, inline_places, leaves_at, ranges_of}
use Rattle.facet_drop.specs.Logged.{IsLogged}
use Rattle.facet_leaf.specs.LeafModel.{LeafModel}
use Rattle.facet_outline.specs.declared.placed_fields.PlacedField.{PlacedField}
use Rattle.facet_registry.specs.Registry.{size_at}
use Rattle.facet_shape.specs.declared.shape.Shape.{Shape}
use Rattle.facet_trees.specs.Value.{leaves}
use Rattle.facet_values.proofs.WholePlaces.{lies_in_block}
use Rattle.facet_values.specs.Laid.{IsLaidOut}
use Rattle.facet_values.specs.Place.{Place, part_place, part_places, place_in, range_of, start_of}
use Rattle.facet_values.specs.Reading.{part_spans, value_at}
use Rattle.facet_values.specs.Replaced.{body_at}
use Rattle.facet_walk.specs.Look.{AreReadable, IsInside}

module _ {L : Type 0} (m : LeafModel L) (shapes : List Shape) (levels : ℕ) where
  module _ (p : Place L) (count : ℕ) (begin : LeafLog L) where
    abbrev first_body : List PlacedField
    first_body = take count (body_at shapes p)

    first_are : first_places shapes p count ≡ part_places p first_body
    first_are = take-map (part_place p) count (body_at shapes p)

    -- of the first so many inline parts those from an index on are left, and the place still has the same inline parts
    pub record FirstLeft (i : ℕ) (now : Block L) (log : LeafLog L) : Type 0 where
      pub body : body_at shapes (now_at m shapes levels p now) ≡ body_at shapes p
      pub left : PartsLeft m shapes levels p first_body begin (drop i first_body) now log

    pub first_start : ((s : ℕ) → s < length shapes → IsLaidOut shapes s) → p.shape < length shapes → AreReadable m shapes levels (first_places shapes p count) → length (leaves_at shapes levels (first_places shapes p count)) ≤ begin.spare → FirstLeft 0 p.block begin
    first_start laid known reads room = record {
      body = refl;
      left = all_parts_left m shapes levels p first_body begin (subst (AreReadable m shapes levels) first_are reads)
          (pairs_taken (λ a b. IsApart (span_from shapes p.offset a) (span_from shapes p.offset b)) count (body_at shapes p)
          (apart_from shapes p.offset (body_at shapes p) (body_apart shapes p (laid p.shape known)).apart))
          (subst (λ ps. length (leaves_at shapes levels ps) ≤ begin.spare) first_are room);
    }

    module _ (i : ℕ) (now : Block L) (log : LeafLog L) (h : FirstLeft i now log) where
      abbrev q_now : Place L
      q_now = now_at m shapes levels p now

      -- the part at the index, which comes next
      record IsNext : Type 0 where
        part : PlacedField
        here : slice_get (body_at shapes p) i ≡ Some part
        left : PartsLeft m shapes levels p first_body begin (part ∷ drop (i + 1) first_body) now log

      module _ (below : i < count) (enough : count ≤ length (inline_places shapes p)) where
        next : IsNext
        next = go (slice_get (body_at shapes p) i) refl
          where
            go : (o : Option PlacedField) → slice_get (body_at shapes p) i ≡ o → IsNext
            go None is = absurd (some_there (body_at shapes p) i (omega (arith, below, enough, length-map (body_at shapes p) (part_place p))) (sym is))
            go (Some part) is = record {
              part = part;
              here = is;
              left = subst (λ left. PartsLeft m shapes levels p first_body begin left now log) (rest_from first_body i part (slice_get_take count (body_at shapes p) i below ∙ is)) h.left;
            }

        found : slice_get (inline_places shapes q_now) i ≡ Some (part_place q_now next.part)
        found = slice_get-map (part_place q_now) (body_at shapes q_now) i ∙ ap (λ body. option_map (part_place q_now) (slice_get body i)) h.body ∙ ap (option_map (part_place q_now)) next.here

        reads_there : IsThere m shapes levels (part_place q_now next.part)
        reads_there = part_reads m shapes levels p first_body begin next.part (drop (i + 1) first_body) now log next.left

        -- it begins in the block
        pub next_inside : IsSomeAnd (slice_get (inline_places shapes q_now) i) IsInside
        next_inside =
            let r = reads_there.1 in
            let lies = lies_in_block m shapes (part_place q_now next.part) r.value r.reads in
            let inside : IsInside (part_place q_now next.part) = omega (arith, lies) in
            subst (λ o. IsSomeAnd o IsInside) (sym found) inside

        module _ (q : Place L) (is : slice_get (inline_places shapes q_now) i ≡ Some q) where
          same : part_place q_now next.part ≡ q
          same = let both = sym found ∙ is in cc

          -- it reads, and the log has room for its leaves
          pub next_reads : IsThere m shapes levels q
          next_reads = subst (IsThere m shapes levels) same reads_there

          pub next_has_room : length (leaves (value_at shapes levels q)) ≤ log.spare
          next_has_room =
              subst (λ x. length (leaves (value_at shapes levels x)) ≤ log.spare) same
              (part_has_room m shapes levels p first_body begin next.part (drop (i + 1) first_body) now log next.left)

          -- once it is dropped, those behind it are left
          pub next_gone : ((s : ℕ) → s < length shapes → IsLaidOut shapes s) → p.shape < length shapes → (end : Block L) (after : LeafLog L) → IsCleared now end (range_of shapes q) → IsLogged log after (leaves (value_at shapes levels q)) → FirstLeft (i + 1) end after
          next_gone laid known end after cleared logged =
              let cleared_there : IsCleared now end (span_from shapes p.offset next.part) = subst (λ x. IsCleared now end (range_of shapes x)) (sym same) cleared in
              let logged_there = subst (λ x. IsLogged log after (leaves (value_at shapes levels x))) (sym same) logged in
              let here = ap (λ body. slice_get body i) h.body ∙ next.here in
              record {
                body = body_stays shapes q_now end (laid p.shape known) i next.part here cleared_there ∙ h.body;
                left = part_gone m shapes levels p first_body begin next.part (drop (i + 1) first_body) now log next.left laid end after cleared_there logged_there;
              }

      -- behind the last of them all are dropped
      module _ (past : count ≤ i) where
        none_left : drop i first_body ≡ []
        none_left = drop_all i first_body (omega (arith, past, length-take count (body_at shapes p)))

        last : PartsLeft m shapes levels p first_body begin [] now log
        last = subst (λ left. PartsLeft m shapes levels p first_body begin left now log) none_left h.left

        pub first_logged : IsLogged begin log (leaves_at shapes levels (first_places shapes p count))
        first_logged = subst (λ ps. IsLogged begin log (leaves_at shapes levels ps)) (sym first_are) (parts_logged m shapes levels p first_body begin now log last)

        pub first_cleared : AreCleared p.block now (ranges_of shapes (first_places shapes p count))
        first_cleared = subst (λ ps. AreCleared p.block now (ranges_of shapes ps)) (sym first_are) (parts_cleared m shapes levels p first_body begin now log last)

  -- a key and its value in a block
  module _ (laid : (s : ℕ) → s < length shapes → IsLaidOut shapes s) (b : Block L) (key value : ShapeId) (offset : ℕ) (log : LeafLog L) where
    abbrev first : PlacedField
    first = record { shape = key; offset = 0 }

    abbrev second : PlacedField
    second = record { shape = value; offset = offset }

    abbrev pair : List PlacedField
    pair = first ∷ second ∷ []

    abbrev start : Place L
    start = start_of 0 b

    module _ (apart : AllPairs IsApart (part_spans shapes pair)) (reads : AreReadable m shapes levels (part_places start pair)) (room : length (leaves_at shapes levels (part_places start pair)) ≤ log.spare) where
      both_left : PartsLeft m shapes levels start pair log pair b log
      both_left = all_parts_left m shapes levels start pair log reads (apart_from shapes 0 pair apart) room

      pub key_reads : IsThere m shapes levels (place_in key.0 b 0)
      key_reads = part_reads m shapes levels start pair log first (second ∷ []) b log both_left

      pub key_has_room : length (leaves (value_at shapes levels (place_in key.0 b 0))) ≤ log.spare
      key_has_room = part_has_room m shapes levels start pair log first (second ∷ []) b log both_left

      module _ (next : Block L) (after : LeafLog L) (cleared : IsCleared b next (span 0 (size_at shapes key.0))) (logged : IsLogged log after (leaves (value_at shapes levels (place_in key.0 b 0)))) where
        value_left : PartsLeft m shapes levels start pair log (second ∷ []) next after
        value_left = part_gone m shapes levels start pair log first (second ∷ []) b log both_left laid next after cleared logged

        from_start : 0 + offset ≡ offset
        from_start = omega arith

        pub value_reads : IsThere m shapes levels (place_in value.0 next offset)
        value_reads = subst (λ at. IsThere m shapes levels (place_in value.0 next at)) from_start (part_reads m shapes levels start pair log second [] next after value_left)

        pub value_has_room : length (leaves (value_at shapes levels (place_in value.0 next offset))) ≤ after.spare
        value_has_room =
            subst (λ at. length (leaves (value_at shapes levels (place_in value.0 next at))) ≤ after.spare) from_start
            (part_has_room m shapes levels start pair log second [] next after value_left)

        pub pair_logged : (end : Block L) (last : LeafLog L) → IsCleared next end (span offset (size_at shapes value.0)) → IsLogged after last (leaves (value_at shapes levels (place_in value.0 next offset)))
            → IsLogged log last (leaves_at shapes levels (part_places start pair))
        pair_logged end last then_cleared then_logged =
            parts_logged m shapes levels start pair log end last
            (part_gone m shapes levels start pair log second [] next after value_left laid end last
            (subst (λ at. IsCleared next end (span at (size_at shapes value.0))) (sym from_start) then_cleared)
            (subst (λ at. IsLogged after last (leaves (value_at shapes levels (place_in value.0 next at)))) (sym from_start) then_logged))
