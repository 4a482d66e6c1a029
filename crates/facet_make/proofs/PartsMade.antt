-- Parts that lie side by side are made one after another, and are taken back where one of them stops.
use Rattle.std.proofs.Common.{◌≡◌, ℕ, zero, suc, ◌+◌, ◌-◌, ◌<◌, ◌≤◌, ◌⊎◌, inl, inr, All, AllPairs, Bool, List, [], ◌∷◌, ◌++◌, length, drop, take, map, get_or, count_by, option_map, slice_get, IsSomeAnd, Option, None, Some, Result, Ok, Err, refl, sym, ap, ◌∙◌, subst, arith, append_assoc, append-nil, length-append}
use Rattle.std.proofs.lemmas.Bool.{cases_lt}
use Rattle.std.proofs.lemmas.List.{drop_all, ext_get_or, take_all}
use Rattle.std.proofs.lemmas.List.Elements.{All-cons, All-head, All-map, All-nil, All-tail}
use Rattle.std.proofs.lemmas.Option.{get_or_from_slice_get, slice_get-map, slice_get_within}
use Rattle.std.specs.declared.alloc.AllocError.{AllocError}
use Rattle.facet_base.proofs.Lists.{All_at, count_by_append}
use Rattle.facet_block.proofs.Ranges.{item_read, within_beside}
use Rattle.facet_block.specs.Block.{item_at, items_of, size_of}
use Rattle.facet_block.specs.DropLog.{LeafLog}
use Rattle.facet_block.specs.Span.{IsApart, IsBeside, IsEmptyIn, IsVacant, IsWithin, Span, span}
use Rattle.facet_block.specs.declared.block.Block.{Block}
use Rattle.facet_block.specs.declared.block.Item.{Item}
use Rattle.facet_drop.specs.Cleared.{AreCleared}
use Rattle.facet_drop.specs.InlineParts.{first_places, leaves_at, ranges_of}
use Rattle.facet_leaf.specs.LeafModel.{LeafModel}
use Rattle.facet_make.specs.Made.{Made, and_then, in_order, leaves_made, made, refused, then_from}
use Rattle.facet_make.specs.Walk.{AreChanged, AreMadeWithin, IsMadeWithin, IsStopped, Stops, ranges_from}
use Rattle.facet_outline.specs.declared.placed_fields.PlacedField.{PlacedField}
use Rattle.facet_registry.specs.Registry.{size_at}
use Rattle.facet_shape.specs.declared.shape.Shape.{Shape}
use Rattle.facet_trees.specs.Value.{Value, Values, depth, greatest_depth, leaves, leaves_of_parts, none, more}
use Rattle.facet_values.proofs.SameReading.{reads_alike}
use Rattle.facet_values.proofs.ValueAt.{values_found}
use Rattle.facet_values.specs.Laid.{IsLaidOut, LieApart}
use Rattle.facet_values.specs.Place.{Place, part_place, part_places, place_in}
use Rattle.facet_values.specs.Reading.{IsReadableWithin, ReadAll, Reads, part_spans}
use Rattle.facet_values.specs.Replaced.{body_at}
use Rattle.facet_walk.specs.Look.{AreReadable}

-- lists
pub take_there : {X : Type 0} (xs : List X) (i : ℕ) {x : X} → slice_get xs i ≡ Some x → take (i + 1) xs ≡ take i xs ++ x ∷ []
take_there [] i e = absurd (cc)
take_there (y ∷ xs) zero {x} e = let same : y ≡ x = cc in ap (λ z. z ∷ []) same
take_there (y ∷ xs) (suc i) e = let next : suc i + 1 ≡ suc (i + 1) = omega arith in rw next (ap (λ ys. y ∷ ys) (take_there xs i e))

pub drop_there : {X : Type 0} (xs : List X) (i : ℕ) {x : X} → slice_get xs i ≡ Some x → drop i xs ≡ x ∷ drop (i + 1) xs
drop_there [] i e = absurd (cc)
drop_there (y ∷ xs) zero {x} e = let same : y ≡ x = cc in ap (λ z. z ∷ xs) same
drop_there (y ∷ xs) (suc i) e = let next : suc i + 1 ≡ suc (i + 1) = omega arith in rw next (drop_there xs i e)

-- what stands at an index of a beginning stands there in the list
from_take : {X : Type 0} (xs : List X) (i k : ℕ) {x : X} → slice_get (take i xs) k ≡ Some x → (k < i) × (slice_get xs k ≡ Some x)
from_take [] zero k e = absurd (cc)
from_take [] (suc i) k e = absurd (cc)
from_take (y ∷ xs) zero k e = absurd (cc)
from_take (y ∷ xs) (suc i) zero e = (omega arith, e)
from_take (y ∷ xs) (suc i) (suc k) e = let rest = from_take xs i k e in (omega (arith, rest.0), rest.1)

take_map : {X Y : Type 0} (f : X → Y) (xs : List X) (i : ℕ) → take i (map f xs) ≡ map f (take i xs)
take_map f [] zero = refl
take_map f [] (suc i) = refl
take_map f (x ∷ xs) zero = refl
take_map f (x ∷ xs) (suc i) = ap (λ ys. f x ∷ ys) (take_map f xs i)

map_map : {X Y Z : Type 0} (f : X → Y) (h : Y → Z) (xs : List X) → map h (map f xs) ≡ map (λ x. h (f x)) xs
map_map f h [] = refl
map_map f h (x ∷ xs) = ap (λ ys. h (f x) ∷ ys) (map_map f h xs)

map_more : {X Y : Type 0} (f : X → Y) (xs : List X) (x : X) → map f (xs ++ x ∷ []) ≡ map f xs ++ f x ∷ []
map_more f [] x = refl
map_more f (y ∷ ys) x = ap (λ rest. f y ∷ rest) (map_more f ys x)

-- what holds at each index holds of all
pub all_by_index : {X : Type 0} (P : X → Type 0) (xs : List X) → ((k : ℕ) (x : X) → slice_get xs k ≡ Some x → P x) → All P xs
all_by_index P [] each = All-nil P
all_by_index P (x ∷ xs) each = All-cons P x xs (each 0 x refl) (all_by_index P xs (λ j y here. each (suc j) y here))

all_fewer : {X : Type 0} (P : X → Type 0) (xs : List X) (x : X) → All P (xs ++ x ∷ []) → All P xs × P x
all_fewer P [] x all = (All-nil P, All-head P x [] all)
all_fewer P (y ∷ ys) x all =
    let rest = all_fewer P ys x (All-tail P y (ys ++ x ∷ []) all) in
    (All-cons P y ys (All-head P y (ys ++ x ∷ []) all) rest.0, rest.1)

-- one part more
leaves_and_then : {L : Type 0} (vs : Values L) (v : Value L) → leaves_of_parts (and_then vs v) ≡ leaves_of_parts vs ++ leaves v
leaves_and_then none v = append-nil (leaves v)
leaves_and_then (more w ws) v = ap (λ xs. leaves w ++ xs) (leaves_and_then ws v) ∙ sym (append_assoc (leaves w) (leaves_of_parts ws) (leaves v))

depth_and_then : {L : Type 0} (vs : Values L) (v : Value L) (n : ℕ) → greatest_depth vs ≤ n → depth v ≤ n → greatest_depth (and_then vs v) ≤ n
depth_and_then none v n h k = omega arith
depth_and_then (more w ws) v n h k = let rest = depth_and_then ws v n (omega arith) k in omega arith

-- two blocks of one size with the same items are one
pub same_block : {L : Type 0} (b c : Block L) → size_of b ≡ size_of c → ((i : ℕ) → item_at b i ≡ item_at c i) → b ≡ c
same_block {L} b c size items =
    let make : List (Option (Item L)) → Block L = λ is. record { items = is } in
    ap make (ext_get_or None (items_of b) (items_of c) size (λ i below. sym (item_read b i) ∙ (items i ∙ item_read c i)))

-- what is counted
module _ {L : Type 0} (p : L → Bool) where
  count_parts_by : (case : Made (Value L) L) (before : List L) (next : Value L → Made (Values L) L)
      → ((v : Value L) → count_by p before + count_by p (leaves v) ≤ count_by p (leaves_made leaves_of_parts (next v)))
      → count_by p (leaves_made leaves case) + count_by p before ≤ count_by p (leaves_made leaves_of_parts (then_from case before next))
  count_parts_by (made v) before next h = let k = h v in omega arith
  count_parts_by (refused taken) before next h = let k = count_by_append p taken before in omega arith

  -- the leaves of the parts that are made are among those that the case makes
  count_before : (before : Values L) (cases : List (Made (Value L) L)) → count_by p (leaves_of_parts before) ≤ count_by p (leaves_made leaves_of_parts (in_order before cases))
  count_before before [] = omega arith
  count_before before (case ∷ cases) =
      let k = count_parts_by case (leaves_of_parts before) (λ v. in_order (and_then before v) cases)
      (λ v. let j = count_before (and_then before v) cases in
      let e = ap (count_by p) (leaves_and_then before v) ∙ count_by_append p (leaves_of_parts before) (leaves v) in omega arith) in
      omega arith

  count_stop : (before : Values L) (case : Made (Value L) L) (cases : List (Made (Value L) L))
      → count_by p (leaves_made leaves case) + count_by p (leaves_of_parts before) ≤ count_by p (leaves_made leaves_of_parts (in_order before (case ∷ cases)))
  count_stop before case cases =
      count_parts_by case (leaves_of_parts before) (λ v. in_order (and_then before v) cases)
      (λ v. let j = count_before (and_then before v) cases in
      let e = ap (count_by p) (leaves_and_then before v) ∙ count_by_append p (leaves_of_parts before) (leaves v) in omega arith)

-- where a part stops, the whole does, and has taken back the parts before behind what that part took back
stops_parts : {L : Type 0} (before : Values L) (case : Made (Value L) L) (cases : List (Made (Value L) L)) (result : Result (Option ℕ) AllocError) (taken : List L)
    → Stops leaves case result taken → Stops leaves_of_parts (in_order before (case ∷ cases)) result (taken ++ leaves_of_parts before)
stops_parts before case cases (Ok (Some n)) taken h = h
stops_parts before case cases (Ok None) taken h = ap (λ c. then_from c (leaves_of_parts before) (λ v. in_order (and_then before v) cases)) h
stops_parts before case cases (Err e) taken h = record {
  counts = λ p. let k = h.counts p in let j = count_stop p before case cases in let a = count_by_append p taken (leaves_of_parts before) in omega arith;
}

-- spans
apart_in_order : (spans : List Span) (i j : ℕ) (a b : Span) → AllPairs IsApart spans → i < j → slice_get spans i ≡ Some a → slice_get spans j ≡ Some b → IsApart a b
apart_in_order spans i j a b apart before one other =
    let there = apart i j a before (slice_get_within spans j b other) in
    subst (λ x. IsApart x b) (get_or_from_slice_get spans i a a one)
    (subst (λ x. IsApart (get_or spans i a) x) (get_or_from_slice_get spans j b a other) there)

-- spans that lie apart do so where both are moved
apart_moved : (base : ℕ) (a b : Span) → IsApart a b → IsApart (span (base + a.start) a.len) (span (base + b.start) b.len)
apart_moved base a b clear x = elim (cases_lt x base) [
  | inl before ↦ inl (inl (omega (arith, before)))
  | inr from ↦ elim (clear (x - base)) [
    | inl (inl before) ↦ inl (inl (omega (arith, before, from)))
    | inl (inr behind) ↦ inl (inr (omega (arith, behind, from)))
    | inr (inl before) ↦ inr (inl (omega (arith, before, from)))
    | inr (inr behind) ↦ inr (inr (omega (arith, behind, from)))
  ]
]

-- a byte lies in a span or beside it
side : (j : ℕ) (range : Span) → IsWithin j range ⊎ IsBeside j range
side j range = elim (cases_lt j range.start) [
  | inl before ↦ inr (inl before)
  | inr from ↦ elim (cases_lt j (range.start + range.len)) [ inl to ↦ inl (from, to) | inr behind ↦ inr (inr behind) ]
]

module _ (shapes : List Shape) (at : ℕ) where
  -- the range of a part
  abbrev pub range_from : PlacedField → Span
  range_from part = span (at + part.offset) (size_at shapes part.shape.0)

  -- a byte that lies in the range of one of the parts
  record IsInSome (j : ℕ) (body : List PlacedField) : Type 0 where
    pub index : ℕ
    pub part : PlacedField
    pub there : slice_get body index ≡ Some part
    pub within : IsWithin j (range_from part)

  in_some_or_beside : (j : ℕ) (body : List PlacedField) → IsInSome j body ⊎ All (IsBeside j) (ranges_from shapes at body)
  in_some_or_beside j [] = inr (All-nil (IsBeside j))
  in_some_or_beside j (part ∷ body) = elim (side j (range_from part)) [
    | inl within ↦ inl (record { index = 0; part = part; there = refl; within = within })
    | inr beside ↦ elim (in_some_or_beside j body) [
      | inl is ↦ inl (record { index = suc is.index; part = is.part; there = is.there; within = is.within })
      | inr rest ↦ inr (All-cons (IsBeside j) (range_from part) (ranges_from shapes at body) beside rest)
    ]
  ]

-- places
module _ {L : Type 0} (m : LeafModel L) (shapes : List Shape) where
  all_kept : (p q : Place L) (body : List PlacedField) (vs : Values L)
      → ((k : ℕ) (part : PlacedField) → slice_get body k ≡ Some part → (v : Value L) → Reads m shapes (part_place p part) v → Reads m shapes (part_place q part) v)
      → ReadAll m shapes (part_places p body) vs → ReadAll m shapes (part_places q body) vs
  all_kept p q [] none keeps reads = tt
  all_kept p q [] (more v vs) keeps reads = absurd reads
  all_kept p q (part ∷ body) none keeps reads = absurd reads
  all_kept p q (part ∷ body) (more v vs) keeps reads = (keeps 0 part refl v reads.0, all_kept p q body vs (λ k. keeps (suc k)) reads.1)

  read_more : (p : Place L) (body : List PlacedField) (part : PlacedField) (vs : Values L) (v : Value L) → ReadAll m shapes (part_places p body) vs
      → Reads m shapes (part_place p part) v → ReadAll m shapes (part_places p (body ++ part ∷ [])) (and_then vs v)
  read_more p [] part none v reads one = (one, tt)
  read_more p [] part (more w ws) v reads one = absurd reads
  read_more p (other ∷ body) part none v reads one = absurd reads
  read_more p (other ∷ body) part (more w ws) v reads one = (reads.0, read_more p body part ws v reads.1 one)

  readable_all : (levels : ℕ) (ps : List (Place L)) (vs : Values L) → ReadAll m shapes ps vs → greatest_depth vs ≤ levels → All (λ q. q.shape < length shapes) ps
      → (k : ℕ) → k < length ps → IsSomeAnd (slice_get ps k) (λ q. (q.shape < length shapes) × IsReadableWithin m shapes levels q)
  readable_all levels [] vs reads shallow known k below = absurd (omega arith)
  readable_all levels (p ∷ ps) none reads shallow known k below = absurd reads
  readable_all levels (p ∷ ps) (more v vs) reads shallow known zero below =
      (All-head (λ (q : Place L). q.shape < length shapes) p ps known, record { value = v; reads = reads.0; shallow = omega arith })
  readable_all levels (p ∷ ps) (more v vs) reads shallow known (suc k) below =
      readable_all levels ps vs reads.1 (omega arith) (All-tail (λ (q : Place L). q.shape < length shapes) p ps known) k (omega arith)

-- the part whose place stands at an index
pub record IsPartAt {L : Type 0} (p : Place L) (body : List PlacedField) (i : ℕ) (q : Place L) : Type 0 where
  pub part : PlacedField
  pub here : slice_get body i ≡ Some part
  pub shape : part.shape.0 ≡ q.shape
  pub block : p.block ≡ q.block
  pub offset : p.offset + part.offset ≡ q.offset

pub part_found : {L : Type 0} (p : Place L) (body : List PlacedField) (i : ℕ) (q : Place L) → slice_get (part_places p body) i ≡ Some q → IsPartAt p body i q
part_found p [] i q is = absurd (cc)
part_found p (part ∷ body) zero q is = let same : part_place p part ≡ q = cc in record { part = part; here = refl; shape = ap (λ r. r.shape) same; block = ap (λ r. r.block) same; offset = ap (λ r. r.offset) same }
part_found p (part ∷ body) (suc i) q is = let rest = part_found p body i q is in record { part = rest.part; here = rest.here; shape = rest.shape; block = rest.block; offset = rest.offset }

-- The parts before an index are made: what they read as, and that going on gives what is wanted.
pub record PartsMade {L : Type 0} (m : LeafModel L) (shapes : List Shape) (levels : ℕ) (case : PlacedField → Made (Value L) L) (body : List PlacedField) (at held : ℕ) (start : Block L) (begin : LeafLog L)
    (i n : ℕ) (now : Block L) (kept : LeafLog L) : Type 0 where
  pub values : Values L
  pub reads : ReadAll m shapes (part_places (place_in 0 now at) (take i body)) values
  pub shallow : greatest_depth values ≤ levels
  pub is : in_order values (map case (drop i body)) ≡ in_order none (map case body)
  pub changed : AreChanged start now (ranges_from shapes at (take i body))
  pub log : kept.leaves ≡ begin.leaves
  pub spare : begin.spare ≤ kept.spare
  pub number : n ≡ held + length (leaves_of_parts values)
  pub room : n ≤ kept.spare

pub PartsMade-none : {L : Type 0} {m : LeafModel L} {shapes : List Shape} {levels : ℕ} {case : PlacedField → Made (Value L) L} {body : List PlacedField} {at held : ℕ} {start : Block L} {begin : LeafLog L}
    → held ≤ begin.spare → PartsMade m shapes levels case body at held start begin 0 held start begin
PartsMade-none room = record {
  values = none;
  reads = tt;
  shallow = omega arith;
  is = refl;
  changed = record { size = refl; outside = λ i beside. refl };
  log = refl;
  spare = omega arith;
  number = omega arith;
  room = room;
}

module _ {L : Type 0} {m : LeafModel L} {shapes : List Shape} {levels : ℕ} {case : PlacedField → Made (Value L) L} {body : List PlacedField} {at held : ℕ} {start : Block L} {begin : LeafLog L}
    {i n : ℕ} {now : Block L} {kept : LeafLog L} (h : PartsMade m shapes levels case body at held start begin i n now kept) where
  module _ {part : PlacedField} (here : slice_get body i ≡ Some part) {size : ℕ} (apart : LieApart shapes size body) (vacant : All (IsVacant start) (ranges_from shapes at body)) where
    abbrev range : PlacedField → Span
    range = range_from shapes at

    vacant_at : (k : ℕ) (other : PlacedField) → slice_get body k ≡ Some other → IsVacant start (range other)
    vacant_at k other there = All_at (IsVacant start) (ranges_from shapes at body) k (range other) vacant (slice_get-map range body k ∙ ap (option_map range) there)

    -- an earlier part lies apart
    apart_before : (k : ℕ) (other : PlacedField) → slice_get (take i body) k ≡ Some other → IsApart (range other) (range part)
    apart_before k other there =
        let before = from_take body i k there in
        let bytes : PlacedField → Span = λ f. span f.offset (size_at shapes f.shape.0) in
        apart_moved at (bytes other) (bytes part)
        (apart_in_order (part_spans shapes body) k i (bytes other) (bytes part) apart.apart before.0
        (slice_get-map bytes body k ∙ ap (option_map bytes) before.1) (slice_get-map bytes body i ∙ ap (option_map bytes) here))

    -- the range of the next part is still vacant
    pub PartsMade-vacant : IsVacant now (range part)
    PartsMade-vacant = record {
      inside = omega (arith, (vacant_at i part here).inside, h.changed.size);
      empty = λ j within.
          h.changed.outside j
          (All-map (IsBeside j) range (take i body)
          (all_by_index (λ other. IsBeside j (range other)) (take i body)
          (λ k other there. elim (apart_before k other there j) [ inl beside ↦ beside | inr beside ↦ absurd (within_beside j (range part) within beside) ])))
          ∙ (vacant_at i part here).empty j within;
    }

    module _ (laid : (s : ℕ) → s < length shapes → IsLaidOut shapes s) {n' : ℕ} {b : Block L} {log : LeafLog L}
        (one : IsMadeWithin m shapes levels (case part) part.shape.0 (at + part.offset) n n' now b kept log) where
      earlier_kept : (k : ℕ) (other : PlacedField) → slice_get (take i body) k ≡ Some other → (v : Value L)
          → Reads m shapes (part_place (place_in 0 now at) other) v → Reads m shapes (part_place (place_in 0 b at) other) v
      earlier_kept k other there v reads =
          let before = from_take body i k there in
          reads_alike m shapes laid (part_place (place_in 0 now at) other) (part_place (place_in 0 b at) other) v (All_at (λ f. f.shape.0 < length shapes) body k other apart.known before.1)
          (record {
            shape = refl;
            items = λ x below.
                one.one.changed.outside (at + other.offset + x)
                (elim (apart_before k other there (at + other.offset + x)) [
                  | inl beside ↦ absurd (within_beside (at + other.offset + x) (range other) (omega arith, omega arith) beside)
                  | inr beside ↦ beside
                ]);
            inside = omega (arith, (vacant_at k other before.1).inside, h.changed.size, one.one.changed.size);
          })
          reads

      -- one part more is made
      pub PartsMade-step : PartsMade m shapes levels case body at held start begin (i + 1) n' b log
      PartsMade-step =
          let first = take i body in
          let longer = take_there body i here in
          let v = one.one.value in
          record {
            values = and_then h.values v;
            reads = subst (λ fs. ReadAll m shapes (part_places (place_in 0 b at) fs) (and_then h.values v)) (sym longer)
                (read_more m shapes (place_in 0 b at) first part h.values v
                (all_kept m shapes (place_in 0 now at) (place_in 0 b at) first h.values earlier_kept h.reads) one.one.reads);
            shallow = depth_and_then h.values v levels h.shallow one.shallow;
            is = sym (ap (λ fs. in_order h.values (map case fs)) (drop_there body i here)
                ∙ ap (λ c. then_from c (leaves_of_parts h.values) (λ w. in_order (and_then h.values w) (map case (drop (i + 1) body)))) one.one.is)
                ∙ h.is;
            changed = record {
              size = one.one.changed.size ∙ h.changed.size;
              outside = λ j beside.
                  let all = all_fewer (IsBeside j) (ranges_from shapes at first) (range part)
                  (subst (All (IsBeside j)) (ap (ranges_from shapes at) longer ∙ map_more range first part) beside) in
                  one.one.changed.outside j all.1 ∙ h.changed.outside j all.0;
            };
            log = one.one.log ∙ h.log;
            spare = omega (arith, one.one.spare, h.spare);
            number = omega (arith, one.number, h.number, ap length (leaves_and_then h.values v), length-append (leaves_of_parts h.values) (leaves v));
            room = one.room;
          }

  -- all parts are made
  pub PartsMade-end : length body ≤ i → AreMadeWithin m shapes levels (in_order none (map case body)) body at held n start now begin kept
  PartsMade-end le =
      let all = take_all i body le in
      record {
        values = h.values;
        is = sym h.is ∙ ap (λ fs. in_order h.values (map case fs)) (drop_all i body le);
        reads = subst (λ fs. ReadAll m shapes (part_places (place_in 0 now at) fs) h.values) all h.reads;
        shallow = h.shallow;
        changed = subst (λ fs. AreChanged start now (ranges_from shapes at fs)) all h.changed;
        log = h.log;
        spare = h.spare;
        number = h.number;
        room = h.room;
      }

  -- a part stops: those before it can be dropped, and then all is as at the start
  module _ {part : PlacedField} (here : slice_get body i ≡ Some part) {size : ℕ} (apart : LieApart shapes size body) {result : Result (Option ℕ) AllocError} {b : Block L} {log : LeafLog L}
      (stopped : IsStopped leaves (case part) result n now b kept log) (s : ℕ) (inline : body_at shapes (place_in s b at) ≡ body) where
    abbrev before : List (Place L)
    before = first_places shapes (place_in s b at) i

    before_are : before ≡ part_places (place_in 0 b at) (take i body)
    before_are = ap (λ fs. take i (part_places (place_in s b at) fs)) inline ∙ take_map (part_place (place_in s b at)) body i

    reads_there : ReadAll m shapes before h.values
    reads_there =
        subst (λ ps. ReadAll m shapes ps h.values) (sym before_are)
        (subst (λ c. ReadAll m shapes (part_places (place_in 0 c at) (take i body)) h.values) (sym stopped.back.block) h.reads)

    known_there : All (λ q. q.shape < length shapes) before
    known_there =
        subst (All (λ (q : Place L). q.shape < length shapes)) (sym before_are)
        (All-map (λ (q : Place L). q.shape < length shapes) (part_place (place_in 0 b at)) (take i body)
        (all_by_index (λ other. other.shape.0 < length shapes) (take i body)
        (λ k other there. All_at (λ f. f.shape.0 < length shapes) body k other apart.known (from_take body i k there).1)))

    pub PartsMade-readable : AreReadable m shapes levels before
    PartsMade-readable = record { each = readable_all m shapes levels before h.values reads_there h.shallow known_there }

    pub PartsMade-leaves : leaves_at shapes levels before ≡ leaves_of_parts h.values
    PartsMade-leaves = ap leaves_of_parts (values_found m shapes levels before h.values reads_there h.shallow)

    pub PartsMade-room : length (leaves_at shapes levels before) ≤ log.spare
    PartsMade-room = omega (arith, ap length PartsMade-leaves, stopped.room, h.number)

    module _ (vacant : All (IsVacant start) (ranges_from shapes at body)) {c : Block L} (cleared : AreCleared b c (ranges_of shapes before)) where
      ranges_are : ranges_of shapes before ≡ ranges_from shapes at (take i body)
      ranges_are = ap (ranges_of shapes) before_are ∙ map_map (part_place (place_in 0 b at)) (λ q. span q.offset (size_at shapes q.shape)) (take i body)

      same_item : (j : ℕ) → IsInSome shapes at j (take i body) ⊎ All (IsBeside j) (ranges_from shapes at (take i body)) → item_at c j ≡ item_at start j
      same_item j (inl is) =
          let there = from_take body i is.index is.there in
          let range = range_from shapes at in
          let clear = All_at (IsEmptyIn c) (ranges_from shapes at (take i body)) is.index (range is.part) (subst (All (IsEmptyIn c)) ranges_are cleared.empty)
          (slice_get-map range (take i body) is.index ∙ ap (option_map range) is.there) in
          let empty = All_at (IsVacant start) (ranges_from shapes at body) is.index (range is.part) vacant (slice_get-map range body is.index ∙ ap (option_map range) there.1) in
          clear j is.within ∙ sym (empty.empty j is.within)
      same_item j (inr beside) = cleared.outside j (subst (All (IsBeside j)) (sym ranges_are) beside) ∙ ap (λ x. item_at x j) stopped.back.block ∙ h.changed.outside j beside

      pub PartsMade-stop : {end : LeafLog L} → end.leaves ≡ log.leaves ++ leaves_at shapes levels before → log.spare ≤ end.spare + length (leaves_at shapes levels before)
          → IsStopped leaves_of_parts (in_order none (map case body)) result held start c begin end
      PartsMade-stop logs spares =
          let taken = stopped.back.taken in
          let all = leaves_at shapes levels before in
          record {
            back = record {
              taken = taken ++ leaves_of_parts h.values;
              why = subst (λ x. Stops leaves_of_parts x result (taken ++ leaves_of_parts h.values))
                  (ap (λ fs. in_order h.values (map case fs)) (sym (drop_there body i here)) ∙ h.is)
                  (stops_parts h.values (case part) (map case (drop (i + 1) body)) result taken stopped.back.why);
              block = same_block c start (cleared.size ∙ ap size_of stopped.back.block ∙ h.changed.size) (λ j. same_item j (in_some_or_beside shapes at j (take i body)));
              log = logs ∙ ap (λ xs. xs ++ all) stopped.back.log ∙ ap (λ xs. (kept.leaves ++ taken) ++ xs) PartsMade-leaves ∙ append_assoc kept.leaves taken (leaves_of_parts h.values)
                  ∙ ap (λ xs. xs ++ (taken ++ leaves_of_parts h.values)) h.log;
              spare = omega (arith, spares, stopped.back.spare, h.spare, ap length PartsMade-leaves, length-append taken (leaves_of_parts h.values));
            };
            room = omega (arith, spares, stopped.room, h.number, ap length PartsMade-leaves);
          }
