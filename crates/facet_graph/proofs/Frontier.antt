-- The state of a search: which nodes are marked, and which ones are still to be visited.
use Rattle.std.proofs.Common.{◌≡◌, ◌≢◌, ℕ, ◌<◌, Bool, true, false, List, [], ◌∷◌, ◌++◌, All, Any, Contains, Some, length, get_or, slice_index_or, set, sym, ◌∙◌, ap, subst, inl, inr, arith}
use Rattle.std.proofs.lemmas.Bool.{cases_Bool, cases_eq, false≢true}
use Rattle.std.proofs.lemmas.List.{get_or-set_same, get_or-set_other}
use Rattle.std.proofs.lemmas.List.Elements.{All-append, All-pop, Contains-append_cases, Contains-append_left, Contains-append_right, Contains-get_or, Contains-push, Contains-push_cases}
use Rattle.facet_graph.specs.Marks.{AreClean, IsMarked, IsUnmarked}
use Rattle.facet_graph.specs.Reach.{Leads, Reaches, ReachesBad, StaysWithin}
use Rattle.facet_graph.proofs.Ways.{Reaches_edge, Reaches_here}

-- a search that began with the marks `old` at the starts, and has the nodes `left` to visit
pub record IsFrontier (edges : ℕ → List ℕ) (bad : ℕ → Bool) (starts : List ℕ) (old marks : List Bool) (left : List ℕ) : Type 0 where
  -- a node with a new mark isn't bad, and each node behind it is marked or left
  pub good : (s : ℕ) → IsMarked marks s → IsUnmarked old s → bad s ≡ false
  pub next : (s t : ℕ) → IsMarked marks s → IsUnmarked old s → Contains (edges s) t → IsUnmarked marks t → Contains left t
  -- each start is marked or left, and each node that is left is reached from a start
  pub begun : (s : ℕ) → Contains starts s → IsUnmarked marks s → Contains left s
  pub reached : (t : ℕ) → Contains left t → Any (λ s. Reaches edges s t) starts

-- what is behind a node that is reached from a start is reached too
reached_behind : (edges : ℕ → List ℕ) (starts : List ℕ) (n t : ℕ) → Any (λ s. Reaches edges s n) starts → Contains (edges n) t → Any (λ s. Reaches edges s t) starts
reached_behind edges starts n t (k, s, below, at, reaches) edge = (k, s, below, at, Reaches_edge edges s n t reaches edge)

any_among : (P : ℕ → Type 0) (xs : List ℕ) (x : ℕ) → Contains xs x → P x → Any P xs
any_among P xs x (k, below, at) holds = (k, x, below, at, holds)

none_left : (t : ℕ) → Contains [] t → ⊥
none_left t (k, below, at) = omega arith

module _ (edges : ℕ → List ℕ) (bad : ℕ → Bool) (starts : List ℕ) (old : List Bool) where
  pub begins : IsFrontier edges bad starts old old starts
  begins = record {
    good = λ s marked unmarked. absurd (false≢true (sym unmarked ∙ marked));
    next = λ s t marked unmarked. absurd (false≢true (sym unmarked ∙ marked));
    begun = λ s is unmarked. is;
    reached = λ t is. any_among (λ s. Reaches edges s t) starts t is (Reaches_here edges t);
  }

  -- the last node that is left has its mark already
  pub passes : (marks : List Bool) (left rest : List ℕ) (n : ℕ) → IsFrontier edges bad starts old marks left → left ≡ rest ++ n ∷ [] → IsMarked marks n → IsFrontier edges bad starts old marks rest
  passes marks left rest n is split marked = record {
    good = is.good;
    next = λ s t seen new edge unmarked. others t unmarked (is.next s t seen new edge unmarked);
    begun = λ s start unmarked. others s unmarked (is.begun s start unmarked);
    reached = λ t among. is.reached t (subst (λ xs. Contains xs t) (sym split) (Contains-append_left rest (n ∷ []) t among));
  }
    where
      others : (t : ℕ) → IsUnmarked marks t → Contains left t → Contains rest t
      others t unmarked among = elim (Contains-push_cases rest n t (subst (λ xs. Contains xs t) split among)) [ inl there ↦ there | inr same ↦ absurd (false≢true (sym unmarked ∙ ap (λ s. get_or marks s false) (sym same) ∙ marked)) ]

  -- the last node that is left gets its mark, and those behind it are left in its place
  pub expands : (marks : List Bool) (left rest : List ℕ) (n : ℕ) → IsFrontier edges bad starts old marks left → left ≡ rest ++ n ∷ [] → n < length marks → bad n ≡ false → IsFrontier edges bad starts old (set marks n true) (rest ++ edges n)
  expands marks left rest n is split below fine = record {
    good = λ s seen new. elim (cases_eq s n) [ inl same ↦ ap bad same ∙ fine | inr other ↦ is.good s (before s other seen) new ];
    next = λ s t seen new edge unmarked. elim (cases_eq s n) [
      | inl same ↦ Contains-append_right rest (edges n) t (subst (λ m. Contains (edges m) t) same edge)
      | inr other ↦ others t unmarked (is.next s t (before s other seen) new edge (unmarked_before t unmarked))
    ];
    begun = λ s start unmarked. others s unmarked (is.begun s start (unmarked_before s unmarked));
    reached = λ t among. elim (Contains-append_cases rest (edges n) t among) [
      | inl there ↦ is.reached t (subst (λ xs. Contains xs t) (sym split) (Contains-append_left rest (n ∷ []) t there))
      | inr behind ↦ reached_behind edges starts n t (is.reached n (subst (λ xs. Contains xs n) (sym split) (Contains-push rest n))) behind
    ];
  }
    where
      before : (s : ℕ) → s ≢ n → IsMarked (set marks n true) s → IsMarked marks s
      before s other seen = sym (get_or-set_other marks n s true false other) ∙ seen

      not_it : (t : ℕ) → IsUnmarked (set marks n true) t → t ≢ n
      not_it t unmarked same = false≢true (sym unmarked ∙ ap (λ m. get_or (set marks n true) m false) same ∙ get_or-set_same marks n true false below)

      unmarked_before : (t : ℕ) → IsUnmarked (set marks n true) t → IsUnmarked marks t
      unmarked_before t unmarked = sym (get_or-set_other marks n t true false (not_it t unmarked)) ∙ unmarked

      others : (t : ℕ) → IsUnmarked (set marks n true) t → Contains left t → Contains (rest ++ edges n) t
      others t unmarked among = elim (Contains-push_cases rest n t (subst (λ xs. Contains xs t) split among)) [
        | inl there ↦ Contains-append_left rest (edges n) t there
        | inr same ↦ absurd (not_it t unmarked (sym same))
      ]

  -- the last node that is left is reached from a start
  pub last_reached : (marks : List Bool) (left rest : List ℕ) (n : ℕ) → IsFrontier edges bad starts old marks left → left ≡ rest ++ n ∷ [] → Any (λ s. Reaches edges s n) starts
  last_reached marks left rest n is split = is.reached n (subst (λ xs. Contains xs n) (sym split) (Contains-push rest n))

  -- and it is bad
  pub finds : (marks : List Bool) (left rest : List ℕ) (n : ℕ) → IsFrontier edges bad starts old marks left → left ≡ rest ++ n ∷ [] → bad n ≡ true → Any (ReachesBad edges bad) starts
  finds marks left rest n is split found = bad_there (last_reached marks left rest n is split)
    where
      bad_there : Any (λ s. Reaches edges s n) starts → Any (ReachesBad edges bad) starts
      bad_there (k, s, below, at, reaches) = (k, s, below, at, record { node = n; reached = reaches; is_bad = found })

  module _ (marks : List Bool) (was : AreClean edges bad old) (is : IsFrontier edges bad starts old marks []) where
    marked_behind : (s t : ℕ) → IsMarked marks s → IsUnmarked old s → Contains (edges s) t → IsMarked marks t
    marked_behind s t seen new edge = elim (cases_Bool (get_or marks t false)) [ inl seen_there ↦ seen_there | inr lacks ↦ absurd (none_left t (is.next s t seen new edge lacks)) ]

    no_bad_way : (s : ℕ) (way : List ℕ) (t : ℕ) → IsMarked marks s → Leads edges s way t → bad t ≡ true → ⊥
    no_bad_way s [] t seen leads found = elim (cases_Bool (get_or old s false)) [
      | inl there ↦ was s there (record { node = t; reached = record { way = []; leads = leads }; is_bad = found })
      | inr lacks ↦ false≢true (sym (is.good s seen lacks) ∙ ap bad leads ∙ found)
    ]
    no_bad_way s (next ∷ way) t seen leads found = elim (cases_Bool (get_or old s false)) [
      | inl there ↦ was s there (record { node = t; reached = record { way = next ∷ way; leads = leads }; is_bad = found })
      | inr lacks ↦ no_bad_way next way t (marked_behind s next seen lacks leads.0) leads.1 found
    ]

    -- once nothing is left, the marks are clean
    pub marked_clean : AreClean edges bad marks
    marked_clean s seen reaches = no_bad_way s reaches.reached.way reaches.node seen reaches.reached.leads reaches.is_bad

    -- the starts are marked
    pub starts_marked : All (IsMarked marks) starts
    starts_marked i d below = elim (cases_Bool (get_or marks (get_or starts i d) false)) [ inl seen ↦ seen | inr lacks ↦ absurd (none_left _ (is.begun _ (Contains-get_or starts i d below) lacks)) ]

    -- so none of them reaches a bad node
    pub starts_clean : Any (ReachesBad edges bad) starts → ⊥
    starts_clean (k, s, below, at, reaches) = marked_clean s (subst (IsMarked marks) at (starts_marked k s below)) reaches

-- what holds of each node that is left holds of the last one and of the others
pub within_front : (P : ℕ → Type 0) (left rest : List ℕ) (n : ℕ) → left ≡ rest ++ n ∷ [] → All P left → All P rest
within_front P left rest n split all = (All-pop P left rest (Some n) split all).0

pub within_last : (P : ℕ → Type 0) (left rest : List ℕ) (n : ℕ) → left ≡ rest ++ n ∷ [] → All P left → P n
within_last P left rest n split all = (All-pop P left rest (Some n) split all).1

pub within_edges : (edges : ℕ → List ℕ) (count : ℕ) (rest : List ℕ) (n : ℕ) → StaysWithin edges count → n < count → All (λ s. s < count) rest → All (λ s. s < count) (rest ++ edges n)
within_edges edges count rest n within below all = All-append (λ s. s < count) rest (edges n) all edge_within
  where
    edge_within : All (λ s. s < count) (edges n)
    edge_within k d at = within n (slice_index_or (edges n) k d) below (Contains-get_or (edges n) k d at)

pub nothing_left : (edges : ℕ → List ℕ) (bad : ℕ → Bool) (starts : List ℕ) (old marks : List Bool) (left : List ℕ) → length left ≡ 0 → IsFrontier edges bad starts old marks left → IsFrontier edges bad starts old marks []
nothing_left edges bad starts old marks [] none is = is
nothing_left edges bad starts old marks (_ ∷ left) none is = absurd (omega arith)
