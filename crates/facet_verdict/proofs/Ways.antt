-- Ways along the edges of a graph are found by the nodes that they lead through, one after another.
use Rattle.std.proofs.Common.{◌≡◌, ℕ, zero, suc, ◌<◌, ◌≤◌, ◌⊎◌, inl, inr, Bool, true, Any, Contains, List, [], ◌∷◌, refl, sym, subst, arith}
use Rattle.std.proofs.lemmas.Bool.{cases_lt}
use Rattle.facet_graph.specs.Reach.{Leads, Reaches, ReachesBad, ReachesItself}
use Rattle.facet_verdict.proofs.Decisions.{Decided, HasBelow, alike, both, either, is_among, is_true, same_number, some_below, some_of}

-- b is a, or an edge leads from a to b, or edges lead to b through some of the first n nodes
unfoldable Via : (ℕ → List ℕ) → ℕ → ℕ → ℕ → Type 0
Via edges zero a b = (a ≡ b) ⊎ Contains (edges a) b
Via edges (suc n) a b = Via edges n a b ⊎ (Via edges n a n × Via edges n n b)

module _ (edges : ℕ → List ℕ) where
  stays : (a : ℕ) → Reaches edges a a
  stays a = record { way = []; leads = refl }

  onward : (a b c : ℕ) → Contains (edges a) b → Reaches edges b c → Reaches edges a c
  onward a b c edge r = record { way = b ∷ r.way; leads = (edge, r.leads) }

  joined_ways : (a b c : ℕ) (way : List ℕ) → Leads edges a way b → Reaches edges b c → Reaches edges a c
  joined_ways a b c [] here r = subst (λ s. Reaches edges s c) (sym here) r
  joined_ways a b c (next ∷ way) leads r = onward a next c leads.0 (joined_ways next b c way leads.1 r)

  one_way : (a b c : ℕ) → Reaches edges a b → Reaches edges b c → Reaches edges a c
  one_way a b c r q = joined_ways a b c r.way r.leads q

  -- a way through the first nodes is one
  via_reaches : (n a b : ℕ) → Via edges n a b → Reaches edges a b
  unfolding Via
  via_reaches zero a b (inl same) = subst (λ s. Reaches edges a s) same (stays a)
  via_reaches zero a b (inr edge) = onward a b b edge (stays b)
  via_reaches (suc n) a b (inl via) = via_reaches n a b via
  via_reaches (suc n) a b (inr through) = one_way a n b (via_reaches n a n through.0) (via_reaches n n b through.1)

  still : (n a : ℕ) → Via edges n a a
  unfolding Via
  still zero a = inl refl
  still (suc n) a = inl (still n a)

  one_edge : (n a b : ℕ) → Contains (edges a) b → Via edges n a b
  unfolding Via
  one_edge zero a b edge = inr edge
  one_edge (suc n) a b edge = inl (one_edge n a b edge)

  -- what leads to n or from n need not lead through it
  to_it : (n a : ℕ) → Via edges (suc n) a n → Via edges n a n
  unfolding Via
  to_it n a (inl via) = via
  to_it n a (inr through) = through.0

  from_it : (n b : ℕ) → Via edges (suc n) n b → Via edges n n b
  unfolding Via
  from_it n b (inl via) = via
  from_it n b (inr through) = through.1

  -- two ways that meet in one of the first n nodes are one
  abbrev Meet : ℕ → Type 0
  Meet n = (a c b : ℕ) → c < n → Via edges n a c → Via edges n c b → Via edges n a b

  below_last : (n : ℕ) → Meet n → (a c b : ℕ) → c < n → Via edges (suc n) a c → Via edges (suc n) c b → Via edges (suc n) a b
  unfolding Via
  below_last n meet a c b lower (inl ac) (inl cb) = inl (meet a c b lower ac cb)
  below_last n meet a c b lower (inl ac) (inr cb) = inr (meet a c n lower ac cb.0, cb.1)
  below_last n meet a c b lower (inr ac) (inl cb) = inr (ac.0, meet n c b lower ac.1 cb)
  below_last n meet a c b lower (inr ac) (inr cb) = inr (ac.0, cb.1)

  at_last : (n a b : ℕ) → Via edges (suc n) a n → Via edges (suc n) n b → Via edges (suc n) a b
  unfolding Via
  at_last n a b an nb = inr (to_it n a an, from_it n b nb)

  via_both : (n : ℕ) → Meet n
  via_both zero a c b below ac cb = absurd (omega (arith, below))
  via_both (suc n) a c b below ac cb = elim (cases_lt c n) [
    | inl lower ↦ below_last n (via_both n) a c b lower ac cb
    | inr upper ↦ let same : c ≡ n = omega (arith, below, upper) in at_last n a b (subst (λ s. Via edges (suc n) a s) same ac) (subst (λ s. Via edges (suc n) s b) same cb)
  ]

  -- an edge that leads to b from a node that is reached from a
  record LastEdge (a b : ℕ) : Type 0 where
    from : ℕ
    reached : Reaches edges a from
    edge : Contains (edges from) b

  last_edge : (a next b : ℕ) (way : List ℕ) → Contains (edges a) next → Leads edges next way b → LastEdge a b
  last_edge a next b [] edge here = record { from = a; reached = stays a; edge = subst (λ s. Contains (edges a) s) here edge }
  last_edge a next b (further ∷ way) edge leads =
      let last = last_edge next further b way leads.0 leads.1 in
      record { from = last.from; reached = onward a next last.from edge last.reached; edge = last.edge }

  -- only the first n nodes have edges
  module _ (n : ℕ) (ends : (s : ℕ) → n ≤ s → edges s ≡ []) where
    no_edge : (s t : ℕ) → n ≤ s → ¬ Contains (edges s) t
    no_edge s t from edge = let (k, below, at) = subst (λ ts. Contains ts t) (ends s from) edge in omega (arith, below)

    leads_via : (a b : ℕ) (way : List ℕ) → Leads edges a way b → Via edges n a b
    leads_via a b [] here = subst (λ s. Via edges n a s) here (still n a)
    leads_via a b (next ∷ []) leads = subst (λ s. Via edges n a s) leads.1 (one_edge n a next leads.0)
    leads_via a b (next ∷ further ∷ way) leads = elim (cases_lt next n) [
      | inl below ↦ via_both n a next b below (one_edge n a next leads.0) (leads_via next b (further ∷ way) leads.1)
      | inr from ↦ absurd (no_edge next further from leads.1.0)
    ]

    decided_via : (k a b : ℕ) → Decided (Via edges k a b)
    unfolding Via
    decided_via zero a b = either (same_number a b) (is_among (edges a) b)
    decided_via (suc k) a b = either (decided_via k a b) (both (decided_via k a k) (decided_via k k b))

    pub reaches : (a b : ℕ) → Decided (Reaches edges a b)
    reaches a b = alike (via_reaches n a b) (λ r. leads_via a b r.way r.leads) (decided_via n a b)

    pub reaches_itself : (a : ℕ) → Decided (ReachesItself edges a)
    reaches_itself a = alike back there (some_of (λ next. Reaches edges next a) (λ next. reaches next a) (edges a))
      where
        back : Any (λ next. Reaches edges next a) (edges a) → ReachesItself edges a
        back (k, next, below, at, r) = record { next = next; edge = (k, below, at); back = r }

        there : ReachesItself edges a → Any (λ next. Reaches edges next a) (edges a)
        there r = let (k, below, at) = r.edge in (k, r.next, below, at, r.back)

    module _ (bad : ℕ → Bool) where
      -- a node of the first n from which an edge leads to a bad one
      LeadsToBad : ℕ → ℕ → Type 0
      LeadsToBad a s = Reaches edges a s × Any (λ t. bad t ≡ true) (edges s)

      bad_behind : (a : ℕ) → HasBelow (LeadsToBad a) n → ReachesBad edges bad a
      unfolding LeadsToBad
      bad_behind a some =
          let (reached, (k, t, below, at, is_bad)) = some.holds in
          record { node = t; reached = one_way a some.at t reached (onward some.at t t (k, below, at) (stays t)); is_bad = is_bad }

      bad_found : (a : ℕ) → ReachesBad edges bad a → (bad a ≡ true) ⊎ HasBelow (LeadsToBad a) n
      unfolding LeadsToBad
      bad_found a r = by_way r.reached.way r.reached.leads
        where
          by_edge : LastEdge a r.node → HasBelow (LeadsToBad a) n
          by_edge last = elim (cases_lt last.from n) [
            | inl below ↦ let (k, among, at) = last.edge in record { at = last.from; below = below; holds = (last.reached, (k, r.node, among, at, r.is_bad)) }
            | inr beyond ↦ absurd (no_edge last.from r.node beyond last.edge)
          ]

          by_way : (way : List ℕ) → Leads edges a way r.node → (bad a ≡ true) ⊎ HasBelow (LeadsToBad a) n
          by_way [] here = inl (subst (λ s. bad s ≡ true) (sym here) r.is_bad)
          by_way (next ∷ way) leads = inr (by_edge (last_edge a next r.node way leads.0 leads.1))

      decided_lead : (a s : ℕ) → Decided (LeadsToBad a s)
      unfolding LeadsToBad
      decided_lead a s = both (reaches a s) (some_of (λ t. bad t ≡ true) (λ t. is_true (bad t)) (edges s))

      pub reaches_bad : (a : ℕ) → Decided (ReachesBad edges bad a)
      reaches_bad a = alike (λ found. elim found [ inl at_once ↦ record { node = a; reached = stays a; is_bad = at_once } | inr behind ↦ bad_behind a behind ]) (bad_found a) (either (is_true (bad a)) (some_below (LeadsToBad a) (decided_lead a) n))
