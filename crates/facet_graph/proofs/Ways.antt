-- Ways along edges.
use Rattle.std.proofs.Common.{ℕ, Bool, true, List, [], ◌∷◌, ◌++◌, All, Any, Contains, cond, get_or, nat_lt, refl, sym, subst, arith}
use Rattle.facet_graph.specs.Reach.{Leads, Reaches, ReachesBad, StaysWithin, edges_from}

module _ (edges : ℕ → List ℕ) where
  Leads_longer : (a : ℕ) (way : List ℕ) (b c : ℕ) → Leads edges a way b → Contains (edges b) c → Leads edges a (way ++ c ∷ []) c
  Leads_longer a [] b c leads edge = let P : ℕ → Type 0 = λ s. Contains (edges s) c in (subst P (sym leads) edge, refl)
  Leads_longer a (next ∷ way) b c leads edge = (leads.0, Leads_longer next way b c leads.1 edge)

  -- a node reaches itself by no edge
  pub Reaches_here : (a : ℕ) → Reaches edges a a
  Reaches_here a = record { way = []; leads = refl }

  -- one edge more, behind a way
  pub Reaches_edge : (a b c : ℕ) → Reaches edges a b → Contains (edges b) c → Reaches edges a c
  Reaches_edge a b c reaches edge = record { way = reaches.way ++ c ∷ []; leads = Leads_longer a reaches.way b c reaches.leads edge }

  -- a way goes on
  Leads_on : (a : ℕ) (way : List ℕ) (b : ℕ) (rest : List ℕ) (c : ℕ) → Leads edges a way b → Leads edges b rest c → Leads edges a (way ++ rest) c
  Leads_on a [] b rest c leads on = subst (λ s. Leads edges s rest c) (sym leads) on
  Leads_on a (next ∷ way) b rest c leads on = (leads.0, Leads_on next way b rest c leads.1 on)

  -- a bad node is reached from a start where it is from a node that is
  pub bad_behind : (bad : ℕ → Bool) (starts : List ℕ) (t : ℕ) → Any (λ s. Reaches edges s t) starts → ReachesBad edges bad t → Any (ReachesBad edges bad) starts
  bad_behind bad starts t (k, s, below, at, reaches) found = (
    k,
    s,
    below,
    at,
    record {
      node = found.node;
      reached = record { way = reaches.way ++ found.reached.way; leads = Leads_on s reaches.way t found.reached.way found.node reaches.leads found.reached.leads };
      is_bad = found.is_bad;
    },
  )

  pub bad_behind_some : (bad : ℕ → Bool) (starts nodes : List ℕ) → All (λ t. Any (λ s. Reaches edges s t) starts) nodes → Any (ReachesBad edges bad) nodes → Any (ReachesBad edges bad) starts
  bad_behind_some bad starts nodes reached (k, t, below, at, found) = bad_behind bad starts t (subst (λ u. Any (λ s. Reaches edges s u) starts) at (reached k t below)) found

-- the edges from a node on alone are fewer
module _ (first : ℕ) (edges : ℕ → List ℕ) where
  none_before : (b : Bool) (xs : List ℕ) (t : ℕ) → Contains (cond b [] xs) t → Contains xs t
  none_before true xs t (i, below, at) = absurd (omega (arith, below))
  none_before _ xs t among = among

  fewer : (s t : ℕ) → Contains (edges_from first edges s) t → Contains (edges s) t
  fewer s t among = none_before (nat_lt s first) (edges s) t among

  pub fewer_stay : (n : ℕ) → StaysWithin edges n → StaysWithin (edges_from first edges) n
  fewer_stay n stays s t below among = stays s t below (fewer s t among)

  leads_fewer : (a : ℕ) (way : List ℕ) (b : ℕ) → Leads (edges_from first edges) a way b → Leads edges a way b
  leads_fewer a [] b leads = leads
  leads_fewer a (next ∷ way) b leads = (fewer a next leads.0, leads_fewer next way b leads.1)

  any_fewer : (starts : List ℕ) (t : ℕ) → Any (λ s. Reaches (edges_from first edges) s t) starts → Any (λ s. Reaches edges s t) starts
  any_fewer starts t (k, s, below, at, reaches) = (k, s, below, at, record { way = reaches.way; leads = leads_fewer s reaches.way t reaches.leads })

  pub all_fewer : (starts nodes : List ℕ) → All (λ t. Any (λ s. Reaches (edges_from first edges) s t) starts) nodes → All (λ t. Any (λ s. Reaches edges s t) starts) nodes
  all_fewer starts nodes reached i d below = any_fewer starts (get_or nodes i d) (reached i d below)
