-- The search for a way from a node back to itself.
use Rattle.std.proofs.Common.{◌==◌, ℕ, zero, suc, ◌<◌, ◌≤◌, List, [], ◌∷◌, Any, Contains, get_or, refl, subst, arith}
use Rattle.std.proofs.lemmas.Bool.{eqb-true, eq-eqb}
use Rattle.facet_graph.specs.Height.{IsHeightEntry, IsTooHigh}
use Rattle.facet_graph.specs.Labels.{AreAtLeast, AreRising}
use Rattle.facet_graph.specs.Reach.{Leads, Reaches, ReachesBad, ReachesItself, StaysWithin}
use Rattle.facet_graph.proofs.Tables.{entry_low, low_within}
use Rattle.facet_graph.proofs.Within.{no_way_back}

module _ (edges : ℕ → List ℕ) where
  -- a way back is a way to the node from one of those behind its edges
  pub from_edges : (s : ℕ) → ReachesItself edges s → Any (ReachesBad edges (λ t. t == s)) (edges s)
  from_edges s back = go back.edge
    where
      go : Contains (edges s) back.next → Any (ReachesBad edges (λ t. t == s)) (edges s)
      go (i, below, at) = (i, back.next, below, at, record { node = s; reached = back.back; is_bad = eq-eqb s s refl })

  pub way_back : (s : ℕ) → Any (ReachesBad edges (λ t. t == s)) (edges s) → ReachesItself edges s
  way_back s (i, next, below, at, bad) = record { next = next; edge = (i, below, at); back = subst (Reaches edges next) (eqb-true bad.node s bad.is_bad) bad.reached }

  -- a node that isn't too high is on no cycle
  pub not_high_some : (s e : ℕ) → IsHeightEntry edges s e → ¬ IsTooHigh edges s → 0 < e
  not_high_some s zero entry low = absurd (low entry)
  not_high_some s (suc e) entry low = omega arith

  pub not_high_not_back : (s e : ℕ) → IsHeightEntry edges s e → ¬ IsTooHigh edges s → ¬ ReachesItself edges s
  not_high_not_back s e entry low = no_way_back edges 100 s (low_within edges s e (entry_low edges s e entry (not_high_some s e entry low)))

  -- along a way back no label falls, so at its first edge none rises
  module _ (n : ℕ) (labels : List ℕ) (stays : StaysWithin edges n) (rising : AreRising edges n labels) where
    label_before : (u : ℕ) (way : List ℕ) (s : ℕ) → u < n → Leads edges u way s → get_or labels u 0 ≤ get_or labels s 0
    label_before u [] s below leads = subst (λ t. get_or labels u 0 ≤ get_or labels t 0) leads (omega arith)
    label_before u (next ∷ way) s below leads =
        let step = rising u below next leads.0 in
        let rest = label_before next way s (stays u next below leads.0) leads.1 in
        omega (arith, step, rest)

    -- so a node from which each edge leads to a higher label isn't on a cycle
    pub rising_not_back : (s bound : ℕ) → s < n → AreAtLeast edges labels s bound → get_or labels s 0 < bound → ¬ ReachesItself edges s
    rising_not_back s bound below least less back =
        let behind = least back.next back.edge in
        let rest = label_before back.next back.back.way s (stays s back.next below back.edge) back.back.leads in
        omega (arith, behind, rest, less)
