-- What a search has left to do: it falls with each step.
use Rattle.std.proofs.Common.{◌≡◌, ℕ, zero, suc, ◌+◌, ◌<◌, Bool, true, false, List, [], ◌∷◌, ◌++◌, length, get_or, set, sym, arith, add-zero, length-append}
use Rattle.std.proofs.lemmas.Bool.{false≢true}

-- the edges of the nodes from i on that aren't marked, counted together
pub unmarked_edges : (ℕ → List ℕ) → ℕ → List Bool → ℕ
unmarked_edges edges i [] = 0
unmarked_edges edges i (true ∷ marks) = unmarked_edges edges (i + 1) marks
unmarked_edges edges i (false ∷ marks) = length (edges i) + unmarked_edges edges (i + 1) marks

-- a node that is marked takes its edges out of the count
unmarked_edges_mark : (edges : ℕ → List ℕ) (i : ℕ) (marks : List Bool) (n : ℕ) → n < length marks → get_or marks n false ≡ false
    → unmarked_edges edges i (set marks n true) + length (edges (i + n)) ≡ unmarked_edges edges i marks
unfolding unmarked_edges
unmarked_edges_mark edges i [] n below unmarked = absurd (omega arith)
unmarked_edges_mark edges i (true ∷ marks) zero below unmarked = absurd (false≢true (sym unmarked))
unmarked_edges_mark edges i (false ∷ marks) zero below unmarked = rw add-zero (omega arith)
unmarked_edges_mark edges i (true ∷ marks) (suc n) below unmarked = let h = unmarked_edges_mark edges (i + 1) marks n (omega arith) unmarked in let e : i + suc n ≡ i + 1 + n = omega arith in rw e h
unmarked_edges_mark edges i (false ∷ marks) (suc n) below unmarked = let h = unmarked_edges_mark edges (i + 1) marks n (omega arith) unmarked in let e : i + suc n ≡ i + 1 + n = omega arith in rw e (omega (arith, h))

-- the last node of what is left is marked, and the nodes behind its edges come in its place
pub work_falls : (edges : ℕ → List ℕ) (marks : List Bool) (left rest : List ℕ) (n : ℕ) → left ≡ rest ++ n ∷ [] → n < length marks → get_or marks n false ≡ false
    → length (rest ++ edges n) + unmarked_edges edges 0 (set marks n true) < length left + unmarked_edges edges 0 marks
work_falls edges marks left rest n split below unmarked =
    let marked = unmarked_edges_mark edges 0 marks n below unmarked in
    let e : 0 + n ≡ n = omega arith in
    let falls = rw e at marked in
    rw split (omega (arith, falls, length-append {A = ℕ}))
