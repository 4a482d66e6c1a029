-- A walk that drops the values of cells, one after another.
use Rattle.std.proofs.Common.{◌≡◌, ℕ, ◌+◌, List, ◌∷◌, ◌++◌, drop, slice_get, slice_set, Some, sym, ap, ◌∙◌, arith, append_assoc}
use Rattle.std.proofs.lemmas.List.{drop-drop, drop-set-lt, drop_more}
use Rattle.std.proofs.lemmas.Option.{slice_get_within, get_or_from_slice_get}
use Rattle.facet_base.proofs.Lists.{slice_get_drop}
use Rattle.facet_shape.specs.declared.shape.Shape.{Shape}
use Rattle.facet_session.specs.declared.session.Cell.{Cell}
use Rattle.facet_session.specs.Cell.{stored_in, stored_in_all}

-- two lists that are one from index i on have the same there
pub same_at : {A : Type 0} (xs ys : List A) (i : ℕ) (x : A) → drop i xs ≡ drop i ys → Some x ≡ slice_get xs i → slice_get ys i ≡ Some x
same_at xs ys i x rest here = slice_get_drop ys i ∙ ap (λ zs. slice_get zs 0) (sym rest) ∙ sym (slice_get_drop xs i) ∙ sym here

-- the lists are still one past that index, whatever is put there
pub same_behind : {A : Type 0} (xs ys : List A) (i : ℕ) (x : A) → drop i xs ≡ drop i ys → drop (i + 1) (slice_set xs i x) ≡ drop (i + 1) ys
same_behind xs ys i x rest =
    drop-set-lt (i + 1) xs i x (omega arith) ∙ sym (drop-drop 1 i xs) ∙ ap (drop 1) rest ∙ drop-drop 1 i ys

-- what is stored from an index on is what the cell there stores, and then the rest
pub next_cell : {L : Type 0} (shapes : List Shape) (cells : List (Cell L)) (i : ℕ) (cell : Cell L) → slice_get cells i ≡ Some cell
    → stored_in_all shapes (drop i cells) ≡ stored_in shapes cell ++ stored_in_all shapes (drop (i + 1) cells)
next_cell shapes cells i cell here =
    ap (stored_in_all shapes) (drop_more cells i cell (slice_get_within cells i cell here) ∙ ap (λ c. c ∷ drop (i + 1) cells) (get_or_from_slice_get cells i cell cell here))

-- the leaves of the cell at a place are those that come next
pub next_stored : {L : Type 0} (shapes : List Shape) (cells : List (Cell L)) (i : ℕ) (cell : Cell L) (before now all : List L) → slice_get cells i ≡ Some cell
    → before ++ stored_in_all shapes (drop i cells) ≡ all → now ≡ before ++ stored_in shapes cell → now ++ stored_in_all shapes (drop (i + 1) cells) ≡ all
next_stored shapes cells i cell before now all here rest grown =
    ap (λ xs. xs ++ stored_in_all shapes (drop (i + 1) cells)) grown
    ∙ append_assoc before (stored_in shapes cell) (stored_in_all shapes (drop (i + 1) cells))
    ∙ ap (λ xs. before ++ xs) (sym (next_cell shapes cells i cell here))
    ∙ rest
