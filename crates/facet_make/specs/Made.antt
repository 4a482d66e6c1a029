-- What is made of a value and of its parts, or what was taken back.
use Rattle.std.specs.Prelude.{◌≤◌, Bool, List, [], ◌∷◌, ◌++◌, count_by}
use Rattle.facet_trees.specs.Value.{Value, Values, leaves_of_parts, node, none, more}
use Rattle.facet_trees.specs.declared.form.Form.{Form}

-- what is made; or it is refused, and these leaves were made and taken back, in this order
pub data Made (A L : Type 0) : Type 0 where
  made : A → Made A L
  refused : List L → Made A L

-- goes on with what is made; what was taken back is followed by the leaves of the parts before
abbrev pub then_from : {A B L : Type 0} → Made A L → List L → (A → Made B L) → Made B L
then_from (made x) before next = next x
then_from (refused taken) before next = refused (taken ++ before)

-- the values and then one more
abbrev pub and_then : {L : Type 0} → Values L → Value L → Values L
and_then none v = more v none
and_then (more w ws) v = more w (and_then ws v)

-- the parts in order, behind those that are made: where one is refused, its own leaves are taken back first, and then those of the parts before it, from the first part on
abbrev pub in_order : {L : Type 0} → Values L → List (Made (Value L) L) → Made (Values L) L
in_order before [] = made before
in_order before (case ∷ cases) = then_from case (leaves_of_parts before) (λ v. in_order (and_then before v) cases)

-- a value of the form with the parts that are made
abbrev pub node_of : {L : Type 0} → Form → Made (Values L) L → Made (Value L) L
node_of form (made vs) = made (node form vs)
node_of form (refused taken) = refused taken

-- the leaves that are made, whether they are kept or taken back
abbrev pub leaves_made : {A L : Type 0} → (A → List L) → Made A L → List L
leaves_made leaves_in (made x) = leaves_in x
leaves_made leaves_in (refused taken) = taken

-- each leaf stands in the first list at most as often as in the second
pub record IsAmong {L : Type 0} (xs ys : List L) : Type 0 where
  pub counts : (p : L → Bool) → count_by p xs ≤ count_by p ys
