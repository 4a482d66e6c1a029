-- What is made of parts in order.
use Rattle.std.proofs.Common.{◌≡◌, Bool, true, false, if◌then◌else◌, List, [], ◌∷◌, refl, sym, ap, ◌∙◌}
use Rattle.facet_make.specs.Made.{Made, made, refused, and_then, in_order, node_of}
use Rattle.facet_trees.specs.Value.{Value, Values, node, none, more}
use Rattle.facet_trees.specs.declared.form.Form.{Form}

module _ {L : Type 0} where
  -- the parts and then others
  abbrev pub joined : Values L → Values L → Values L
  joined none ws = ws
  joined (more v vs) ws = more v (joined vs ws)

  -- each of the parts is made
  abbrev pub each_made : Values L → List (Made (Value L) L)
  each_made none = []
  each_made (more v vs) = made v ∷ each_made vs

  joined-none : (vs : Values L) → joined vs none ≡ vs
  joined-none none = refl
  joined-none (more v vs) = ap (more v) (joined-none vs)

  pub joined-and_then : (before : Values L) (v : Value L) (vs : Values L) → joined (and_then before v) vs ≡ joined before (more v vs)
  joined-and_then none v vs = refl
  joined-and_then (more w ws) v vs = ap (more w) (joined-and_then ws v vs)

  -- behind the parts before, these are made
  record AreMadeBehind (before : Values L) (cases : List (Made (Value L) L)) (ws : Values L) : Type 0 where
    values : Values L
    is : cases ≡ each_made values
    all : joined before values ≡ ws

  made_behind : (before : Values L) (cases : List (Made (Value L) L)) (ws : Values L) → in_order before cases ≡ made ws → AreMadeBehind before cases ws
  made_behind before [] ws e = let same : before ≡ ws = cc in record { values = none; is = refl; all = joined-none before ∙ same }
  made_behind before (made v ∷ cases) ws e =
      let rest = made_behind (and_then before v) cases ws e in
      record { values = more v rest.values; is = ap (λ cs. made v ∷ cs) rest.is; all = sym (joined-and_then before v rest.values) ∙ rest.all }
  made_behind before (refused taken ∷ cases) ws e = absurd (cc)

  -- where all parts are made, each is
  pub parts_made : (cases : List (Made (Value L) L)) (ws : Values L) → in_order none cases ≡ made ws → cases ≡ each_made ws
  parts_made cases ws e = let behind = made_behind none cases ws e in behind.is ∙ ap each_made behind.all

  -- a node that is made has parts that are made
  pub record IsNodeMade (form : Form) (cases : List (Made (Value L) L)) (v : Value L) : Type 0 where
    pub parts : Values L
    pub value : node form parts ≡ v
    pub is : cases ≡ each_made parts

  node_made_by : (form : Form) (parts : Made (Values L) L) (cases : List (Made (Value L) L)) (v : Value L) → in_order none cases ≡ parts → node_of form parts ≡ made v → IsNodeMade form cases v
  node_made_by form (made ws) cases v is e = let same : node form ws ≡ v = cc in record { parts = ws; value = same; is = parts_made cases ws is }
  node_made_by form (refused taken) cases v is e = absurd (cc)

  pub node_made : (form : Form) (cases : List (Made (Value L) L)) (v : Value L) → node_of form (in_order none cases) ≡ made v → IsNodeMade form cases v
  node_made form cases v e = node_made_by form (in_order none cases) cases v refl e

  -- the first of the parts that are made, and the others
  pub first_made : (case : Made (Value L) L) (cases : List (Made (Value L) L)) (v : Value L) (vs : Values L) → case ∷ cases ≡ each_made (more v vs) → (case ≡ made v) × (cases ≡ each_made vs)
  first_made case cases v vs e = (cc, cc)

  pub none_made : (case : Made (Value L) L) (cases : List (Made (Value L) L)) → case ∷ cases ≡ each_made none → ⊥
  none_made case cases e = absurd (cc)

-- what is made where a shape offers it is made, and the shape offers it
pub offered_made : {A L : Type 0} (is_there : Bool) (case : Made A L) (v : A) → (if is_there then case else refused []) ≡ made v → (is_there ≡ true) × (case ≡ made v)
offered_made true case v e = (refl, e)
offered_made false case v e = absurd (cc)
