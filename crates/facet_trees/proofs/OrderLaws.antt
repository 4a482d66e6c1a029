-- The laws of the orders and of the equality of values.
use Rattle.std.proofs.Common.{◌≡◌, ◌⊎◌, inl, inr, ℕ, suc, ◌==◌, ◌&&◌, Bool, true, false, if◌then◌else◌, int_cmp, int_eq, List, [], ◌∷◌, All, Some, IsSome, refl, sym, ap, ◌∙◌, subst, arith, ℤ}
use Rattle.std.specs.Ordering.{is_eq, ordering_reverse}
use Rattle.std.specs.declared.cmp.Ordering.TheVariants.{Less, Equal, Greater}
use Rattle.std.proofs.lemmas.Bool.{and_left, and_parts, and_right, false_from_ne_true, ne_eqb}
use Rattle.std.proofs.lemmas.Bool.Decides.{Decides-int_eq, nat_tests}
use Rattle.std.proofs.lemmas.Cmp.{int_cmp_total, int_eq_equiv}
use Rattle.std.proofs.lemmas.List.Elements.{All-head, All-tail}
use Rattle.facet_base.specs.declared.characteristic.Characteristic.TheVariants as trait
use Rattle.facet_causes.specs.Causes.{IsWellFormed}
use Rattle.facet_leaf.specs.LeafLaws.{LeafLaws}
use Rattle.facet_leaf.specs.LeafModel.{LeafModel}
use Rattle.facet_shape.specs.declared.shape.Shape.{Shape}
use Rattle.facet_trees.specs.Answered.{AllOffer, answer_if, is_answered, rank_at}
use Rattle.facet_trees.specs.Equal.{equal_then, equality, equality_of_parts}
use Rattle.facet_trees.specs.Fits.{AllFit, Fits, HasForm}
use Rattle.facet_trees.specs.Order.{Which, by_partial, by_total, capability_of, order_of_leaves, order_then, ordered, ordering, ordering_of_parts, reversed}
use Rattle.facet_trees.specs.Structure.{part_shapes, structure_at}
use Rattle.facet_trees.specs.Value.{Value, Values, leaf, node, none, more, count}
use Rattle.facet_trees.specs.declared.form.Form.{Form}
use Rattle.facet_trees.proofs.AnswerChains.{Chain, chain_if, chain_then, chain_total, greater_after, less_after, less_before}
use Rattle.facet_trees.proofs.AnswersAgree.{Agree, IsAnswer, agree_if, agree_ranks, agree_then, answer_then, answer_there, equal_then_there, ordered_answer, own_reverse, reversed_if, reversed_then, same_if, same_tests, same_then, there_else_false, there_if}
use Rattle.facet_trees.proofs.FormsOfShape.{same_form}
use Rattle.facet_trees.proofs.LeafOrders.{leaf_agrees, leaf_answer, leaf_chain, leaf_reversed}
use Rattle.facet_trees.proofs.OfferedComparisons.{IsAsked, all_offer_equality, have_leaves, is_there, some_fits}
use Rattle.facet_trees.proofs.PartShapes.{Alike, alike_parts, parts_offer}

int_same : (a b : ℤ) → int_cmp a b ≡ Equal → a ≡ b
int_same a b same = (Decides-int_eq a b).0 (ap is_eq same)

ranks_same : (a b : ℤ) → ordered (int_cmp a b) ≡ ordered Equal → a ≡ b
ranks_same a b same = int_same a b (cc)

int_back : (a b : ℤ) → int_cmp b a ≡ ordering_reverse (int_cmp a b)
int_back a b = int_cmp_total.antisymm b a

test_less : (a b : ℕ) (test : Bool) → (suc a == suc b) ≡ test → (a == b) ≡ test
test_less a b test is = grind (arith, nat_tests)

never_more : (n : ℕ) → (0 == suc n) ≡ true → ⊥
never_more n is = absurd (grind (arith, nat_tests))

never_none : (n : ℕ) → (suc n == 0) ≡ true → ⊥
never_none n is = absurd (grind (arith, nat_tests))

-- ranks and numbers of parts are the same with the arguments exchanged
tests_back : (a b : ℤ) (n k : ℕ) → (int_eq b a && (k == n)) ≡ (int_eq a b && (n == k))
tests_back a b n k =
    let numbers : (k == n) ≡ (n == k) = grind (arith, nat_tests) in
    let ranks = int_eq_equiv.symm b a in
    ap (λ test. test && (k == n)) ranks ∙ ap (λ test. int_eq a b && test) numbers

comparison_of : (which : Which) → IsAsked (capability_of which)
comparison_of by_partial = tt
comparison_of by_total = tt

module _ {L : Type 0} (m : LeafModel L) (shapes : List Shape) where
  -- forms of other ranks, or another number of parts, are never equal
  pub equality_differs : (s : ℕ) (form other : Form) (vs ws : Values L) → is_answered shapes trait.PartialEq s ≡ true → ¬ (rank_at shapes s form ≡ rank_at shapes s other) ⊎ ¬ (count vs ≡ count ws)
      → equality m shapes s (node form vs) (node other ws) ≡ Some false
  unfolding equality
  equality_differs s form other vs ws is differ =
      let r = rank_at shapes s form in
      let r' = rank_at shapes s other in
      let parts = equality_of_parts m shapes (part_shapes (structure_at shapes s) form (count vs)) vs ws in
      let test : (int_eq r r' && (count vs == count ws)) ≡ false = elim differ [
        | inl ranks ↦ and_left (int_eq r r') (count vs == count ws) (false_from_ne_true (int_eq r r') (λ same. ranks ((Decides-int_eq r r').0 same)))
        | inr counts ↦ and_right (int_eq r r') (count vs == count ws) (ne_eqb (count vs) (count ws) counts)
      ] in
      ap (λ is_there. answer_if is_there (if int_eq r r' && (count vs == count ws) then parts else Some false)) is ∙ ap (λ met. if met then parts else Some false) test

module _ {L : Type 0} (m : LeafModel L) (laws : LeafLaws m) (shapes : List Shape) (well : IsWellFormed m shapes) where
  -- parts of values whose forms have one rank are of the same shapes as far as both go
  alike_of : (s : ℕ) (form other : Form) (n k : ℕ) → HasForm (structure_at shapes s) form → HasForm (structure_at shapes s) other → rank_at shapes s form ≡ rank_at shapes s other
      → Alike (part_shapes (structure_at shapes s) form n) (part_shapes (structure_at shapes s) other k)
  alike_of s form other n k has also same =
      subst (λ f. Alike (part_shapes (structure_at shapes s) form n) (part_shapes (structure_at shapes s) f k)) (same_form m shapes well s form other has also same)
      (alike_parts (structure_at shapes s) form n k)

  fits_alike : (s t : ℕ) (v : Value L) → s ≡ t → Fits m shapes t v → Fits m shapes s v
  fits_alike s t v same fits = subst (λ u. Fits m shapes u v) (sym same) fits

  answered : (s : ℕ) (v : Value L) (which : Which) → Fits m shapes s v → AllOffer shapes (capability_of which) s → is_answered shapes (capability_of which) s ≡ true
  answered s v which fits all = is_there m shapes well s (some_fits m shapes s v fits) (capability_of which) (comparison_of which) all

  mutual
    unfolding ordering ordering_of_parts

    -- either order is reversed where its arguments are exchanged
    pub ordering_reversed : (which : Which) (s : ℕ) (v w : Value L) → Fits m shapes s v → Fits m shapes s w → ordering m shapes which s w v ≡ reversed (ordering m shapes which s v w)
    ordering_reversed which s (leaf x) (leaf y) fits also =
        reversed_if (is_answered shapes (capability_of which) s) (Some (order_of_leaves m which x y)) (Some (order_of_leaves m which y x))
        (λ is. ap Some (leaf_reversed m laws which x y (have_leaves m shapes well s x y fits also (capability_of which) (comparison_of which) is)))
    ordering_reversed which s (leaf x) (node other ws) fits also = reversed_if (is_answered shapes (capability_of which) s) (ordered Less) (ordered Greater) (λ is. refl)
    ordering_reversed which s (node form vs) (leaf y) fits also = reversed_if (is_answered shapes (capability_of which) s) (ordered Greater) (ordered Less) (λ is. refl)
    ordering_reversed which s (node form vs) (node other ws) fits also =
        let r = rank_at shapes s form in
        let r' = rank_at shapes s other in
        let ss = part_shapes (structure_at shapes s) form (count vs) in
        let ts = part_shapes (structure_at shapes s) other (count ws) in
        let ours = ordering_of_parts m shapes which ss vs ws in
        let theirs = ordering_of_parts m shapes which ts ws vs in
        reversed_if (is_answered shapes (capability_of which) s) (order_then (ordered (int_cmp r r')) ours) (order_then (ordered (int_cmp r' r)) theirs)
        (λ is. rw (int_back r r')
        (reversed_then (ordered (int_cmp r r')) ours theirs
        (λ same. parts_reversed which ss ts vs ws (alike_of s form other (count vs) (count ws) fits.0 also.0 (ranks_same r r' same)) fits.1 also.1)))

    parts_reversed : (which : Which) (ss ts : List ℕ) (vs ws : Values L) → Alike ss ts → AllFit m shapes ss vs → AllFit m shapes ts ws
        → ordering_of_parts m shapes which ts ws vs ≡ reversed (ordering_of_parts m shapes which ss vs ws)
    parts_reversed which ss ts none none alike fit also = refl
    parts_reversed which ss ts none (more w ws) alike fit also = refl
    parts_reversed which ss ts (more v vs) none alike fit also = refl
    parts_reversed which [] ts (more v vs) (more w ws) alike fit also = absurd fit
    parts_reversed which (s ∷ ss) [] (more v vs) (more w ws) alike fit also = absurd also
    parts_reversed which (s ∷ ss) (t ∷ ts) (more v vs) (more w ws) alike fit also =
        let first = ordering_reversed which s v w fit.0 (fits_alike s t w alike.0 also.0) in
        let rest = ordering_of_parts m shapes which ss vs ws in
        let rest_back = ordering_of_parts m shapes which ts ws vs in
        ap (λ u. order_then (ordering m shapes which u w v) rest_back) (sym alike.0)
        ∙ ap (λ answer. order_then answer rest_back) first
        ∙ reversed_then (ordering m shapes which s v w) rest rest_back (λ same. parts_reversed which ss ts vs ws alike.1 fit.1 also.1)

  mutual
    unfolding ordering ordering_of_parts

    -- what is at most a value that is at most a third is at most the third
    pub ordering_chain : (s : ℕ) (u v w : Value L) → Fits m shapes s u → Fits m shapes s v → Fits m shapes s w
        → Chain (ordering m shapes by_total s u v) (ordering m shapes by_total s v w) (ordering m shapes by_total s u w)
    ordering_chain s (leaf x) (leaf y) (leaf z) f g h =
        chain_if (is_answered shapes trait.Ord s) (ordered (m.order x y)) (ordered (m.order y z)) (ordered (m.order x z))
        (λ is. leaf_chain m laws x y z (have_leaves m shapes well s x y f g trait.Ord tt is) (have_leaves m shapes well s y z g h trait.Ord tt is))
    ordering_chain s (leaf x) (leaf y) (node c ws) f g h =
        chain_if (is_answered shapes trait.Ord s) (ordered (m.order x y)) (ordered Less) (ordered Less) (λ is. less_after (ordered (m.order x y)))
    ordering_chain s (leaf x) (node b vs) (leaf z) f g h =
        chain_if (is_answered shapes trait.Ord s) (ordered Less) (ordered Greater) (ordered (m.order x z)) (λ is. tt)
    ordering_chain s (leaf x) (node b vs) (node c ws) f g h =
        let between = order_then (ordered (int_cmp (rank_at shapes s b) (rank_at shapes s c))) (ordering_of_parts m shapes by_total (part_shapes (structure_at shapes s) b (count vs)) vs ws) in
        chain_if (is_answered shapes trait.Ord s) (ordered Less) between (ordered Less) (λ is. less_before between)
    ordering_chain s (node a us) (leaf y) (leaf z) f g h =
        chain_if (is_answered shapes trait.Ord s) (ordered Greater) (ordered (m.order y z)) (ordered Greater) (λ is. tt)
    ordering_chain s (node a us) (leaf y) (node c ws) f g h =
        let between = order_then (ordered (int_cmp (rank_at shapes s a) (rank_at shapes s c))) (ordering_of_parts m shapes by_total (part_shapes (structure_at shapes s) a (count us)) us ws) in
        chain_if (is_answered shapes trait.Ord s) (ordered Greater) (ordered Less) between (λ is. tt)
    ordering_chain s (node a us) (node b vs) (leaf z) f g h =
        let between = order_then (ordered (int_cmp (rank_at shapes s a) (rank_at shapes s b))) (ordering_of_parts m shapes by_total (part_shapes (structure_at shapes s) a (count us)) us vs) in
        chain_if (is_answered shapes trait.Ord s) between (ordered Greater) (ordered Greater) (λ is. greater_after between (ordered Greater))
    ordering_chain s (node a us) (node b vs) (node c ws) f g h =
        let ra = rank_at shapes s a in
        let rb = rank_at shapes s b in
        let rc = rank_at shapes s c in
        let ss = part_shapes (structure_at shapes s) a (count us) in
        let ts = part_shapes (structure_at shapes s) b (count vs) in
        let rs = part_shapes (structure_at shapes s) c (count ws) in
        let uv = ordering_of_parts m shapes by_total ss us vs in
        let vw = ordering_of_parts m shapes by_total ts vs ws in
        let uw = ordering_of_parts m shapes by_total ss us ws in
        chain_if (is_answered shapes trait.Ord s) (order_then (ordered (int_cmp ra rb)) uv) (order_then (ordered (int_cmp rb rc)) vw) (order_then (ordered (int_cmp ra rc)) uw)
        (λ is. chain_then (ordered (int_cmp ra rb)) (ordered (int_cmp rb rc)) (ordered (int_cmp ra rc)) uv vw uw (chain_total int_cmp_total ra rb rc)
        (λ same next. parts_chain ss ts rs us vs ws (alike_of s a b (count us) (count vs) f.0 g.0 (ranks_same ra rb same))
        (alike_of s b c (count vs) (count ws) g.0 h.0 (ranks_same rb rc next)) f.1 g.1 h.1))

    parts_chain : (ss ts rs : List ℕ) (us vs ws : Values L) → Alike ss ts → Alike ts rs → AllFit m shapes ss us → AllFit m shapes ts vs → AllFit m shapes rs ws
        → Chain (ordering_of_parts m shapes by_total ss us vs) (ordering_of_parts m shapes by_total ts vs ws) (ordering_of_parts m shapes by_total ss us ws)
    parts_chain ss ts rs none none none ab bc f g h = refl
    parts_chain ss ts rs none none (more w ws) ab bc f g h = refl
    parts_chain ss ts rs none (more v vs) none ab bc f g h = tt
    parts_chain ss ts rs none (more v vs) (more w ws) ab bc f g h = less_before (ordering_of_parts m shapes by_total ts (more v vs) (more w ws))
    parts_chain ss ts rs (more u us) none none ab bc f g h = tt
    parts_chain ss ts rs (more u us) none (more w ws) ab bc f g h = tt
    parts_chain ss ts rs (more u us) (more v vs) none ab bc f g h = greater_after (ordering_of_parts m shapes by_total ss (more u us) (more v vs)) (ordered Greater)
    parts_chain [] ts rs (more u us) (more v vs) (more w ws) ab bc f g h = absurd f
    parts_chain (a ∷ ss) [] rs (more u us) (more v vs) (more w ws) ab bc f g h = absurd g
    parts_chain (a ∷ ss) (b ∷ ts) [] (more u us) (more v vs) (more w ws) ab bc f g h = absurd h
    parts_chain (a ∷ ss) (b ∷ ts) (c ∷ rs) (more u us) (more v vs) (more w ws) ab bc f g h =
        let uv = ordering_of_parts m shapes by_total ss us vs in
        let vw = ordering_of_parts m shapes by_total ts vs ws in
        let uw = ordering_of_parts m shapes by_total ss us ws in
        let first = ordering_chain a u v w f.0 (fits_alike a b v ab.0 g.0) (fits_alike a c w (ab.0 ∙ bc.0) h.0) in
        let next = ordering m shapes by_total a v w in
        subst (λ t. Chain (order_then (ordering m shapes by_total a u v) uv) (order_then (ordering m shapes by_total t v w) vw) (order_then (ordering m shapes by_total a u w) uw)) ab.0
        (chain_then (ordering m shapes by_total a u v) next (ordering m shapes by_total a u w) uv vw uw first (λ same also. parts_chain ss ts rs us vs ws ab.1 bc.1 f.1 g.1 h.1))

  mutual
    unfolding ordering ordering_of_parts

    -- an order answers where each shape that is reached has it, the total one by an order
    pub ordering_answers : (which : Which) (s : ℕ) (v w : Value L) → AllOffer shapes (capability_of which) s → Fits m shapes s v → Fits m shapes s w → IsAnswer which (ordering m shapes which s v w)
    ordering_answers which s (leaf x) (leaf y) all fits also =
        answer_there which (is_answered shapes (capability_of which) s) (Some (order_of_leaves m which x y)) (answered s (leaf x) which fits all) (leaf_answer m which x y)
    ordering_answers which s (leaf x) (node other ws) all fits also =
        answer_there which (is_answered shapes (capability_of which) s) (ordered Less) (answered s (leaf x) which fits all) (ordered_answer which Less)
    ordering_answers which s (node form vs) (leaf y) all fits also =
        answer_there which (is_answered shapes (capability_of which) s) (ordered Greater) (answered s (node form vs) which fits all) (ordered_answer which Greater)
    ordering_answers which s (node form vs) (node other ws) all fits also =
        let ranks = int_cmp (rank_at shapes s form) (rank_at shapes s other) in
        let ss = part_shapes (structure_at shapes s) form (count vs) in
        let ts = part_shapes (structure_at shapes s) other (count ws) in
        let parts = ordering_of_parts m shapes which ss vs ws in
        answer_there which (is_answered shapes (capability_of which) s) (order_then (ordered ranks) parts) (answered s (node form vs) which fits all)
        (answer_then which (ordered ranks) parts (ordered_answer which ranks)
        (λ same. parts_answer which ss ts vs ws (alike_of s form other (count vs) (count ws) fits.0 also.0 (ranks_same (rank_at shapes s form) (rank_at shapes s other) same))
        (parts_offer shapes (capability_of which) s all form (count vs)) fits.1 also.1))

    parts_answer : (which : Which) (ss ts : List ℕ) (vs ws : Values L) → Alike ss ts → All (AllOffer shapes (capability_of which)) ss → AllFit m shapes ss vs → AllFit m shapes ts ws
        → IsAnswer which (ordering_of_parts m shapes which ss vs ws)
    parts_answer which ss ts none none alike all fit also = ordered_answer which Equal
    parts_answer which ss ts none (more w ws) alike all fit also = ordered_answer which Less
    parts_answer which ss ts (more v vs) none alike all fit also = ordered_answer which Greater
    parts_answer which [] ts (more v vs) (more w ws) alike all fit also = absurd fit
    parts_answer which (s ∷ ss) [] (more v vs) (more w ws) alike all fit also = absurd also
    parts_answer which (s ∷ ss) (t ∷ ts) (more v vs) (more w ws) alike all fit also =
        let each = AllOffer shapes (capability_of which) in
        answer_then which (ordering m shapes which s v w) (ordering_of_parts m shapes which ss vs ws)
        (ordering_answers which s v w (All-head each s ss all) fit.0 (fits_alike s t w alike.0 also.0))
        (λ same. parts_answer which ss ts vs ws alike.1 (All-tail each s ss all) fit.1 also.1)

  -- the total order of a value and itself
  pub ordering_reflexive : (s : ℕ) (v : Value L) → AllOffer shapes trait.Ord s → Fits m shapes s v → ordering m shapes by_total s v v ≡ ordered Equal
  ordering_reflexive s v all fits =
      let answer = ordering_answers by_total s v v all fits fits in
      answer.is ∙ ap ordered (own_reverse answer.order (sym answer.is ∙ ordering_reversed by_total s v v fits fits ∙ ap reversed answer.is))

  -- a test on ranks that is met tells that parts are alike
  alike_met : (s : ℕ) (form other : Form) (n k : ℕ) → HasForm (structure_at shapes s) form → HasForm (structure_at shapes s) other → (int_eq (rank_at shapes s form) (rank_at shapes s other) && (n == k)) ≡ true
      → Alike (part_shapes (structure_at shapes s) form n) (part_shapes (structure_at shapes s) other k)
  alike_met s form other n k has also met =
      alike_of s form other n k has also ((Decides-int_eq (rank_at shapes s form) (rank_at shapes s other)).0 (and_parts (int_eq (rank_at shapes s form) (rank_at shapes s other)) (n == k) met).0)

  mutual
    unfolding equality equality_of_parts

    -- equality is symmetric, also where there is no answer
    pub equality_symmetric : (s : ℕ) (v w : Value L) → Fits m shapes s v → Fits m shapes s w → equality m shapes s w v ≡ equality m shapes s v w
    equality_symmetric s (leaf x) (leaf y) fits also =
        same_if (is_answered shapes trait.PartialEq s) (Some (m.same x y)) (Some (m.same y x))
        (λ is. ap Some (sym (laws.same_symmetric x y (have_leaves m shapes well s x y fits also trait.PartialEq tt is))))
    equality_symmetric s (leaf x) (node other ws) fits also = refl
    equality_symmetric s (node form vs) (leaf y) fits also = refl
    equality_symmetric s (node form vs) (node other ws) fits also =
        let n = count vs in
        let k = count ws in
        let test = int_eq (rank_at shapes s form) (rank_at shapes s other) && (n == k) in
        let test_back = int_eq (rank_at shapes s other) (rank_at shapes s form) && (k == n) in
        let ss = part_shapes (structure_at shapes s) form n in
        let ts = part_shapes (structure_at shapes s) other k in
        let ours = equality_of_parts m shapes ss vs ws in
        let theirs = equality_of_parts m shapes ts ws vs in
        same_if (is_answered shapes trait.PartialEq s) (if test then ours else Some false) (if test_back then theirs else Some false)
        (λ is. ap (λ b. if b then theirs else Some false) (tests_back (rank_at shapes s form) (rank_at shapes s other) n k)
        ∙ same_tests test ours theirs (λ met. parts_symmetric ss ts vs ws (alike_met s form other n k fits.0 also.0 met) fits.1 also.1))

    parts_symmetric : (ss ts : List ℕ) (vs ws : Values L) → Alike ss ts → AllFit m shapes ss vs → AllFit m shapes ts ws → equality_of_parts m shapes ts ws vs ≡ equality_of_parts m shapes ss vs ws
    parts_symmetric [] [] vs ws alike fit also = refl
    parts_symmetric [] (t ∷ ts) none none alike fit also = refl
    parts_symmetric [] (t ∷ ts) none (more w ws) alike fit also = refl
    parts_symmetric [] ts (more v vs) ws alike fit also = absurd fit
    parts_symmetric (s ∷ ss) [] none none alike fit also = refl
    parts_symmetric (s ∷ ss) [] (more v vs) none alike fit also = refl
    parts_symmetric (s ∷ ss) ts none (more w ws) alike fit also = absurd fit
    parts_symmetric (s ∷ ss) [] (more v vs) (more w ws) alike fit also = absurd also
    parts_symmetric (s ∷ ss) (t ∷ ts) none none alike fit also = absurd fit
    parts_symmetric (s ∷ ss) (t ∷ ts) (more v vs) none alike fit also = absurd also
    parts_symmetric (s ∷ ss) (t ∷ ts) (more v vs) (more w ws) alike fit also =
        let rest_back = equality_of_parts m shapes ts ws vs in
        ap (λ u. equal_then (equality m shapes u w v) rest_back) (sym alike.0)
        ∙ ap (λ answer. equal_then answer rest_back) (equality_symmetric s v w fit.0 (fits_alike s t w alike.0 also.0))
        ∙ same_then (equality m shapes s v w) (equality_of_parts m shapes ss vs ws) rest_back (λ same. parts_symmetric ss ts vs ws alike.1 fit.1 also.1)

  mutual
    unfolding equality equality_of_parts

    -- equality answers where each shape that is reached has it
    pub equality_answers : (s : ℕ) (v w : Value L) → AllOffer shapes trait.PartialEq s → Fits m shapes s v → Fits m shapes s w → IsSome (equality m shapes s v w)
    equality_answers s (leaf x) (leaf y) all fits also =
        there_if (is_answered shapes trait.PartialEq s) (Some (m.same x y)) (is_there m shapes well s (some_fits m shapes s (leaf x) fits) trait.PartialEq tt all) refl
    equality_answers s (leaf x) (node other ws) all fits also =
        there_if (is_answered shapes trait.PartialEq s) (Some false) (is_there m shapes well s (some_fits m shapes s (leaf x) fits) trait.PartialEq tt all) refl
    equality_answers s (node form vs) (leaf y) all fits also =
        there_if (is_answered shapes trait.PartialEq s) (Some false) (is_there m shapes well s (some_fits m shapes s (node form vs) fits) trait.PartialEq tt all) refl
    equality_answers s (node form vs) (node other ws) all fits also =
        let test = int_eq (rank_at shapes s form) (rank_at shapes s other) && (count vs == count ws) in
        let ss = part_shapes (structure_at shapes s) form (count vs) in
        let ts = part_shapes (structure_at shapes s) other (count ws) in
        let parts = equality_of_parts m shapes ss vs ws in
        there_if (is_answered shapes trait.PartialEq s) (if test then parts else Some false) (is_there m shapes well s (some_fits m shapes s (node form vs) fits) trait.PartialEq tt all)
        (there_else_false test parts
        (λ met. equalities_answer ss ts vs ws (alike_met s form other (count vs) (count ws) fits.0 also.0 met) (parts_offer shapes trait.PartialEq s all form (count vs)) fits.1 also.1))

    equalities_answer : (ss ts : List ℕ) (vs ws : Values L) → Alike ss ts → All (AllOffer shapes trait.PartialEq) ss → AllFit m shapes ss vs → AllFit m shapes ts ws
        → IsSome (equality_of_parts m shapes ss vs ws)
    equalities_answer [] ts vs ws alike all fit also = refl
    equalities_answer (s ∷ ss) ts none ws alike all fit also = absurd fit
    equalities_answer (s ∷ ss) ts (more v vs) none alike all fit also = refl
    equalities_answer (s ∷ ss) [] (more v vs) (more w ws) alike all fit also = absurd also
    equalities_answer (s ∷ ss) (t ∷ ts) (more v vs) (more w ws) alike all fit also =
        let each = AllOffer shapes trait.PartialEq in
        equal_then_there (equality m shapes s v w) (equality_of_parts m shapes ss vs ws)
        (equality_answers s v w (All-head each s ss all) fit.0 (fits_alike s t w alike.0 also.0))
        (λ same. equalities_answer ss ts vs ws alike.1 (All-tail each s ss all) fit.1 also.1)

  mutual
    unfolding ordering ordering_of_parts equality equality_of_parts

    -- an order is Equal exactly where the values are equal
    orders_agree : (which : Which) (s : ℕ) (v w : Value L) → AllOffer shapes (capability_of which) s → AllOffer shapes trait.PartialEq s → Fits m shapes s v → Fits m shapes s w
        → Agree (ordering m shapes which s v w) (equality m shapes s v w)
    orders_agree which s (leaf x) (leaf y) all equal fits also =
        let is = answered s (leaf x) which fits all in
        agree_if (is_answered shapes (capability_of which) s) (is_answered shapes trait.PartialEq s) (Some (order_of_leaves m which x y)) (Some (m.same x y)) is
        (is_there m shapes well s (some_fits m shapes s (leaf x) fits) trait.PartialEq tt equal)
        (leaf_agrees m laws which x y (have_leaves m shapes well s x y fits also (capability_of which) (comparison_of which) is))
    orders_agree which s (leaf x) (node other ws) all equal fits also =
        agree_if (is_answered shapes (capability_of which) s) (is_answered shapes trait.PartialEq s) (ordered Less) (Some false) (answered s (leaf x) which fits all)
        (is_there m shapes well s (some_fits m shapes s (leaf x) fits) trait.PartialEq tt equal) tt
    orders_agree which s (node form vs) (leaf y) all equal fits also =
        agree_if (is_answered shapes (capability_of which) s) (is_answered shapes trait.PartialEq s) (ordered Greater) (Some false) (answered s (node form vs) which fits all)
        (is_there m shapes well s (some_fits m shapes s (node form vs) fits) trait.PartialEq tt equal) tt
    orders_agree which s (node form vs) (node other ws) all equal fits also =
        let r = rank_at shapes s form in
        let r' = rank_at shapes s other in
        let n = count vs in
        let k = count ws in
        let ss = part_shapes (structure_at shapes s) form n in
        let ts = part_shapes (structure_at shapes s) other k in
        let parts = ordering_of_parts m shapes which ss vs ws in
        let equal_parts = equality_of_parts m shapes ss vs ws in
        agree_if (is_answered shapes (capability_of which) s) (is_answered shapes trait.PartialEq s) (order_then (ordered (int_cmp r r')) parts) (if int_eq r r' && (n == k) then equal_parts else Some false)
        (answered s (node form vs) which fits all) (is_there m shapes well s (some_fits m shapes s (node form vs) fits) trait.PartialEq tt equal)
        (agree_ranks (int_cmp r r') (n == k) parts equal_parts
        (λ same. parts_agree which (n == k) ss ts vs ws refl (alike_of s form other n k fits.0 also.0 (int_same r r' same))
        (parts_offer shapes (capability_of which) s all form n) (parts_offer shapes trait.PartialEq s equal form n) fits.1 also.1))

    parts_agree : (which : Which) (test : Bool) (ss ts : List ℕ) (vs ws : Values L) → (count vs == count ws) ≡ test → Alike ss ts
        → All (AllOffer shapes (capability_of which)) ss → All (AllOffer shapes trait.PartialEq) ss → AllFit m shapes ss vs → AllFit m shapes ts ws
        → Agree (ordering_of_parts m shapes which ss vs ws) (if test then equality_of_parts m shapes ss vs ws else Some false)
    parts_agree which true [] ts none none is alike all equal fit also = tt
    parts_agree which true (s ∷ ss) ts none none is alike all equal fit also = absurd fit
    parts_agree which false ss ts none none is alike all equal fit also = absurd (cc)
    parts_agree which true ss ts none (more w ws) is alike all equal fit also = absurd (never_more (count ws) is)
    parts_agree which false ss ts none (more w ws) is alike all equal fit also = tt
    parts_agree which true ss ts (more v vs) none is alike all equal fit also = absurd (never_none (count vs) is)
    parts_agree which false ss ts (more v vs) none is alike all equal fit also = tt
    parts_agree which test [] ts (more v vs) (more w ws) is alike all equal fit also = absurd fit
    parts_agree which test (s ∷ ss) [] (more v vs) (more w ws) is alike all equal fit also = absurd also
    parts_agree which test (s ∷ ss) (t ∷ ts) (more v vs) (more w ws) is alike all equal fit also =
        let each = AllOffer shapes (capability_of which) in
        let each_equal = AllOffer shapes trait.PartialEq in
        agree_then test (ordering m shapes which s v w) (ordering_of_parts m shapes which ss vs ws) (equality m shapes s v w) (equality_of_parts m shapes ss vs ws)
        (orders_agree which s v w (All-head each s ss all) (All-head each_equal s ss equal) fit.0 (fits_alike s t w alike.0 also.0))
        (λ same. parts_agree which test ss ts vs ws (test_less (count vs) (count ws) test is) alike.1 (All-tail each s ss all) (All-tail each_equal s ss equal) fit.1 also.1)

  -- where each shape that is reached has an order, it is Equal exactly where the values are equal
  pub ordering_agrees : (which : Which) (s : ℕ) (v w : Value L) → AllOffer shapes (capability_of which) s → Fits m shapes s v → Fits m shapes s w → Agree (ordering m shapes which s v w) (equality m shapes s v w)
  ordering_agrees which s v w all fits also = orders_agree which s v w all (all_offer_equality m shapes well which s all) fits also
