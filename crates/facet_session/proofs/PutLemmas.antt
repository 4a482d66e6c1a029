-- The turns of `put`.
use Rattle.std.proofs.Common.{◌≡◌, ℕ, ◌<◌, List, [], ◌∷◌, ◌++◌, Bool, not, cond, length, Option, None, Some, IsTrue, IfSome, bytes_eq, codes, count_by, refl, sym, ap, ◌∙◌, subst, arith}
use Rattle.std.specs.List.{list_any}
use Rattle.std.proofs.lemmas.Bool.{leb-false, not-false}
use Rattle.std.proofs.lemmas.List.{append-nil}
use Rattle.std.proofs.lemmas.List.Concat.{flat_map-append}
use Rattle.facet_base.proofs.Lists.{count_by_append}
use Rattle.facet_base.specs.declared.characteristic.Characteristic.TheVariants as characteristic
use Rattle.facet_leaf.specs.LeafLaws.{LeafLaws}
use Rattle.facet_leaf.specs.LeafModel.{LeafModel}
use Rattle.facet_block.specs.Block.{size_of}
use Rattle.facet_registry.specs.Registry.{kind_at, size_at, offers}
use Rattle.facet_shape.specs.declared.shape.Shape.{Shape}
use Rattle.facet_outline.specs.declared.value_kind.ValueKind.{ValueKind}
use Rattle.facet_outline.specs.declared.value_kind.ValueKind.TheVariants as kind
use Rattle.facet_values.proofs.LeafReading.{leaf_block_size, reads_leaf}
use Rattle.facet_values.specs.Place.{leaf_block, start_of}
use Rattle.facet_values.specs.Reading.{Reads}
use Rattle.facet_trees.specs.Value.{leaf, leaves}
use Rattle.facet_values.specs.Scalars.{is_scalar}
use Rattle.facet_session.specs.declared.session.Session.{Session}
use Rattle.facet_session.specs.declared.session.Cell.{Cell}
use Rattle.facet_session.specs.declared.session.Answer.{Answer}
use Rattle.facet_session.specs.declared.refusal.Refusal.{Refusal}
use Rattle.facet_session.specs.declared.refusal.Refusal.TheVariants.{NoSuchShape, Taken, WrongShape, BadText, Unsupported}
use Rattle.facet_session.specs.Refusal.{first_refusal, is_unsealed, is_taken}
use Rattle.facet_session.specs.Session.{ShowsEntry, ShowEntries, Shows, CarriesOut}
use Rattle.facet_session.specs.State.{Entry, State, leaves_of_entries}
use Rattle.facet_session.specs.Turn.{refused, refused_or, listed}
use Rattle.facet_session.specs.commands.Put.{conditions, parsed_as, add_parsed, put}
use Rattle.facet_session.proofs.ShownSessions.{show_more, taken_shown}
use Rattle.facet_session.proofs.TurnLaws.{TurnLaws, one_line, refused_laws, refused_or_laws}
use Rattle.facet_session.proofs.TurnLemmas.{none_holds}

-- a shape that no condition refuses is sealed, and its record has parse
pub served : (shapes : List Shape) (taken : Bool) (s : ℕ) → None ≡ first_refusal (conditions shapes taken s) → (s < length shapes) × IsTrue (offers shapes s characteristic.FromStr)
served shapes taken s none =
    let scalar = is_scalar (kind_at shapes s) in
    let parses = offers shapes s characteristic.FromStr in
    let last : Option Refusal = cond (not parses) (Some Unsupported) None in
    let later : Option Refusal = cond (not scalar) (Some WrongShape) last in
    let known = none_holds (is_unsealed shapes s) NoSuchShape (cond taken (Some Taken) later) none in
    let free = none_holds taken Taken later known.1 in
    let right = none_holds (not scalar) WrongShape last free.1 in
    (leb-false (length shapes) s known.0, not-false parses (none_holds (not parses) Unsupported None right.1).0)

module _ {L : Type 0} (m : LeafModel L) where
  -- what is parsed is a leaf of the kind of the shape
  pub parsed_kind : LeafLaws m → (of : ValueKind) (text : List ℕ) (x : L) → Some x ≡ parsed_as m of text → of ≡ kind.Leaf (m.kind x)
  parsed_kind laws (kind.Leaf k) text x is = ap kind.Leaf (sym (subst (λ found. IfSome found (λ y. m.kind y ≡ k)) (sym is) (laws.parsed_kind k text)))
  parsed_kind laws _ text x is = absurd (cc)

  module _ (session : Session L) (name : List ℕ) (s : ℕ) (text : List ℕ) (state : State L) (shown : Shows m session state) where
    -- the refusal of a session is that of each state that it shows
    refusal_shown : first_refusal (conditions session.shapes.sealed (list_any (λ cell. bytes_eq cell.name name) session.cells.items) s) ≡ first_refusal (conditions state.registry.sealed (is_taken state name) s)
    refusal_shown =
        ap (λ r. first_refusal (conditions r.sealed (list_any (λ cell. bytes_eq cell.name name) session.cells.items) s)) shown.registry
        ∙ ap (λ t. first_refusal (conditions state.registry.sealed t s)) (taken_shown m state.registry.sealed session.cells.items state.entries name shown.cells)

    pub put_refused : (refusal : Refusal) → Some refusal ≡ first_refusal (conditions session.shapes.sealed (list_any (λ cell. bytes_eq cell.name name) session.cells.items) s)
        → put m state name s text ≡ refused state refusal
    put_refused refusal is =
        ap (λ found. refused_or state found (add_parsed state name s (parsed_as m (kind_at state.registry.sealed s) text))) (sym (is ∙ refusal_shown))

    pub put_parsed : (parsed : Option L) → None ≡ first_refusal (conditions session.shapes.sealed (list_any (λ cell. bytes_eq cell.name name) session.cells.items) s)
        → parsed ≡ parsed_as m (kind_at session.shapes.sealed s) text → put m state name s text ≡ add_parsed state name s parsed
    put_parsed parsed none is =
        ap (λ found. refused_or state found (add_parsed state name s (parsed_as m (kind_at state.registry.sealed s) text))) (sym (none ∙ refusal_shown))
        ∙ ap (λ r. add_parsed state name s (parsed_as m (kind_at r.sealed s) text)) (sym shown.registry)
        ∙ ap (add_parsed state name s) (sym is)

  -- a cell whose block has a leaf at its start shows an entry of that leaf
  entry_shown : (shapes : List Shape) (cell : Cell L) (x : L) → cell.shape.0 < length shapes → kind_at shapes cell.shape.0 ≡ kind.Leaf (m.kind x) → 0 < size_at shapes cell.shape.0
      → cell.block ≡ leaf_block (size_at shapes cell.shape.0) x → ShowsEntry m shapes cell (record { name = cell.name; shape = cell.shape.0; value = leaf x })
  entry_shown shapes cell x sealed of some block =
      let s = cell.shape.0 in
      record {
        name = refl;
        shape = refl;
        sealed = sealed;
        size = ap size_of block ∙ leaf_block_size x (size_at shapes s);
        reads = subst (λ b. Reads m shapes (start_of s b) (leaf x)) (sym block) (reads_leaf m shapes s x of some);
        shallow = omega arith;
      }

  -- a session with such a cell more carries out a `put` of the leaf
  pub leaf_carried : (before now : Session L) (answer : Answer) (cell : Cell L) (x : L) → cell.shape.0 < length before.shapes.sealed → kind_at before.shapes.sealed cell.shape.0 ≡ kind.Leaf (m.kind x) → 0 < size_at before.shapes.sealed cell.shape.0
      → cell.block ≡ leaf_block (size_at before.shapes.sealed cell.shape.0) x → now.shapes ≡ before.shapes → now.cells.items ≡ before.cells.items ++ cell ∷ [] → now.log.leaves ≡ []
      → answer.text ≡ codes "ok" ++ listed m (codes " made [") (x ∷ []) → answer.made ≡ 1 → answer.dropped ≡ 0
      → (state : State L) → Shows m before state → CarriesOut m now answer (add_parsed state cell.name cell.shape.0 (Some x))
  leaf_carried before now answer cell x sealed of some block shapes cells empty text made dropped state shown = record {
    text = text ∙ sym (append-nil (codes "ok" ++ listed m (codes " made [") (x ∷ [])));
    made = made;
    dropped = dropped;
    state = record {
      registry = shapes ∙ shown.registry;
      cells =
          let entry : Entry L = record { name = cell.name; shape = cell.shape.0; value = leaf x } in
          let one = subst (λ r. ShowsEntry m r.sealed cell entry) shown.registry (entry_shown before.shapes.sealed cell x sealed of some block) in
          subst (λ cs. ShowEntries m state.registry.sealed cs (state.entries ++ entry ∷ [])) (sym cells) (show_more m state.registry.sealed before.cells.items state.entries cell entry shown.cells one);
    };
    log = empty;
  }

-- the laws of turns
add_parsed_laws : {L : Type 0} (state : State L) (name : List ℕ) (s : ℕ) (parsed : Option L) → TurnLaws state (add_parsed state name s parsed)
add_parsed_laws state name s None = refused_laws state BadText
add_parsed_laws {L} state name s (Some x) =
    let entry : Entry L = record { name = name; shape = s; value = leaf x } in
    record {
      balance = λ p.
          let more = ap (count_by p) (flat_map-append (λ (e : Entry L). leaves e.value) state.entries (entry ∷ [])) ∙ count_by_append p (leaves_of_entries state.entries) (x ∷ []) in
          omega (arith, more);
      words = one_line (codes "ok") refl;
    }

pub put_laws : {L : Type 0} (m : LeafModel L) (state : State L) (name : List ℕ) (s : ℕ) (text : List ℕ) → TurnLaws state (put m state name s text)
put_laws m state name s text =
    refused_or_laws state _ _ (add_parsed_laws state name s (parsed_as m (kind_at state.registry.sealed s) text))
