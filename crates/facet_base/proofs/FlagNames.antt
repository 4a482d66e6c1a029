-- The names of a flag set, as they are written one after another.
use Rattle.std.proofs.Common.{refl, ◌≡◌, ◌∙◌, sym, ap, ℕ, suc, ◌+◌, ◌<◌, Bool, true, false, List, [], ◌∷◌, ◌++◌, map, filter, take, get_or, length, codes, arith, if◌then◌else◌, append-nil, subst}
use Rattle.std.proofs.lemmas.List.{flat_map_more, map-append}
use Rattle.std.proofs.lemmas.List.Elements.{filter-append}
use Rattle.std.proofs.Math.ListN.{get_or-map, length-map}
use Rattle.std.proofs.Math.Seq.{take-suc}
use Rattle.std.proofs.lemmas.Grind.{put_two}
use Rattle.std.specs.Fmt.{HasWritten}
use Rattle.std.specs.declared.fmt.Formatter.{Formatter}
use Rattle.bitflags.specs.Sets.{Row}
use Rattle.facet_base.specs.Flags.{contains_flag, contained_names, joined}

-- the names with ` | ` between them
abbrev pub begun : List (List ℕ) → List ℕ
begun [] = []
begun (name ∷ names) = joined (name ∷ names)

-- whether there is no name
abbrev pub is_nil : List (List ℕ) → Bool
is_nil [] = true
is_nil (name ∷ names) = false

-- behind the names stands one more
one_more_begun : (names : List (List ℕ)) (name : List ℕ) →
    begun names ++ (if is_nil names then name else codes " | " ++ name) ≡ begun (names ++ name ∷ [])
one_more_begun [] name = sym (append-nil name)
one_more_begun (first ∷ names) name = flat_map_more (λ next. codes " | " ++ next) first names name

-- one name more is written
pub one_more_written : {W : Type 0} (took : W → List ℕ → W → Type 0) (f g h : Formatter W) (names : List (List ℕ)) (name : List ℕ) (first : Bool) → first ≡ is_nil names →
    HasWritten took f (begun names) g → HasWritten took g (if first then name else codes " | " ++ name) h → HasWritten took f (begun (names ++ name ∷ [])) h
one_more_written took f g h names name first is so_far next =
    put_two took f g h _ _ _ so_far next (ap (λ b. begun names ++ (if b then name else codes " | " ++ name)) is ∙ one_more_begun names name)

-- with one name more there is a name
pub one_more_is_some : (names : List (List ℕ)) (name : List ℕ) → is_nil (names ++ name ∷ []) ≡ false
one_more_is_some [] name = refl
one_more_is_some (first ∷ names) name = refl

-- the names of the rows up to the next
module _ (table : List Row) (set i : ℕ) (row : Row) (within : i < length table) (at : get_or table i row ≡ row) where
  rows : take (i + 1) table ≡ take i table ++ row ∷ []
  rows = let e : i + 1 ≡ suc i = omega arith in
      ap (λ n. take n table) e ∙ take-suc table i row within ∙ ap (λ r. take i table ++ r ∷ []) at

  names : contained_names (take (i + 1) table) set ≡ contained_names (take i table) set ++ contained_names (row ∷ []) set
  names = ap (λ t. contained_names t set) rows ∙ ap (map (λ r. r.0)) (filter-append (λ r. contains_flag set r.1) (take i table) (row ∷ []))
      ∙ map-append (λ r. r.0) (filter (λ r. contains_flag set r.1) (take i table)) (filter (λ r. contains_flag set r.1) (row ∷ []))

  pub contained_row_adds_its_name : (test : Bool) → test ≡ contains_flag set row.1 → test ≡ true → contained_names (take (i + 1) table) set ≡ contained_names (take i table) set ++ row.0 ∷ []
  contained_row_adds_its_name test is so = let contained : contains_flag set row.1 ≡ true = sym is ∙ so in names ∙ rw contained refl

  pub missing_row_adds_none : (test : Bool) → test ≡ contains_flag set row.1 → test ≡ false → contained_names (take (i + 1) table) set ≡ contained_names (take i table) set
  missing_row_adds_none test is so = let missing : contains_flag set row.1 ≡ false = sym is ∙ so in names ∙ rw missing (append-nil _)

-- the row of an item of the table
pub row_of_item : {X : Type 0} (f : X → Row) (xs : List X) (table : List Row) (i : ℕ) (x : X) → map f xs ≡ table → i < length xs → x ≡ get_or xs i x →
    (i < length table) × (get_or table i (f x) ≡ f x)
row_of_item f xs table i x e within at = (
  subst (λ t. i < length t) e (omega (arith, length-map xs f, within)),
  subst (λ t. get_or t i (f x) ≡ f x) e (get_or-map f xs i x ∙ ap f (sym at)),
)
