-- Options are read from their words, and written as these.
use Rattle.std.proofs.Common.{◌≡◌, ◌≢◌, ℕ, suc, ◌+◌, ◌<◌, ◌≤◌, ◌^◌, true, false, not, cond, List, [], ◌∷◌, ◌++◌, take, drop, length, Option, None, Some, option_map, MatchOption, Bor, refl, sym, ap, ◌∙◌, subst, ⊎_elim, arith, nat_eq}
use Rattle.std.specs.Fmt.{decimal}
use Rattle.std.specs.List.{after_first, before_first, list_all, position_or_len}
use Rattle.std.specs.Option.{option_and_then, option_copied, option_or}
use Rattle.std.specs.Str.Pattern.{FindsTextPrefix, StripsPrefix}
use Rattle.std.proofs.Math.Seq.{take-append_seam, drop-append-add}
use Rattle.std.proofs.Math.ListN.{drop_of_length-le}
use Rattle.std.proofs.lemmas.Bool.Decides.{nat_tests}
use Rattle.std.proofs.lemmas.Bool.{and_from, and_parts, cases_lt, cond-true, eq-eqb, eqb-true}
use Rattle.std.proofs.lemmas.List.Folds.{list_all-append}
use Rattle.std.proofs.lemmas.List.Sums.{passes_at_first, split_at_first}
use Rattle.std.proofs.lemmas.Option.{cond_some, option_and_then_some, same_Some}
use Rattle.facet_base.specs.declared.variance.Variance.TheVariants as variance
use Rattle.facet_desc.specs.declared.repr.BaseRepr.TheVariants as base
use Rattle.facet_base.specs.declared.variance_desc.VariancePosition.{VariancePosition}
use Rattle.facet_base.specs.declared.variance_desc.VariancePosition.TheVariants as position
use Rattle.facet_words.specs.declared.option_key.OptionKey.{OptionKey}
use Rattle.facet_words.specs.declared.option_key.OptionKey.TheVariants as key
use Rattle.facet_words.specs.declared.options.Opt.{Opt}
use Rattle.facet_words.specs.declared.options.Opt.TheVariants.{Repr, Packed, Id, Mod, Param, Base, Dep}
use Rattle.facet_words.specs.FixedWords.{base_of, variance_of}
use Rattle.facet_words.specs.Options.{IsOption, behind, dep_of, key_in, key_of, option_behind, option_keys, option_of, param_of, spell_behind, spell_option, word_of_key}
use Rattle.facet_words.specs.Paths.{is_colon, path_of}
use Rattle.facet_words.specs.Words.{is_empty, is_name, is_name_byte, number_of, reference_of}
use Rattle.facet_words.proofs.FixedTables.{base_read, base_spelled, variance_read, variance_spelled}
use Rattle.facet_words.proofs.Numbers.{decimal_number, map_some, number_spelled, reference_spelled, tested_some}
use Rattle.facet_words.proofs.Paths.{path_bytes, path_read, path_spelled}
use Rattle.facet_words.proofs.WordBytes.{IsWord, decimal_bytes, is_word, is_word_byte, name_bytes, word_tested}

-- beginnings

-- a word that begins so is the beginning and what stands behind it
pub behind_spelled : (front word rest : List ℕ) → behind front word ≡ Some rest → front ++ rest ≡ word
behind_spelled [] word rest e = sym (same_Some _ _ e)
behind_spelled (b ∷ front) [] rest e = let no : ⊥ = cc in absurd no
behind_spelled (b ∷ front) (c ∷ word) rest e =
    let found : (nat_eq c b ≡ true) × (behind front word ≡ Some rest) = tested_some _ _ _ e in
    (λ i. sym (eqb-true c b found.0) i ∷ behind_spelled front word rest found.1 i)

-- and the other way round
pub behind_front : (front rest : List ℕ) → behind front (front ++ rest) ≡ Some rest
behind_front [] rest = refl
behind_front (b ∷ front) rest = cond-true _ _ _ (eq-eqb b b refl) ∙ behind_front front rest

-- a word that doesn't begin so has nothing behind it
pub behind_none : (front word : List ℕ) → ((rest : List ℕ) → word ≢ front ++ rest) → None ≡ behind front word
behind_none front word h = by_rest (behind front word) refl
  where
    by_rest : (found : Option (List ℕ)) → behind front word ≡ found → None ≡ found
    by_rest None e = refl
    by_rest (Some rest) e = absurd (h rest (sym (behind_spelled front word rest e)))

-- what the code strips off a text
pub text_stripped : (front s : List ℕ) (r : Option (Bor (List ℕ))) → MatchOption r (FindsTextPrefix front s None) (λ x. StripsPrefix (FindsTextPrefix front) s x.now) → option_copied r ≡ behind front s
text_stripped front s None h = behind_none front s h
text_stripped front s (Some x) h = ap Some h.2 ∙ sym (ap (behind front) h.1.1 ∙ behind_front front (drop h.0 s))

-- a key that was found, and what stands behind it, are the word
key_spelled : (keys : List OptionKey) (word : List ℕ) (found : OptionKey × List ℕ) → key_in keys word ≡ Some found → word_of_key found.0 ++ found.1 ≡ word
key_spelled [] word found e = let no : ⊥ = cc in absurd no
key_spelled (k ∷ others) word found e =
    let cases : (rest : Option (List ℕ)) → behind (word_of_key k) word ≡ rest → option_or (option_map {U = OptionKey × List ℕ} (λ rest. (k, rest)) rest) (key_in others word) ≡ Some found → word_of_key found.0 ++ found.1 ≡ word =
    λ rest. elim rest as (λ rest. behind (word_of_key k) word ≡ rest → option_or (option_map {U = OptionKey × List ℕ} (λ rest. (k, rest)) rest) (key_in others word) ≡ Some found → word_of_key found.0 ++ found.1 ≡ word) [
      | None ↦ λ here more. key_spelled others word found more
      | Some rest ↦ λ here this.
          subst (λ (f : OptionKey × List ℕ). word_of_key f.0 ++ f.1 ≡ word) (same_Some _ _ this) (behind_spelled (word_of_key k) word rest here)
    ] in
    cases (behind (word_of_key k) word) refl e

-- a key is found where it was written
key_read : (k : OptionKey) (rest : List ℕ) → key_in option_keys (word_of_key k ++ rest) ≡ Some (k, rest)
key_read key.Repr rest = refl
key_read key.Packed rest = refl
key_read key.Id rest = refl
key_read key.Mod rest = refl
key_read key.Param rest = refl
key_read key.Base rest = refl
key_read key.Covariant rest = refl
key_read key.Contravariant rest = refl
key_read key.Invariant rest = refl

-- what stands behind a beginning

-- an option can be written, begins so, and has this word behind it
abbrev Stands : OptionKey → List ℕ → Opt → Type 0
Stands k word o = IsOption o × (key_of o ≡ k) × (spell_behind o ≡ word)

-- an empty word
nothing_behind : (word : List ℕ) → is_empty word ≡ true → [] ≡ word
nothing_behind [] h = refl
nothing_behind (b ∷ word) h = let no : ⊥ = cc in absurd no

-- a parameter that was read is a name, the first colon and a reference
param_spelled : (word : List ℕ) (o : Opt) → param_of word ≡ Some o → Stands key.Param word o
param_spelled word o e =
    let name = before_first is_colon word in
    let found : (is_name name ≡ true) × (option_map (λ n. Param name (record { 0 = n })) (reference_of (after_first is_colon word)) ≡ Some o) = tested_some _ _ _ e in
    let shape = map_some (λ n. Param name (record { 0 = n })) (reference_of (after_first is_colon word)) o found.1 in
    let reference = reference_spelled (after_first is_colon word) shape.0 shape.1 in
    subst (Stands key.Param word) shape.2 ((found.0, reference.1), refl, ap (λ back. name ++ 58 ∷ back) (sym reference.0) ∙ sym (cut shape.0 shape.1))
  where
    cut : (n : ℕ) → reference_of (after_first is_colon word) ≡ Some n → word ≡ before_first is_colon word ++ 58 ∷ after_first is_colon word
    cut n e = ⊎_elim inside outside (cases_lt (position_or_len is_colon word) (length word))
      where
        inside : position_or_len is_colon word < length word → word ≡ before_first is_colon word ++ 58 ∷ after_first is_colon word
        inside within =
            split_at_first is_colon word 0 within
            ∙ ap (λ b. before_first is_colon word ++ b ∷ after_first is_colon word) (eqb-true _ 58 (passes_at_first is_colon word 0 within))

        outside : length word ≤ position_or_len is_colon word → word ≡ before_first is_colon word ++ 58 ∷ after_first is_colon word
        outside past =
            let none : after_first is_colon word ≡ [] = drop_of_length-le word (omega arith) in
            let no : None ≡ Some n = ap reference_of (sym none) ∙ e in
            absurd cc

-- a dependency that was read, and its reference
dep_spelled : (p : VariancePosition) (word : List ℕ) (o : Opt) → dep_of p word ≡ Some o → (n : ℕ) × (Dep p (record { 0 = n }) ≡ o) × (n < 10 ^ 9) × (35 ∷ decimal n ≡ word)
dep_spelled p word o e =
    let shape = map_some (λ n. Dep p (record { 0 = n })) (reference_of word) o e in
    let reference = reference_spelled word shape.0 shape.1 in
    (shape.0, shape.2, reference.1, sym reference.0)

-- an option that was read stands as the word says
stands : (k : OptionKey) (word : List ℕ) (o : Opt) → option_behind k word ≡ Some o → Stands k word o
stands key.Repr word o e =
    let found = map_some Repr (base_of word) o e in
    subst (Stands key.Repr word) found.2 (tt, refl, base_spelled word found.0 found.1)
stands key.Packed word o e =
    let found = cond_some (is_empty word) Packed o e in
    subst (Stands key.Packed word) found.1 (tt, refl, nothing_behind word found.0)
stands key.Id word o e =
    let found = map_some Id (number_of word) o e in
    let number = number_spelled word found.0 found.1 in
    subst (Stands key.Id word) found.2 (number.1, refl, sym number.0)
stands key.Mod word o e =
    let found = map_some Mod (path_of word) o e in
    let path = path_spelled word found.0 found.1 in
    subst (Stands key.Mod word) found.2 (path.0, refl, path.1)
stands key.Param word o e = param_spelled word o e
stands key.Base word o e =
    let found = map_some Base (variance_of word) o e in
    subst (Stands key.Base word) found.2 (tt, refl, variance_spelled word found.0 found.1)
stands key.Covariant word o e =
    let found = dep_spelled position.Covariant word o e in
    subst (Stands key.Covariant word) found.1 (found.2, refl, found.3)
stands key.Contravariant word o e =
    let found = dep_spelled position.Contravariant word o e in
    subst (Stands key.Contravariant word) found.1 (found.2, refl, found.3)
stands key.Invariant word o e =
    let found = dep_spelled position.Invariant word o e in
    subst (Stands key.Invariant word) found.1 (found.2, refl, found.3)

-- a name has no colon
name_colon : (b : ℕ) → is_name_byte b ≡ true → is_colon b ≡ false
name_colon b h = grind (arith, nat_tests)

-- the colon behind a name is the first
colon_behind : (name back : List ℕ) → list_all is_name_byte name ≡ true → position_or_len is_colon (name ++ 58 ∷ back) ≡ length name
colon_behind [] back h = refl
colon_behind (b ∷ name) back h =
    let parts : (is_name_byte b ≡ true) × (list_all is_name_byte name ≡ true) = and_parts _ _ h in
    let behind : position_or_len is_colon (name ++ 58 ∷ back) ≡ length name = colon_behind name back parts.1 in
    let more : 1 + position_or_len is_colon (name ++ 58 ∷ back) ≡ suc (length name) = omega (arith, behind) in
    ap (λ t. cond (not t) (1 + position_or_len is_colon (name ++ 58 ∷ back)) 0) (name_colon b parts.0) ∙ more

-- a parameter is read from its name and its reference
param_read : (name : List ℕ) (n : ℕ) → is_name name ≡ true → n < 10 ^ 9 → param_of (name ++ 58 ∷ 35 ∷ decimal n) ≡ Some (Param name (record { 0 = n }))
param_read name n named small =
    let word = name ++ 58 ∷ 35 ∷ decimal n in
    let at : position_or_len is_colon word ≡ length name = colon_behind name (35 ∷ decimal n) (and_parts _ _ named).1 in
    let front : before_first is_colon word ≡ name = ap (λ i. take i word) at ∙ take-append_seam name (58 ∷ 35 ∷ decimal n) in
    let back : after_first is_colon word ≡ 35 ∷ decimal n = ap (λ i. drop (i + 1) word) at ∙ drop-append-add name (58 ∷ 35 ∷ decimal n) 1 in
    cond-true _ _ _ (ap is_name front ∙ named)
    ∙ (λ i. option_map (λ n. Param (front i) (record { 0 = n })) (reference_of (back i)))
    ∙ ap (option_map (λ n. Param name (record { 0 = n }))) (decimal_number n small)

-- an option is read from what stands behind its beginning
behind_read : (o : Opt) → IsOption o → option_behind (key_of o) (spell_behind o) ≡ Some o
behind_read (Repr b) h = ap (option_map Repr) (base_read b)
behind_read Packed h = refl
behind_read (Id n) h = ap (option_map Id) (decimal_number n h)
behind_read (Mod path) h = ap (option_map Mod) (path_read path h)
behind_read (Param name shape) h = param_read name shape.0 h.0 h.1
behind_read (Base v) h = ap (option_map Base) (variance_read v)
behind_read (Dep position.Covariant shape) h = ap (option_map (λ n. Dep position.Covariant (record { 0 = n }))) (decimal_number shape.0 h)
behind_read (Dep position.Contravariant shape) h = ap (option_map (λ n. Dep position.Contravariant (record { 0 = n }))) (decimal_number shape.0 h)
behind_read (Dep position.Invariant shape) h = ap (option_map (λ n. Dep position.Invariant (record { 0 = n }))) (decimal_number shape.0 h)

-- options

-- an option that was read can be written, and is written as the word
pub option_spelled : (word : List ℕ) (o : Opt) → option_of word ≡ Some o → IsOption o × (spell_option o ≡ word)
option_spelled word o e =
    option_and_then_some (λ found. option_behind found.0 found.1) (key_in option_keys word) o e
    (λ found here there.
    let so = stands found.0 found.1 o there in
    (so.0, (λ i. word_of_key (so.1 i) ++ so.2 i) ∙ key_spelled option_keys word found here))

-- an option is read from what it is written as
pub option_read : (o : Opt) → IsOption o → option_of (spell_option o) ≡ Some o
option_read o h =
    ap (option_and_then (λ found. option_behind found.0 found.1)) (key_read (key_of o) (spell_behind o)) ∙ behind_read o h

-- what stands behind a beginning has no space and no newline
behind_bytes : (o : Opt) → IsOption o → list_all is_word_byte (spell_behind o) ≡ true
behind_bytes (Repr base.C) h = refl
behind_bytes (Repr base.Rust) h = refl
behind_bytes (Repr base.Transparent) h = refl
behind_bytes Packed h = refl
behind_bytes (Id n) h = decimal_bytes n (omega arith)
behind_bytes (Mod path) h = path_bytes path h
behind_bytes (Param name shape) h =
    list_all-append is_word_byte name (58 ∷ 35 ∷ decimal shape.0) ∙ and_from _ _ (name_bytes name h.0) (decimal_bytes shape.0 (omega (arith, h.1)))
behind_bytes (Base variance.Bivariant) h = refl
behind_bytes (Base variance.Covariant) h = refl
behind_bytes (Base variance.Contravariant) h = refl
behind_bytes (Base variance.Invariant) h = refl
behind_bytes (Dep p shape) h = decimal_bytes shape.0 (omega arith)

-- an option is written as one piece
pub option_is_a_piece : (o : Opt) → IsOption o → IsWord (spell_option o)
option_is_a_piece o h = word_tested _ (begun (key_of o) (spell_behind o) (behind_bytes o h))
  where
    begun : (k : OptionKey) (rest : List ℕ) → list_all is_word_byte rest ≡ true → is_word (word_of_key k ++ rest) ≡ true
    begun key.Repr rest h = h
    begun key.Packed rest h = h
    begun key.Id rest h = h
    begun key.Mod rest h = h
    begun key.Param rest h = h
    begun key.Base rest h = h
    begun key.Covariant rest h = h
    begun key.Contravariant rest h = h
    begun key.Invariant rest h = h
