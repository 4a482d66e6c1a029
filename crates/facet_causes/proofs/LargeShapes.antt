-- Whether a shape is too large, by its entries in the tables.
use Rattle.std.proofs.Common.{ℕ, ◌<◌, ◌≤◌, ◌↔◌, List, sym, subst, inl, inr, arith}
use Rattle.facet_causes.specs.LongName.{HasLongName}
use Rattle.facet_causes.specs.Reading.{before_at, inline_at, named_at, own_name_bytes_of, repeated_at}
use Rattle.facet_causes.specs.TooLarge.{HasManyParts, IsTooLarge, TakesManyBytes, each_counts}
use Rattle.facet_causes.proofs.Entries.{within_by}
use Rattle.facet_causes.proofs.NameLengths.{long_entry}
use Rattle.facet_causes.proofs.Sealed.{unweighted_inline}
use Rattle.facet_graph.specs.Cost.{IsCostEntry}
use Rattle.facet_graph.specs.Height.{IsHeightEntry, IsWithin}
use Rattle.facet_graph.proofs.Entries.{costly_entry, high_entry}
use Rattle.facet_outline.specs.References.{LeadLower}
use Rattle.facet_shape.specs.declared.shape.Shape.{Shape}

module _ (xs : List Shape) (s : ℕ) (inline_height height : ℕ) (inline : IsHeightEntry (inline_at xs) s inline_height) (some : 0 < inline_height) where
  pub many_parts : (count : ℕ) → IsCostEntry (repeated_at xs) each_counts s count → (65536 < count) ↔ HasManyParts xs s
  many_parts count entry = costly_entry (repeated_at xs) each_counts s count (subst (λ edges. IsWithin edges 100 s) (sym (unweighted_inline xs)) (within_by (inline_at xs) s inline_height inline some)) entry

module _ (xs : List Shape) (s : ℕ) (lower : LeadLower xs) (inline_height height part_count name_length : ℕ)
    (inline : IsHeightEntry (inline_at xs) s inline_height) (before : IsHeightEntry (before_at xs) s height)
    (parts : IsCostEntry (repeated_at xs) each_counts s part_count) (name : IsCostEntry (named_at xs) (own_name_bytes_of xs) s name_length)
    (inline_some : 0 < inline_height) (some : 0 < height) where
  pub long_name : (65536 < name_length) ↔ HasLongName xs s
  long_name = long_entry xs lower s name_length (within_by (before_at xs) s height before some) name

  -- where no entry is too great, only its bytes make a shape too large
  pub bytes_alone : part_count ≤ 65536 → name_length ≤ 65536 → (shape : Shape) → IsTooLarge xs s shape → TakesManyBytes shape
  bytes_alone few short shape (inl bytes) = bytes
  bytes_alone few short shape (inr (inl many)) = let above = (many_parts xs s inline_height height inline inline_some part_count parts).1 many in absurd (omega (arith, above, few))
  bytes_alone few short shape (inr (inr (inl long))) = let above = long_name.1 long in absurd (omega (arith, above, short))
  bytes_alone few short shape (inr (inr (inr (inl deep)))) = let none = (high_entry (inline_at xs) s inline_height inline).1 deep in absurd (omega (arith, none, inline_some))
  bytes_alone few short shape (inr (inr (inr (inr high)))) = let none = (high_entry (before_at xs) s height before).1 high in absurd (omega (arith, none, some))
