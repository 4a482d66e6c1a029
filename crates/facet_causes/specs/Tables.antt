-- The tables beside sealed shapes, by which further shapes are checked without a look at these.
use Rattle.std.specs.Prelude.{◌≡◌, ℕ, ◌≤◌, List, length, take, vec_len}
use Rattle.facet_causes.specs.Reading.{before_at, inline_at, lacks_order, named_at, own_name_bytes_of, parts_at, repeated_at}
use Rattle.facet_causes.specs.TooLarge.{each_counts}
use Rattle.facet_causes.specs.declared.tables.Tables.{Tables}
use Rattle.facet_graph.specs.Cost.{AreCosts}
use Rattle.facet_graph.specs.Height.{AreLow}
use Rattle.facet_graph.specs.Marks.{AreClean}
use Rattle.facet_shape.specs.declared.shape.Shape.{Shape}

-- each table has an entry for each of the first n shapes, which is right: no height is above 100, and from a marked shape none without an order is reached
pub record AreTablesOfFirst (shapes : List Shape) (n : ℕ) (tables : Tables) : Type 0 where
  pub inline_heights_len : vec_len tables.inline_heights ≡ n
  pub inline_heights : AreLow (inline_at shapes) n tables.inline_heights.items
  pub heights_len : vec_len tables.heights ≡ n
  pub heights : AreLow (before_at shapes) n tables.heights.items
  pub part_counts_len : vec_len tables.part_counts ≡ n
  pub part_counts : AreCosts (repeated_at shapes) each_counts n tables.part_counts.items
  pub name_lengths_len : vec_len tables.name_lengths ≡ n
  pub name_lengths : AreCosts (named_at shapes) (own_name_bytes_of shapes) n tables.name_lengths.items
  pub ordered_len : vec_len tables.ordered ≡ n
  pub ordered : AreClean (parts_at shapes) (lacks_order shapes) tables.ordered.items

-- each table has an entry for each shape, which is right
abbrev pub AreTables : List Shape → Tables → Type 0
AreTables shapes tables = AreTablesOfFirst shapes (length shapes) tables

-- tables begin with the entries that they had, and marks are still right
pub record BeginWith (shapes : List Shape) (old new : Tables) : Type 0 where
  pub inline_heights : take (vec_len old.inline_heights) new.inline_heights.items ≡ old.inline_heights.items
  pub heights : take (vec_len old.heights) new.heights.items ≡ old.heights.items
  pub part_counts : take (vec_len old.part_counts) new.part_counts.items ≡ old.part_counts.items
  pub name_lengths : take (vec_len old.name_lengths) new.name_lengths.items ≡ old.name_lengths.items
  pub ordered : AreClean (parts_at shapes) (lacks_order shapes) new.ordered.items
  pub ordered_len : vec_len old.ordered ≤ vec_len new.ordered
