-- What the rows of a track's tables tell, where the file tells its bytes.
use Rattle.std.specs.Prelude.{◌≡◌, ℕ, List, drop, Bool, Option, codes}
use Rattle.std.specs.List.{flat_map}
use Rattle.part_tree.specs.declared.names.Span.{Span}
use Rattle.container_model.specs.Rows.{numbers}
use Rattle.sample_tables.specs.Counts.{place_type}
use Rattle.sample_tables.specs.Samples.{runs_in, sizes_in}
use Rattle.sample_tables.specs.Tables.{places_in}
use Rattle.track_samples.specs.Left.{runs_of, sizes_left, width_of}
use Rattle.track_samples.specs.Tables.{table_at, table_in}
use Rattle.track_samples.specs.declared.rows.Rows.{Rows}
use Rattle.track_samples.specs.declared.sizes.SizeTable.{SizeTable}

-- the rows are the places in a table
abbrev pub ArePlaces : List ℕ → Bool → Span → Rows → Type 0
ArePlaces b wide s r = flat_map places_in (table_at b (place_type wide) s) ≡ numbers (width_of wide) r.count (drop r.at b)

-- the rows are the runs in a table
abbrev pub AreRuns : List ℕ → Option Span → Rows → Type 0
AreRuns b s r = flat_map runs_in (table_in b (codes "stsc") s) ≡ runs_of b r

-- the sizes are those in a table
abbrev pub HaveSizes : List ℕ → Option Span → SizeTable → Type 0
HaveSizes b s t = flat_map sizes_in (table_in b (codes "stsz") s) ≡ sizes_left b t 0
