-- Where tables lie in a file.
use Rattle.std.specs.Prelude.{◌≡◌, ℕ, ◌+◌, ◌*◌, ◌<◌, ◌≤◌, ◌^◌, List, length, take, drop, IfSome, Option, Some, None}
use Rattle.std.specs.Int.{w32, from_be_bytes}
use Rattle.std.specs.List.{AllByRecursion}
use Rattle.me_disk.specs.Disk.{Disk}
use Rattle.me_disk.specs.Holds.{Holds, Inside}
use Rattle.part_tree.specs.declared.names.Span.{Span}
use Rattle.part_tree.specs.declared.shows.Track.{Track}
use Rattle.track_samples.specs.declared.rows.Rows.{Rows}
use Rattle.track_samples.specs.declared.sizes.SizeTable.{SizeTable}

-- A range lies inside the file, where that is told, and ends below 2^63.
pub record Lies (d : Disk) (s : Span) : Type 0 where
  pub inside : Inside (s.at + s.len) d
  pub small : s.at + s.len < 2 ^ 63

-- the tables of a track do
pub record TablesLie (d : Disk) (t : Track) : Type 0 where
  pub chunks : Lies d t.chunks
  pub runs : IfSome t.stsc (Lies d)
  pub sizes : IfSome t.stsz (Lies d)

-- ranges lie inside the file, where that is told
abbrev pub AllInside : Disk → List Span → Type 0
AllInside d ss = (b : List ℕ) → Holds d b → AllByRecursion (λ s. s.at + s.len ≤ length b) ss

-- rows of so many bytes lie in their table, which lies inside the file
pub record RowsLie (len : ℕ) (d : Disk) (r : Rows) : Type 0 where
  pub rows : r.at + len * r.count ≤ r.end
  pub inside : Inside r.end d
  pub small : r.end < 2 ^ 63

-- rows of sizes do, where each sample has its own
abbrev pub SizesLie : Disk → SizeTable → Type 0
SizesLie d t = t.common ≡ 0 → RowsLie 4 d t.rows

-- The sizes that a table with this body has, by their count: none where it is too short for them.
abbrev pub AreSizes : List ℕ → Span → Option ℕ → SizeTable → Type 0
AreSizes body s None t = (t.common ≡ 0) × (t.rows.count ≡ 0)
AreSizes body s (Some n) t =
    (t.common ≡ from_be_bytes w32 (take 4 (drop 4 body))) × (t.rows.count ≡ n) × (t.rows.at ≡ s.at + 12)
