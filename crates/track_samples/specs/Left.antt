-- What is left of the rows of tables, and how many samples fit.
use Rattle.std.specs.Prelude.{◌≡◌, ℕ, zero, suc, ◌+◌, ◌-◌, ◌*◌, List, [], ◌∷◌, drop, get_or, nat_le, Bool, true, false, Option, Some, None, if◌then◌else◌}
use Rattle.part_tree.specs.Ranges.{no_span, within}
use Rattle.part_tree.specs.declared.names.Span.{Span}
use Rattle.container_model.specs.Rows.{Width, be32, be64}
use Rattle.sample_tables.specs.Samples.{ChunkRun, runs_from, sizes_by}
use Rattle.track_samples.specs.declared.rows.Rows.{Rows}
use Rattle.track_samples.specs.declared.sizes.SizeTable.{SizeTable}

-- a place has eight bytes in `co64`, and four in `stco`
abbrev pub width_of : Bool → Width
width_of true = be64
width_of false = be32

-- The rows that a table has, by their count: none where the table is too short for them.
abbrev pub AreRows : Span → Option ℕ → Rows → Type 0
AreRows s None r = r.count ≡ 0
AreRows s (Some n) r = (r.count ≡ n) × (r.at ≡ s.at + 8)

-- the runs in these rows
abbrev pub runs_of : List ℕ → Rows → List ChunkRun
runs_of b r = runs_from r.count (drop r.at b)

-- the runs that are left behind the first ones
abbrev pub runs_left : List ℕ → Rows → ℕ → List ChunkRun
runs_left b r k = runs_from (r.count - k) (drop (r.at + 12 * k) b)

-- the sizes that are left behind the first ones
abbrev pub sizes_left : List ℕ → SizeTable → ℕ → List ℕ
sizes_left b t k = sizes_by t.common (t.rows.count - k) (drop (t.rows.at + 4 * k) b)

-- how many of the first sizes fit into a room, one behind the other
abbrev pub fitting : ℕ → List ℕ → ℕ → ℕ
fitting zero sizes room = 0
fitting (suc n) [] room = 0
fitting (suc n) (s ∷ sizes) room = if nat_le s room then suc (fitting n sizes (room - s)) else 0

-- the bytes from a place to the end of a range that holds it
abbrev pub room_of : Span → ℕ → ℕ
room_of s p = if within s p 1 then s.at + s.len - p else 0

-- the bytes from a place to the end of the one of these ranges that holds it
abbrev pub room_in : List Span → ℕ → ℕ
room_in [] p = 0
room_in (s ∷ ss) p = if within s p 1 then s.at + s.len - p else room_in ss p

-- the same in the last of the first ranges
abbrev pub room_by : List Span → ℕ → ℕ → ℕ
room_by ss p zero = 0
room_by ss p (suc k) = room_of (get_or ss k no_span) p
