-- The tables of the tracks that were met, and how a track is told by them.
use Rattle.std.specs.Prelude.{ℕ, List, [], ◌∷◌, ◌++◌, Bool, true, false, codes, Option, Some, None, if◌then◌else◌}
use Rattle.std.specs.Str.{bytes_eq}
use Rattle.part_tree.specs.declared.names.Span.{Span}
use Rattle.part_tree.specs.declared.shows.Track.{Track}
use Rattle.container_model.specs.Tests.{or_else}
use Rattle.container_model.specs.Walk.{Step, chunk_at, end_at}
use Rattle.mov_model.specs.Atoms.{Place, moov, stbl}
use Rattle.mov_model.specs.Map.{TrackTables, body_span, first_span}
use Rattle.mov_file.specs.declared.track.TablesAt.{TablesAt}

-- ---- the tables that were met

-- no table was met yet
abbrev pub no_tables : TablesAt
no_tables = record { narrow = None; wide = None; runs = None; sizes = None }

-- a body where a test holds
abbrev pub span_where : Bool → Span → Option Span
span_where is body = if is then Some body else None

-- with an atom of this type and body, where it is the first of its type
abbrev pub with_table : List ℕ → Span → TablesAt → TablesAt
with_table id body t = record {
  narrow = or_else t.narrow (span_where (bytes_eq id (codes "stco")) body);
  wide = or_else t.wide (span_where (bytes_eq id (codes "co64")) body);
  runs = or_else t.runs (span_where (bytes_eq id (codes "stsc")) body);
  sizes = or_else t.sizes (span_where (bytes_eq id (codes "stsz")) body);
}

-- the last of some tracks is changed, behind this one
abbrev pub last_from : (TablesAt → TablesAt) → TablesAt → List TablesAt → List TablesAt
last_from f t [] = f t ∷ []
last_from f t (u ∷ us) = t ∷ last_from f u us

-- the last of some tracks is changed
abbrev pub in_last : (TablesAt → TablesAt) → List TablesAt → List TablesAt
in_last f [] = []
in_last f (t ∷ ts) = last_from f t ts

-- A track begins with its atom, and a table in `stbl` is one of the last track.
abbrev pub tables_by : Place → List ℕ → Span → List TablesAt → List TablesAt
tables_by moov id body ts = if bytes_eq id (codes "trak") then ts ++ no_tables ∷ [] else ts
tables_by stbl id body ts = in_last (with_table id body) ts
tables_by p id body ts = ts

-- the tracks with what is met in a step
abbrev pub tables_met : Step Place → List TablesAt → List TablesAt
tables_met (chunk_at p at c) ts = tables_by p c.id (body_span at c) ts
tables_met (end_at p at stop) ts = ts

-- the tracks with what is met in some steps
abbrev pub tables_after : List TablesAt → List (Step Place) → List TablesAt
tables_after ts [] = ts
tables_after ts (s ∷ ss) = tables_after (tables_met s ts) ss

-- the first table of each type
abbrev pub firsts : TrackTables → TablesAt
firsts t = record { narrow = first_span t.narrow; wide = first_span t.wide; runs = first_span t.runs; sizes = first_span t.sizes }

-- ---- a track

-- the tables of chunk places: in four bytes or else in eight; none is a span of no bytes
abbrev pub places_at : Option Span → Option Span → Span
places_at (Some s) wide = s
places_at None (Some s) = s
places_at None None = record { at = 0; len = 0 }

abbrev pub is_wide : Option Span → Option Span → Bool
is_wide (Some s) wide = false
is_wide None (Some s) = true
is_wide None None = false

-- a track by its tables
abbrev pub track_from : TablesAt → Track
track_from t = record { chunks = places_at t.narrow t.wide; wide = is_wide t.narrow t.wide; stsc = t.runs; stsz = t.sizes }
