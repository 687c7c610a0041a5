-- What the tables of a track count: its chunks, and the samples of each chunk (QuickTime File Format, sample table
-- atoms).
use Rattle.std.specs.Prelude.{ℕ, ◌+◌, ◌-◌, List, [], ◌∷◌, ◌++◌, length, map, Option, Some, None, codes, if◌then◌else◌}
use Rattle.std.specs.List.{sum_by}
use Rattle.part_tree.specs.Ranges.{within}
use Rattle.part_tree.specs.declared.names.Span.{Span}
use Rattle.part_tree.specs.declared.shows.Track.{Track}
use Rattle.container_model.specs.Atoms.{atom}
use Rattle.container_model.specs.Chunk.{Chunk}
use Rattle.container_model.specs.Written.{slice}
use Rattle.sample_tables.specs.Counts.{place_type}
use Rattle.sample_tables.specs.Samples.{samples}
use Rattle.sample_tables.specs.Tables.{is_short_table, places}

-- a table that is too short for its rows tells nothing
abbrev pub whole : Chunk → List Chunk
whole c = if is_short_table c then [] else c ∷ []

-- the table of a type whose body stands at a span of the file
abbrev pub table_at : List ℕ → List ℕ → Span → List Chunk
table_at b id s = whole (atom id (slice b s.at s.len))

-- the same where there is one
abbrev pub table_in : List ℕ → List ℕ → Option Span → List Chunk
table_in b id None = []
table_in b id (Some s) = table_at b id s

-- the tables of a track: the places of its chunks, the samples in each, and the sizes of samples
abbrev pub tables : List ℕ → Track → List Chunk
tables b t =
    table_at b (place_type t.wide) t.chunks
    ++ (table_in b (codes "stsc") t.stsc ++ table_in b (codes "stsz") t.stsz)

-- where the chunks of a track stand
abbrev pub chunk_places : List ℕ → Track → List ℕ
chunk_places b t = places (tables b t)

-- the bytes of the file from a place to the end of the `mdat` that holds it; none where no `mdat` does
abbrev pub tail_in : List ℕ → List Span → ℕ → List ℕ
tail_in b [] p = []
tail_in b (s ∷ ss) p = if within s p 1 then slice b p (s.at + s.len - p) else tail_in b ss p

-- the samples of each chunk of a track that lie in the `mdat` of their chunk
abbrev pub chunk_samples : List ℕ → List Span → Track → List (List (List ℕ))
chunk_samples b mdats t = samples (tables b t) (map (tail_in b mdats) (chunk_places b t))

-- how many samples these chunks have
abbrev pub total : List (List (List ℕ)) → ℕ
total chunks = sum_by (λ (samples : List (List ℕ)). length samples) chunks

-- how many chunks a track has
abbrev pub chunk_count : List ℕ → Track → ℕ
chunk_count b t = length (chunk_places b t)

-- how many samples of a track lie in the `mdat` of their chunk
abbrev pub sample_count : List ℕ → List Span → Track → ℕ
sample_count b mdats t = total (chunk_samples b mdats t)
