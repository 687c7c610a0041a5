-- The table of chunk places that a track tells (QuickTime File Format, chunk offset atoms).
use Rattle.std.specs.Prelude.{ℕ, ◌+◌, List, [], ◌∷◌, length, take, drop, nat_le, nat_lt, if◌then◌else◌}
use Rattle.std.specs.Int.{w32, from_be_bytes}
use Rattle.part_tree.specs.declared.shows.Track.{Track}
use Rattle.mov_model.specs.Cuts.{RowTable}
use Rattle.mov_plan.specs.Tables.{width_of}

-- its rows stand behind a head of eight bytes, of which the last four tell how many there are
abbrev pub rows_at : List ℕ → Track → RowTable
rows_at b t = record { at = t.chunks.at + 8; width = width_of t.wide; rows = from_be_bytes w32 (take 4 (drop (t.chunks.at + 4) b)) }

-- none where there is no head
abbrev pub track_rows : List ℕ → Track → List RowTable
track_rows b t = if nat_lt t.chunks.len 8 then [] else (if nat_le (t.chunks.at + 8) (length b) then rows_at b t ∷ [] else [])
