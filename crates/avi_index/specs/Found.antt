-- Which entries of idx1 name chunks of the essence, and whether the base is what the first such entry says. The index chunks are
-- told by their bodies.
use Rattle.std.specs.Prelude.{ℕ, ◌+◌, ◌==◌, nat_lt, List, [], ◌∷◌, Bool, true, false, ◌&&◌, ◌||◌, not, if◌then◌else◌}
use Rattle.std.specs.Str.{bytes_eq}
use Rattle.part_tree.specs.declared.names.Span.{Span}
use Rattle.part_tree.specs.Ranges.{within, begins_one, clear_of}
use Rattle.container_model.specs.Written.{slice}
use Rattle.avi_index.specs.Rows.{Base, from_start, from_movi, row_id, row_offset, row_length, decides}

-- an entry's identifier stands at a place, as that of an index chunk or outside them
abbrev pub stands_at : List ℕ → List Span → List ℕ → ℕ → Bool
stands_at b ss r p = bytes_eq (slice b p 4) (row_id r) && (begins_one ss p || clear_of ss p 4)

-- by whether the offset is below the place of movi
abbrev pub based_by : List ℕ → List Span → Span → List ℕ → Bool → Bool
based_by b ss movi r true = within movi (movi.at + row_offset r) 4 && stands_at b ss r (movi.at + row_offset r)
based_by b ss movi r false = stands_at b ss r (row_offset r)

-- the first entry that has bytes and is no list has the base that its offset says
abbrev pub is_based : List ℕ → List Span → Span → List (List ℕ) → Bool
is_based b ss movi [] = true
is_based b ss movi (r ∷ rs) = if decides r then based_by b ss movi r (nat_lt (row_offset r) movi.at) else is_based b ss movi rs

-- With base from_start each entry that has bytes is counted.
abbrev pub counted : Base → Span → List Span → List ℕ → Bool
counted from_start movi ss r = not (row_length r == 0)
counted from_movi movi ss r =
    let p = movi.at + row_offset r in
    not (row_length r == 0) && (within movi p (8 + row_length r) && (begins_one ss p || clear_of ss (p + 8) (row_length r)))
