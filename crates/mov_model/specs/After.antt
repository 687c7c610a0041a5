-- The new file of a movie where places may pass 32 bits, and what is then too large (this project's own).
use Rattle.std.specs.List.{flat_map, list_any}
use Rattle.std.specs.Prelude.{Bool, List, None, Option, [], codes, false, if◌then◌else◌, length, map, nat_lt, not, ℕ, ◌&&◌, ◌++◌, ◌^◌, ◌∷◌}
use Rattle.part_tree.specs.declared.field.EditItem.{EditItem}
use Rattle.part_tree.specs.Large.{Size, first_above, limited}
use Rattle.field_model.specs.Update.{effective}
use Rattle.container_model.specs.Atoms.{is}
use Rattle.container_model.specs.Chunk.{Chunk, spell}
use Rattle.container_model.specs.Rows.{be32}
use Rattle.container_model.specs.Splice.{shift}
use Rattle.mov_model.specs.Carried.{Changes}
use Rattle.mov_model.specs.Edited.{changes, fields}
use Rattle.mov_model.specs.Kept.{Kept, placed}
use Rattle.mov_model.specs.Large.{key_sizes, table_sizes, user_sizes}
use Rattle.mov_model.specs.Movie.{Movie, movie_of, spell_movie}
use Rattle.mov_model.specs.New.{edit_cuts, edited_file, new_movie}
use Rattle.mov_model.specs.Parts.{tracks}
use Rattle.mov_model.specs.Reading.{count_parts}
use Rattle.mov_model.specs.Room.{has_room}
use Rattle.mov_model.specs.Tables.{tables}
use Rattle.mov_model.specs.Widen.{past_moov, wide_kept, widened_file}
use Rattle.sample_tables.specs.Tables.{places, rows}

-- a place of a `stco` would pass its four bytes
abbrev pub passes_four : (ℕ → ℕ) → Chunk → Bool
passes_four f c = is c (codes "stco") && list_any (λ p. nat_lt 4294967295 (f p)) (rows be32 c)

-- where an item has an effect and some place of a track would
abbrev pub widens_by : Movie → Changes → List EditItem → Bool
widens_by m e [] = false
widens_by m e (i ∷ is) = list_any (λ t. list_any (passes_four (shift (edit_cuts m e))) (tables t)) (tracks m)

-- An edit widens a movie where some row of a `stco` would pass 4,294,967,295.
abbrev pub widens : List ℕ → List EditItem → Bool
widens o e = widens_by (movie_of o) (changes o e) (effective (fields o) e)

-- the file that is edited: the old one, or that with wide tables
abbrev pub base_of : List ℕ → Bool → List ℕ
base_of o wide = if wide then widened_file o else o

-- the new file
abbrev pub file_after : List ℕ → List EditItem → List ℕ
file_after o e = edited_file (base_of o (widens o e)) (changes o e)

-- the places of a movie's chunks behind the moov that has grown
abbrev pub wide_sizes : Movie → List Size
wide_sizes m = flat_map (λ (t : Chunk). map (λ p. limited 18446744073709551615 (past_moov m p)) (places (tables t))) (tracks m)

-- In this order: the user data, the key table, the number of atoms, moov, the file. A place inside a file that is not too large passes
-- eight bytes nowhere, so the places come last.
abbrev pub last_sizes : Movie → Changes → List Size
last_sizes m e =
    user_sizes m e.users
    ++ (key_sizes m e.keys
    ++ (limited 65536 (count_parts (new_movie m e))
    ∷ (limited (2 ^ 26) (length (spell (new_movie m e).movie)) ∷ (limited 9223372036854775807 (length (spell_movie (new_movie m e))) ∷ table_sizes m e))))

-- the sizes of an edit that widens, and of another
abbrev pub sizes_by : List ℕ → Changes → Bool → List Size
sizes_by o e wide = last_sizes (movie_of (base_of o wide)) e ++ (if wide then wide_sizes (movie_of o) else [])

-- without an item nothing is too large
abbrev pub large_after_by : List ℕ → Changes → Bool → List EditItem → Option Size
large_after_by o e wide [] = None
large_after_by o e wide (i ∷ is) = first_above (sizes_by o e wide)

-- the first limit that is passed, where an item has an effect
abbrev pub large_after : List ℕ → List EditItem → Option Size
large_after o e = large_after_by o (changes o e) (widens o e) (effective (fields o) e)

-- an edit that widens is never made in place
abbrev pub room_after : List ℕ → List EditItem → Bool
room_after o e = not (widens o e) && has_room o e

-- what an edit makes of what is kept
abbrev pub placed_after : List ℕ → List EditItem → Kept → Kept
placed_after o e k = if widens o e then wide_kept (placed k (changes o e)) else placed k (changes o e)
