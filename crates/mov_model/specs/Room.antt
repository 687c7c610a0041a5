-- When an edit has room in place, and what is then written (this project's own).
use Rattle.std.specs.Prelude.{ℕ, ◌+◌, ◌-◌, ◌^◌, ◌≡◌, nat_le, nat_lt, ◌==◌, List, [], ◌∷◌, ◌++◌, length, Bool, true, ◌&&◌, ◌||◌, if◌then◌else◌}
use Rattle.std.specs.Int.{w32, w64, to_be_bytes}
use Rattle.part_tree.specs.declared.field.EditItem.{EditItem}
use Rattle.part_tree.specs.declared.plan.Patch.{Patch}
use Rattle.part_tree.specs.Patches.{all_bytes}
use Rattle.container_model.specs.Chunk.{Form, short, long, spell_all}
use Rattle.mov_model.specs.Carried.{Changes}
use Rattle.container_model.specs.Units.{Piece, copied, replaced, unit_bytes}
use Rattle.carrier_model.specs.Room.{patch, unit_patches}
use Rattle.mov_model.specs.Movie.{Movie, movie_of}
use Rattle.mov_model.specs.New.{fill, whole_pieces, ends_file, kids_at, new_movie}
use Rattle.mov_model.specs.Edited.{changes}

-- ---- units that fit

-- a spelling of s bytes fits a slot: it fills it, leaves what one padding fills, or its slot ends the file
abbrev pub unit_fits : Bool → ℕ → ℕ → Bool
unit_fits ends slot s = (s == slot) || ((nat_le 8 (slot - s) && nat_lt (slot - s) (2 ^ 32)) || ends)

-- each unit fits; only the last slot may end the file
abbrev pub units_fit : Bool → List Piece → Bool
units_fit ends [] = true
units_fit ends (copied c ∷ ps) = units_fit ends ps
units_fit ends (replaced lead slot now last ∷ ps) = unit_fits (ends && last) (length slot) (length (unit_bytes lead now)) && units_fit ends ps

-- ---- patches

-- the number in the header of an atom with a body of n bytes: none where it goes to the end of the file
abbrev pub size_patch : Form → ℕ → ℕ → List Patch
size_patch short at n = patch at (to_be_bytes w32 (n + 8))
size_patch long at n = patch (at + 8) (to_be_bytes w64 (n + 16))
size_patch form at n = []

-- where the size of moov changes
abbrev pub moov_patch : Movie → ℕ → List Patch
moov_patch m n = if n == length m.movie.body then [] else size_patch m.movie.form (length (spell_all m.before)) n

-- by place: the size of moov, then each unit
abbrev pub patches_of : Movie → Changes → List Patch
patches_of m e = moov_patch m (length (new_movie m e).movie.body) ++ unit_patches (fill (ends_file m e)) (kids_at m e) (whole_pieces m e)

-- the patches of an edit, by place
abbrev pub patches : List ℕ → List EditItem → List Patch
patches o e = patches_of (movie_of o) (changes o e)

-- ---- room

-- every unit fits, and the patches have at most 16 MiB
abbrev pub room_of : Movie → Changes → Bool
room_of m e = units_fit (ends_file m e) (whole_pieces m e) && nat_le (all_bytes (patches_of m e)) (2 ^ 24)

-- the same of an edit
abbrev pub has_room : List ℕ → List EditItem → Bool
has_room o e = room_of (movie_of o) (changes o e)

-- the edit has room in place
abbrev pub Room : List ℕ → List EditItem → Type 0
Room o e = has_room o e ≡ true
