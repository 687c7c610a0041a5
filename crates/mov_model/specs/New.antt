-- The new movie: the unit of the user data, its slot and padding, and the relocated tables (this project's own).
use Rattle.std.specs.Prelude.{Bool, List, [], codes, drop, false, if◌then◌else◌, length, map, nat_le, nat_lt, take, true, ℕ, ◌&&◌, ◌++◌, ◌+◌, ◌-◌, ◌^◌, ◌||◌, ◌∷◌}
use Rattle.container_model.specs.Chunk.{Chunk, header_bytes, spell_all}
use Rattle.container_model.specs.Items.{is_nil}
use Rattle.container_model.specs.Splice.{Cut, shift}
use Rattle.container_model.specs.Units.{Fill, Piece, copied, cuts, lay, replaced, shut, unit_bytes, units}
use Rattle.mov_model.specs.Atoms.{cell_of, is_padding}
use Rattle.container_model.specs.Atoms.{atom, atoms_in}
use Rattle.carrier_model.specs.Steps.{carried}
use Rattle.mov_model.specs.Carried.{Changes, steps}
use Rattle.mov_model.specs.Movie.{Movie, movie_of, spell_movie}
use Rattle.mov_model.specs.Tables.{relocated}

-- ---- padding

-- The padding of a unit with a spelling of s bytes: none where it fills its slot; else one atom, with the last bytes of the slot where it fits and none where it does not.
abbrev pub padding : List ℕ → ℕ → List Chunk
padding slot s =
    if nat_le (length slot) s then []
    else atom (codes "free") (if nat_le 8 (length slot - s) && nat_lt (length slot - s) (2 ^ 32) then drop (s + 8) slot else []) ∷ []

-- padding behind each unit, but for the last one where that is open
abbrev pub fill : Bool → Fill
fill opened last slot s = if opened && last then [] else padding slot s

-- the padding that these atoms begin with
abbrev pub gaps_of : List Chunk → List Chunk
gaps_of [] = []
gaps_of (c ∷ cs) = if is_padding c.id then c ∷ gaps_of cs else []

-- what follows it
abbrev pub past_gaps : List Chunk → List Chunk
past_gaps [] = []
past_gaps (c ∷ cs) = if is_padding c.id then past_gaps cs else c ∷ cs

-- a unit ends the list
abbrev pub ends_open : List Piece → Bool
ends_open [] = false
ends_open (copied c ∷ ps) = ends_open ps
ends_open (replaced lead slot now last ∷ ps) = last || ends_open ps

-- the same pieces, with more bytes in the slot that ends the list
abbrev pub grown : List ℕ → List Piece → List Piece
grown more [] = []
grown more (copied c ∷ ps) = copied c ∷ grown more ps
grown more (replaced lead slot now true ∷ ps) = replaced lead (slot ++ more) now true ∷ ps
grown more (replaced lead slot now false ∷ ps) = replaced lead slot now false ∷ grown more ps

-- the padding of the unit that ends the list
abbrev pub hanging : Fill → List Piece → List Chunk
hanging f [] = []
hanging f (copied c ∷ ps) = hanging f ps
hanging f (replaced lead slot now true ∷ ps) = f true slot (length (unit_bytes lead now))
hanging f (replaced lead slot now false ∷ ps) = hanging f ps

-- ---- the new movie

module _ (m : Movie) (e : Changes) where
  -- the atoms of moov: those that are copied, and the units
  abbrev pub pieces_of : List Piece
  pieces_of = units shut (carried (steps e) (map cell_of (atoms_in m.movie).chunks))

  -- A slot that ends moov, where nothing is left in moov, goes on through the padding behind moov.
  abbrev pub is_open : Bool
  is_open = is_nil (atoms_in m.movie).left && ends_open pieces_of

  -- the padding behind moov that is in the slot
  abbrev pub slot_behind : List Chunk
  slot_behind = if is_open then gaps_of m.behind else []

  -- what follows the slot
  abbrev pub rest_behind : List Chunk
  rest_behind = if is_open then past_gaps m.behind else m.behind

  -- the pieces with the whole slot
  abbrev pub whole_pieces : List Piece
  whole_pieces = if is_open then grown (spell_all (gaps_of m.behind)) pieces_of else pieces_of

  -- it ends the file
  abbrev pub ends_file : Bool
  ends_file = is_open && (is_nil rest_behind && is_nil m.left)

  -- where the atoms in moov begin
  abbrev pub kids_at : ℕ
  kids_at = length (spell_all m.before) + length (header_bytes m.movie.form m.movie.id (length m.movie.body))

  -- the slots, and what replaces them
  abbrev pub edit_cuts : List Cut
  edit_cuts = cuts (fill ends_file) kids_at whole_pieces

  -- Its padding stands behind moov.
  abbrev pub padding_behind : List Chunk
  padding_behind = if is_open then hanging (fill ends_file) whole_pieces else []

  -- the atoms in moov after the edit
  abbrev pub laid_kids : List Chunk
  laid_kids = lay (fill is_open) pieces_of

  -- the same with relocated tables
  abbrev pub new_kids : List Chunk
  new_kids = map (relocated (shift edit_cuts)) laid_kids

  -- a movie with these atoms in moov, and the padding of the last unit behind it
  abbrev pub with_kids : List Chunk → Movie
  with_kids ks = record {
    before = m.before;
    movie = record m.movie { body = spell_all ks ++ (atoms_in m.movie).left };
    behind = padding_behind ++ rest_behind;
    left = m.left;
  }

  -- the tables are as they were, or relocated
  abbrev pub laid_movie : Movie
  laid_movie = with_kids laid_kids

  -- the new movie
  abbrev pub new_movie : Movie
  new_movie = with_kids new_kids

  -- the old movie with its tables relocated in their places
  abbrev pub overlaid : Movie
  overlaid = record m { movie = record m.movie { body = spell_all (map (relocated (shift edit_cuts)) (atoms_in m.movie).chunks) ++ (atoms_in m.movie).left } }

-- the new file, by what an edit changes
unfoldable pub edited_file : List ℕ → Changes → List ℕ
edited_file o e = spell_movie (new_movie (movie_of o) e)

-- the bytes of a movie with another size in the header of moov
abbrev pub with_size : Movie → ℕ → List ℕ → List ℕ
with_size m n b =
    take (length (spell_all m.before)) b ++ (header_bytes m.movie.form m.movie.id n ++ drop (length (spell_all m.before) + length (header_bytes m.movie.form m.movie.id (length m.movie.body))) b)
