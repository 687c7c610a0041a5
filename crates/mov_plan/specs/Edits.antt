-- What the units of a movie's atoms come to, beside what an edit of the movie is (this project's own).
use Rattle.std.specs.Prelude.{◌≡◌, ◌&&◌, ◌+◌, List, false, length, map}
use Rattle.container_model.specs.Atoms.{atoms_in}
use Rattle.container_model.specs.Chunk.{spell_all}
use Rattle.container_model.specs.Items.{is_nil}
use Rattle.container_model.specs.Units.{Cell}
use Rattle.carrier_model.specs.Room.{unit_patches}
use Rattle.carrier_model.specs.Steps.{carried}
use Rattle.mov_model.specs.Atoms.{cell_of}
use Rattle.mov_model.specs.Carried.{Changes, steps}
use Rattle.mov_model.specs.Movie.{Movie}
use Rattle.mov_model.specs.New.{edit_cuts, ends_file, fill, gaps_of, kids_at, laid_kids, laid_movie, past_gaps, whole_pieces}
use Rattle.mov_model.specs.Room.{units_fit}
use Rattle.mov_plan.specs.Rows.{Beyond, Outcome}
use Rattle.mov_plan.specs.Shapes.{count_all}

-- what stands behind the atoms of moov
abbrev pub beyond_of : Movie → Beyond
beyond_of m = record {
  goes_on = is_nil (atoms_in m.movie).left;
  slot = spell_all (gaps_of m.behind);
  gaps = length (gaps_of m.behind);
  last = is_nil (past_gaps m.behind) && is_nil m.left;
}

-- the atoms of moov after an edit
abbrev pub edited_cells : Movie → Changes → List Cell
edited_cells m e = carried (steps e) (map cell_of (atoms_in m.movie).chunks)

-- It is what the edit replaces and patches, whether that has room, how long the body of moov is but for what is left in it, and
-- how many atoms are counted in moov and as the padding behind it.
pub record IsEditOf (m : Movie) (e : Changes) (x : Outcome) : Type 0 where
  pub cuts : x.cuts ≡ edit_cuts m e
  pub patches : x.patches ≡ unit_patches (fill (ends_file m e)) (kids_at m e) (whole_pieces m e)
  pub fits : x.fits ≡ units_fit (ends_file m e) (whole_pieces m e)
  pub inner : length (laid_movie m e).movie.body ≡ x.inner + length (atoms_in m.movie).left
  pub parts : x.parts + length (past_gaps m.behind) ≡ count_all false (laid_kids m e) + length (laid_movie m e).behind
