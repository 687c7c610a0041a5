-- The new file as one splice of the old one (this project's own).
use Rattle.std.specs.Prelude.{◌≡◌, ◌<◌, ℕ, List, length, Some}
use Rattle.part_tree.specs.Moves.{place}
use Rattle.container_model.specs.Splice.{Ascend, Outside, shift, splice}
use Rattle.carrier_model.specs.Gaps.{moves_of}
use Rattle.mov_model.specs.Carried.{Changes}
use Rattle.mov_model.specs.Cuts.{all_cuts}
use Rattle.mov_model.specs.Movie.{movie_of}
use Rattle.mov_model.specs.New.{edit_cuts}

-- It is the old file with the spans of one list replaced; these ascend, are disjoint and lie in it; and the ranges between them put
-- each place where the tables' places are moved.
pub record IsOneSplice (o : List ℕ) (e : Changes) (n : List ℕ) : Type 0 where
  pub spliced : n ≡ splice o (all_cuts (movie_of o) e)
  pub ascend : Ascend 0 (all_cuts (movie_of o) e) (length o)
  pub put : (p : ℕ) → Outside (all_cuts (movie_of o) e) p → p < length o → place (moves_of (all_cuts (movie_of o) e) (length o)) p ≡ Some (shift (edit_cuts (movie_of o) e) p)
