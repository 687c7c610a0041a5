use Rattle.mov_model.specs.Movie.{movie_of}
use Rattle.mov_model.proofs.Again.{kids_read}
use Rattle.mov_plan.proofs.Joined.{row_is}
use Rattle.mov_plan.proofs.rows_tell_edits.Goals as goal

pub returns : goal.returns
returns c = λ b e bytes sup. row_is (movie_of b) e (kids_read b bytes sup.readable).0
