use Rattle.std.proofs.Common.{false}
use Rattle.mov_model.specs.Movie.{movie_of}
use Rattle.mov_plan.specs.Carry.{carried_by, cells_of}
use Rattle.mov_plan.specs.Edits.{edited_cells}
use Rattle.mov_plan.proofs.Carrying.{carry_tells, told}
use Rattle.mov_plan.proofs.carriers_tell_edits.Goals as goal

pub returns : goal.returns
returns c = λ b e end atoms user keys tell u k.
    told b false (carried_by end keys (carried_by end user atoms)) (edited_cells (movie_of b) e) (carry_tells b end e atoms (cells_of (movie_of b)) user keys tell u k)
