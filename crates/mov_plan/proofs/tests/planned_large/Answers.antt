use Rattle.std.proofs.lemmas.Bool.{false≢true}
use Rattle.mov_plan.proofs.tests.planned_large.Goals as goal

-- a depot that tells nothing of its file holds any bytes
pub plan_movie-requires-clause-inside : goal.plan_movie-requires-clause-inside
plan_movie-requires-clause-inside c = λ b h. absurd (false≢true h.tells)
