use Rattle.mov_model.proofs.Told.{count_law, essence_law, parts_law}
use Rattle.mov_model.proofs.what_is_told.Goals as goal

pub returns-clause-parts : goal.returns-clause-parts
returns-clause-parts c = λ b bytes s. count_law b bytes s.readable

pub returns-clause-bodies : goal.returns-clause-bodies
returns-clause-bodies c = λ b bytes s. parts_law b bytes s.readable

pub returns-clause-essence : goal.returns-clause-essence
returns-clause-essence c = λ b bytes s. essence_law b bytes s.readable
