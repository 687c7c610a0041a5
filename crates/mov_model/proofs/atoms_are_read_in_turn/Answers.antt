use Rattle.mov_model.proofs.Told.{read_inside, read_law}
use Rattle.mov_model.proofs.atoms_are_read_in_turn.Goals as goal

pub returns-clause-file : goal.returns-clause-file
returns-clause-file c = read_law

pub returns-clause-inside : goal.returns-clause-inside
returns-clause-inside c = read_inside
