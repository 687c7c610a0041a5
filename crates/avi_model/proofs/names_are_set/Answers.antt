use Rattle.avi_model.proofs.NamesSet.{names_are_set}
use Rattle.avi_model.proofs.names_are_set.Goals as goal

pub returns : goal.returns
returns c = names_are_set
