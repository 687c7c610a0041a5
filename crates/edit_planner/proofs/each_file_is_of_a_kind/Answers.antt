use Rattle.edit_planner.proofs.OfKind.{law}
use Rattle.edit_planner.proofs.each_file_is_of_a_kind.Goals as goal

pub returns : goal.returns
returns c = law
