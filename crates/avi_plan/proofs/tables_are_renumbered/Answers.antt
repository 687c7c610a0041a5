use Rattle.avi_plan.proofs.Standing.{renumbered_is}
use Rattle.avi_plan.proofs.tables_are_renumbered.Goals as goal

pub returns : goal.returns
returns c = λ ms b bytes s named. renumbered_is b bytes s ms named
