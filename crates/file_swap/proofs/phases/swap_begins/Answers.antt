use Rattle.file_swap.proofs.Installs.{begins, begins_sure}
use Rattle.file_swap.proofs.phases.swap_begins.Goals as goal

pub returns : goal.returns
returns g c = let d = g.D.Depot.disk c.args._depot.now in record { underway = begins d; sure = begins_sure d }
