use Rattle.crash_rows.proofs.Works.{rewrite_begins}
use Rattle.crash_rows.proofs.runs.run_rewrite.Goals as goal

pub run-requires : goal.run-requires
run-requires g c κs within = (within, rewrite_begins c.args.swap (g.D.Depot.disk c.args.depot.now) c.requires.swap c.requires.stands)
