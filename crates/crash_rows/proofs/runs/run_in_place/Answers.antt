use Rattle.crash_rows.proofs.Works.{in_place_begins}
use Rattle.crash_rows.proofs.runs.run_in_place.Goals as goal

pub run-requires : goal.run-requires
run-requires g c κs within = (within, in_place_begins c.args.swap (g.D.Depot.disk c.args.depot.now) c.requires.swap c.requires.stands)
