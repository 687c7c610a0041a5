use Rattle.track_samples.proofs.Told.{runs_read}
use Rattle.track_samples.proofs.count.runs_at.Goals as goal

pub returns-in-Some-clause-runs : goal.returns-in-Some-clause-runs
returns-in-Some-clause-runs g c = λ b holds. runs_read b c.in-Some.body c.args.body c.rows_in.result c.in-Some.is (c.rows_in.ensures.rows b holds)
