use Rattle.track_samples.proofs.Told.{sizes_read}
use Rattle.track_samples.proofs.count.sizes_at.Goals as goal

pub returns-in-Some-clause-sizes : goal.returns-in-Some-clause-sizes
returns-in-Some-clause-sizes g c = λ b holds. sizes_read b c.in-Some.body c.args.body c.sizes_in.result c.in-Some.is (c.sizes_in.ensures.sizes b holds)
