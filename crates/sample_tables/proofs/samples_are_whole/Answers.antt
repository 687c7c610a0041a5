use Rattle.sample_tables.proofs.Whole.{samples_whole}
use Rattle.sample_tables.proofs.samples_are_whole.Goals as goal

pub returns : goal.returns
returns c = samples_whole
