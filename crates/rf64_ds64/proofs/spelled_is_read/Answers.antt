use Rattle.rf64_ds64.proofs.Rows.{long_enough, reads_back}
use Rattle.rf64_ds64.proofs.spelled_is_read.Goals as goal

pub returns : goal.returns
returns c = record { back = λ ds h. (long_enough ds h, reads_back ds h) }
