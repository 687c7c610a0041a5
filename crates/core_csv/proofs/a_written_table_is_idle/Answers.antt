use Rattle.core_csv.proofs.Law.{written_idle}
use Rattle.core_csv.proofs.a_written_table_is_idle.Goals as goal

pub returns : goal.returns
returns c = written_idle
