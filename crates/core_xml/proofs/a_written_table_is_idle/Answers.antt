use Rattle.core_xml.proofs.Law.{written_idle}
use Rattle.core_xml.proofs.a_written_table_is_idle.Goals as goal

pub returns : goal.returns
returns c = written_idle
