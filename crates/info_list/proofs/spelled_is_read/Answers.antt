use Rattle.info_list.proofs.Items.{reads_back}
use Rattle.info_list.proofs.spelled_is_read.Goals as goal

pub returns : goal.returns
returns c = reads_back
