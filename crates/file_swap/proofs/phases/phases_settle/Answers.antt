use Rattle.file_swap.proofs.Installs.{phase_old, phase_new, all_written}
use Rattle.file_swap.proofs.phases.phases_settle.Goals as goal

pub returns : goal.returns
returns c = record { before = phase_old; after = phase_new; written = all_written }
