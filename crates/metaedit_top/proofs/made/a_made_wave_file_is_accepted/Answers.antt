use Rattle.metaedit_top.proofs.MadeAccepted.{wave_made}
use Rattle.metaedit_top.proofs.made.a_made_wave_file_is_accepted.Goals as goal

pub returns : goal.returns
returns c = wave_made
