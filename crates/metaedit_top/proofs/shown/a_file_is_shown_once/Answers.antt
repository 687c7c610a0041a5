use Rattle.metaedit_top.proofs.ShownOnce.{shown_once}
use Rattle.metaedit_top.proofs.shown.a_file_is_shown_once.Goals as goal

pub returns : goal.returns
returns c = shown_once
