use Rattle.avi_model.proofs.AviKind.{is_avi_kind}
use Rattle.avi_model.proofs.avi_files_are_a_kind.Goals as goal

pub returns : goal.returns
returns c = is_avi_kind
