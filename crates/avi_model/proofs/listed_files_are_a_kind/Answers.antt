use Rattle.avi_model.proofs.AsKind.{is_kind}
use Rattle.avi_model.proofs.listed_files_are_a_kind.Goals as goal

pub returns : goal.returns
returns c = is_kind
