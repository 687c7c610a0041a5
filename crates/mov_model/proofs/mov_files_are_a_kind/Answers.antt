use Rattle.mov_model.proofs.WideKind.{is_mov_kind}
use Rattle.mov_model.proofs.mov_files_are_a_kind.Goals as goal

pub returns : goal.returns
returns c = is_mov_kind
