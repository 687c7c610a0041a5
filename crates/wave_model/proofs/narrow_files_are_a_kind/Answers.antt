use Rattle.wave_model.proofs.Narrow.{narrow_law}
use Rattle.wave_model.proofs.narrow_files_are_a_kind.Goals as goal

pub returns : goal.returns
returns c = narrow_law
