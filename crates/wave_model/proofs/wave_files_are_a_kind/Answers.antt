use Rattle.wave_model.proofs.Kind.{wave_law}
use Rattle.wave_model.proofs.wave_files_are_a_kind.Goals as goal

pub returns : goal.returns
returns c = wave_law
