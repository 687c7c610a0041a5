use Rattle.wave_model.proofs.Law.{small_file}
use Rattle.wave_model.proofs.new_file_is_no_larger.Goals as goal

pub returns : goal.returns
returns c = λ o e l. small_file o e l
