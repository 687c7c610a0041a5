use Rattle.wave_model.proofs.Law.{new_idle}
use Rattle.wave_model.proofs.idle_edit_keeps_the_file.Goals as goal

pub returns : goal.returns
returns c = λ o e bytes sup none. new_idle o bytes sup e none
