use Rattle.wave_model.proofs.Law.{edited_law}
use Rattle.wave_model.proofs.new_file_is_edited.Goals as goal

pub returns : goal.returns
returns c = λ o e bytes sup b l. edited_law o e bytes sup b l
