use Rattle.avi_model.proofs.InPlace.{edit_stays}
use Rattle.avi_model.proofs.numbers_stay_in_place.Goals as goal

pub returns : goal.returns
returns c = λ o e b s r. edit_stays o b s e r
