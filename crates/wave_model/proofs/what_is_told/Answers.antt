use Rattle.wave_model.proofs.Map.{parts_counted, sound_is}
use Rattle.wave_model.proofs.Told.{bodies_told}
use Rattle.wave_model.proofs.what_is_told.Goals as goal

pub returns : goal.returns
returns c = record { parts = λ o b s. parts_counted o b s; bodies = λ o b s. bodies_told o b s; sound = λ o b s. sound_is o b s }
