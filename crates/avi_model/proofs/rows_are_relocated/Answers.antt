use Rattle.avi_model.proofs.Relocated.{olds_relocated, supers_relocated, entries_relocated}
use Rattle.avi_model.proofs.rows_are_relocated.Goals as goal

pub returns : goal.returns
returns c = record { olds = λ moves base movi n b. olds_relocated moves n b base movi; supers = supers_relocated; entries = entries_relocated }
