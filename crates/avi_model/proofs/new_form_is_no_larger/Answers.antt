use Rattle.avi_model.proofs.AsKind.{form_no_larger}
use Rattle.avi_model.proofs.new_form_is_no_larger.Goals as goal

pub returns : goal.returns
returns c = λ o e small. form_no_larger o e small
