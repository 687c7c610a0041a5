use Rattle.avi_model.proofs.AsKind.{spliced_as_one}
use Rattle.avi_model.proofs.new_is_one_splice.Goals as goal

pub returns : goal.returns
returns c = λ o e bytes s small. spliced_as_one o e bytes s small
