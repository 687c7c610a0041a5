use Rattle.avi_model.proofs.NamedKind.{spliced_as_one}
use Rattle.avi_model.proofs.named_new_is_one_splice.Goals as goal

pub returns : goal.returns
returns c = spliced_as_one
