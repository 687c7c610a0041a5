use Rattle.carrier_model.specs.Info.{info, info_items, SetsInfo, InfoReady, ItemsSmall}
use Rattle.carrier_model.proofs.Lists.{lists_values}
use Rattle.carrier_model.proofs.Info.{info_rereads, part_sets, closed_is, fresh_is}
use Rattle.carrier_model.proofs.info_is_updated.Goals as goal

pub returns : goal.returns
returns c = λ t e name cs s r. lists_values info info_items SetsInfo InfoReady ItemsSmall info_rereads part_sets closed_is fresh_is t e name cs s r
