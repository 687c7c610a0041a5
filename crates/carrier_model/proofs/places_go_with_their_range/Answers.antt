use Rattle.carrier_model.proofs.Gaps.{places_put}
use Rattle.carrier_model.proofs.places_go_with_their_range.Goals as goal

pub returns : goal.returns
returns c = places_put
