use Rattle.std.proofs.Common.{arith}
use Rattle.container_model.proofs.Splice.{shift_order}
use Rattle.container_model.proofs.places_keep_order.Goals as goal

pub returns : goal.returns
returns c = λ end cs p q h o r lt. shift_order 0 end cs p q h o r (omega arith) lt
