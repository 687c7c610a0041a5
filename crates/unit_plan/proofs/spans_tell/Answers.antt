use Rattle.unit_plan.proofs.Overlaid.{spliced_length}
use Rattle.unit_plan.proofs.Spliced.{ascend_in}
use Rattle.unit_plan.proofs.spans_tell.Goals as goal

pub returns-clause-ascend : goal.returns-clause-ascend
returns-clause-ascend c = λ from end ks b h. ascend_in from end ks b h

pub returns-clause-len : goal.returns-clause-len
returns-clause-len c = spliced_length
