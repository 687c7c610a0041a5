use Rattle.avi_plan.proofs.Standing.{among_spans}
use Rattle.avi_plan.proofs.spans_go_with_tables.Goals as goal

pub returns : goal.returns
returns c = λ ms b ks bytes s order clear named. among_spans b bytes s ms ks order clear named
