use Rattle.std.proofs.Common.{refl}
use Rattle.mov_plan.proofs.KeyBody.{new_found}
use Rattle.mov_plan.proofs.keys.new_keys.Goals as goal

pub returns-in-Some-clause-table : goal.returns-in-Some-clause-table
returns-in-Some-clause-table c = new_found _ c.in-Some.table c.in_ok-read_keys.field-0 c.in_ok-read_keys.ensures.table c.in-Some.is refl
