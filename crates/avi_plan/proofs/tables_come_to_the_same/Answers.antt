use Rattle.std.proofs.Common.{length}
use Rattle.avi_plan.proofs.Renewed.{tables_are}
use Rattle.avi_plan.proofs.tables_come_to_the_same.Goals as goal

pub returns : goal.returns
returns c = λ ms b base xs tabled asc named. tables_are ms b base xs 0 (length b) tabled asc named
