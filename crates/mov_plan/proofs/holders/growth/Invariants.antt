use Rattle.std.proofs.Common.{◌≡◌, take}
use Rattle.std.specs.Prelude.{sum_by}
use Rattle.mov_plan.specs.Holders.{grown_by}
use Rattle.mov_plan.proofs.holders.growth.Given as goal

abbrev pub invariant-tables : goal.invariant-tables
invariant-tables l = l.sum ≡ sum_by grown_by (take l.table-index l.tables)
