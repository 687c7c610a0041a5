use Rattle.std.proofs.Common.{◌≡◌, drop}
use Rattle.rf64_ds64.proofs.Rows.{nth_from}
use Rattle.rf64_ds64.proofs.nth_row.Given as goal

-- what is left to search answers as the whole
abbrev pub invariant-rows : goal.invariant-rows
invariant-rows l = nth_from l.id.0 l.left (drop l.row-index l.rows) ≡ nth_from l.id.0 l.nth l.rows
