use Rattle.std.proofs.Common.{◌≡◌, ◌++◌, drop}
use Rattle.rf64_ds64.specs.Ds64.{row_bytes}
use Rattle.rf64_ds64.proofs.put_rows.Given as goal

-- what is spelled so far and the rows that are left are the whole
abbrev pub invariant-rows : goal.invariant-rows
invariant-rows l = l.out.items ++ row_bytes (drop l.row-index l.rows) ≡ l.fn.out.items ++ row_bytes l.rows
