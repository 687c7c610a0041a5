use Rattle.std.proofs.Common.{◌≡◌, ◌++◌, ◌-◌, ◌*◌, drop, map}
use Rattle.container_model.specs.Ds64.{rows}
use Rattle.rf64_ds64.specs.Ds64.{row_of}
use Rattle.rf64_ds64.proofs.read_rows.Given as goal

-- what is read so far and the rows that are left are the whole
abbrev pub invariant-rows : goal.invariant-rows
invariant-rows l = map row_of l.found.items ++ rows (l.count - l.k) (drop (12 * l.k) l.table) ≡ rows l.count l.table
