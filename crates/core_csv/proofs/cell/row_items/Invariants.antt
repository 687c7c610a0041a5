use Rattle.std.proofs.Common.{◌≡◌, ◌+◌, drop}
use Rattle.csv.specs.Records.{fields_of}
use Rattle.core_csv.specs.Table.{row_items}
use Rattle.core_csv.proofs.Items.{before}
use Rattle.core_csv.proofs.cell.row_items.Given as goal

-- the items so far, before those of the cells that are left
abbrev pub invariant-loop-at : goal.invariant-loop-at
invariant-loop-at l =
    before l.items.items (row_items l.n (l.at + 1) (drop l.at (fields_of l.header)) (drop l.at (fields_of l.row))) ≡ row_items l.n 2 (drop 1 (fields_of l.header)) (drop 1 (fields_of l.row))
