use Rattle.std.proofs.Common.{◌≡◌, ℕ, ◌+◌, List, [], drop}
use Rattle.csv.specs.Records.{fields_of}
use Rattle.core_table.specs.Sets.{has}
use Rattle.core_csv.specs.Table.{header_fault}
use Rattle.core_csv.proofs.header.check_columns.Given as goal

-- the names so far, and the fault of the columns that are left
abbrev pub invariant-loop-at : goal.invariant-loop-at
invariant-loop-at l = (earlier : List (List ℕ)) × ((other : List ℕ) → has l.seen other ≡ has earlier other)
    × (header_fault (l.at + 1) earlier (drop l.at (fields_of l.header)) ≡ header_fault 2 [] (drop 1 (fields_of l.header)))
