use Rattle.std.proofs.Common.{◌≡◌, drop}
use Rattle.std.specs.List.{list_all}
use Rattle.std.specs.Str.{is_utf8}
use Rattle.csv.specs.Records.{fields_of}
use Rattle.core_csv.proofs.row.are_texts.Given as goal

-- what is said of the cells that are left is said of all
abbrev pub invariant-loop-at : goal.invariant-loop-at
invariant-loop-at l = list_all is_utf8 (drop l.at (fields_of l.row)) ≡ list_all is_utf8 (fields_of l.row)
