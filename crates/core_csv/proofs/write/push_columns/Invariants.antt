use Rattle.std.proofs.Common.{◌≡◌, ◌≤◌, ◌-◌, [], ◌++◌, drop, length}
use Rattle.csv.specs.Records.{fields_of, partial_of}
use Rattle.part_tree.specs.Fields.{names, values}
use Rattle.core_csv.specs.Row.{labels, texts}
use Rattle.core_csv.proofs.write.push_columns.Given as goal

-- the cells so far, and those of the names that are left
abbrev pub invariant-names : goal.invariant-names
invariant-names l = record {
  inside : l.k ≤ length (names l.fields);
  heads : fields_of l.header ++ labels (values l.fields) (drop l.k (names l.fields)) ≡ fields_of l.fn.header ++ labels (values l.fields) (names l.fields);
  cells : fields_of l.row ++ texts (values l.fields) (drop l.k (names l.fields)) ≡ fields_of l.fn.row ++ texts (values l.fields) (names l.fields);
  whole_header : partial_of l.header ≡ [];
  whole_row : partial_of l.row ≡ [];
}

abbrev pub decreases-names : goal.decreases-names
decreases-names l = length (names l.fields) - l.k
