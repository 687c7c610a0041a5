use Rattle.std.proofs.Common.{◌≡◌, ◌≤◌, ◌-◌, ◌++◌, drop, length}
use Rattle.std.specs.List.{flat_map}
use Rattle.part_tree.specs.Fields.{names, values}
use Rattle.me_report.specs.Report.{all_lines, field_lines}
use Rattle.me_report.proofs.show.put_fields.Given as goal

-- the lines so far, and those of the names that are left
abbrev pub invariant-names : goal.invariant-names
invariant-names l = record {
  inside : l.k ≤ length (names l.fields);
  lines : l.out.items ++ flat_map (field_lines (values l.fields)) (drop l.k (names l.fields)) ≡ l.fn.out.items ++ all_lines l.fields;
}

abbrev pub decreases-names : goal.decreases-names
decreases-names l = length (names l.fields) - l.k
