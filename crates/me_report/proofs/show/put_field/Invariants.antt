use Rattle.std.proofs.Common.{◌≡◌, ◌++◌, drop}
use Rattle.std.specs.List.{flat_map}
use Rattle.part_tree.specs.Fields.{values}
use Rattle.me_report.specs.Report.{field_lines, value_line}
use Rattle.me_report.proofs.show.put_field.Given as goal

-- the lines so far, and those of the values that are left
abbrev pub invariant-values : goal.invariant-values
invariant-values l = l.out.items ++ flat_map (value_line (values l.fields) l.name) (drop l.value-index (values l.fields l.name)) ≡ l.fn.out.items ++ field_lines (values l.fields) l.name
