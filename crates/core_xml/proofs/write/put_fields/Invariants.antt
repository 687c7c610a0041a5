use Rattle.std.proofs.Common.{◌≡◌, ◌≤◌, ◌-◌, ◌++◌, drop, length}
use Rattle.part_tree.specs.Fields.{names, values}
use Rattle.core_xml.specs.Written.{lines}
use Rattle.core_xml.proofs.write.put_fields.Given as goal

-- what is written, and the lines of the names that are left
abbrev pub invariant-names : goal.invariant-names
invariant-names l = record {
  inside : l.k ≤ length (names l.fields);
  text : l.out.items ++ lines (values l.fields) (drop l.k (names l.fields)) ≡ l.fn.out.items ++ lines (values l.fields) (names l.fields);
}

abbrev pub decreases-names : goal.decreases-names
decreases-names l = length (names l.fields) - l.k
